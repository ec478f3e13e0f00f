use Rattle.method_cache.specs.LoopLaws.{ok_off, ok_on}
use Rattle.method_cache.proofs.lookup.held_ok.Goals as goal

pub returns-then-not-method : goal.returns-then-not-method
returns-then-not-method c = ok_off _ _ _ _ c.if-not-method.true c.held_count-n.ensures.0

pub returns : goal.returns
returns c = ok_on _ _ _ _ _ _ c.if-not-method.false c.held_count-n.ensures.0 c.bytes_held-bytes.ensures.0 c.all_good.ensures
