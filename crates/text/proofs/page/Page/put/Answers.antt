use Rattle.text.specs.PageLaws.{puts_none, puts_step}
use Rattle.text.proofs.page.Page.put.Goals as goal

pub loop-b-init : goal.loop-b-init
loop-b-init c = puts_none c.args.self.now

pub loop-b-preserved : goal.loop-b-preserved
loop-b-preserved c = puts_step _ _ _ _ _ c.loop-b-test.true c.loop-b.invariant c.put_byte.ensures
