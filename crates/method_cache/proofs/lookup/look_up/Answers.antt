use mathlib.Core.Path.{refl, sym, ◌∙◌}
use Rattle.method_cache.specs.MethodCache.{looked}
use Rattle.method_cache.specs.Words.{looked_words, looked_count}
use Rattle.method_cache.proofs.lookup.look_up.Goals as goal

pub returns-then-is_held : goal.returns-then-is_held
unfolding looked_words looked_count
returns-then-is_held c = let e = sym c.is_held.ensures.0 ∙ c.if-is_held.true in (rw e refl, rw e refl, c.is_held.ensures.1)

pub settle-requires : goal.settle-requires
settle-requires c = c.evicted-k.ensures.1

pub returns : goal.returns
unfolding looked_words looked_count looked
returns c =
    let e = sym c.is_held.ensures.0 ∙ c.if-is_held.false in
    let s = c.size_at-size.ensures in
    (rw (e, ← s, c.evicted-k.ensures.0) c.settle.ensures.0, rw (e, ← s) refl, c.is_held.ensures.1)
