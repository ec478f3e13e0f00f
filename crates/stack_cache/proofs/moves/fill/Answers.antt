use native.Mathlib.Omega.{arith}
use Prim.Native.Nat.{◌-◌, ◌+◌}
use mathlib.Core.Path.{◌≡◌, ap, ◌∙◌}
use lib.ListN.{length}
use Rattle.stack_cache.specs.StackLaws.{length_put_cache_word, filled_step}
use Rattle.stack_cache.proofs.moves.fill.Goals as goal

pub loop-preserved : goal.loop-preserved
loop-preserved c = let inv = c.loop.invariant in
    let left = c.args.words - c.loop.counter in
    let one_less : c.args.words - (c.loop.counter + 1) ≡ left - 1 = omega arith in
    let e = rw (c.read_word.ensures, c.sub.ensures) at c.put_cache_word.ensures in
    (ap length e ∙ length_put_cache_word _ _ _ ∙ inv.0, rw one_less (filled_step _ _ _ _ left _ _ (omega (arith, c.loop-test.true)) c.add-a.ensures e ∙ inv.1))
