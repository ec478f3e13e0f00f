use native.Mathlib.Omega.{arith}
use Prim.Native.Nat.{◌-◌, ◌+◌}
use mathlib.Core.Path.{◌≡◌, ap, ◌∙◌}
use lib.ListN.{length}
use Rattle.big_endian.specs.BytesLaws.{length_put_number}
use Rattle.stack_cache.specs.StackLaws.{spilled_step}
use Rattle.stack_cache.proofs.moves.spill.Goals as goal

pub loop-preserved : goal.loop-preserved
loop-preserved c = let inv = c.loop.invariant in
    let left = c.args.words - c.loop.counter in
    let one_less : c.args.words - (c.loop.counter + 1) ≡ left - 1 = omega arith in
    let e = rw (c.sub.ensures, c.cache_word.ensures) at c.write_word.ensures in
    (ap length e ∙ length_put_number 4 _ _ _ ∙ inv.0, rw one_less (spilled_step _ _ _ _ left _ _ (omega (arith, c.loop-test.true)) c.sub-a.ensures e ∙ inv.1))
