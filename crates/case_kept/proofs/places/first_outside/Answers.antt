use native.Mathlib.Omega.{arith}
use Prim.Native.Nat.{◌-◌, ◌+◌, ◌*◌}
use mathlib.Core.Path.{◌≡◌}
use borrow.Author.Tests.{le-leb, lt-leb}
use Rattle.case_kept.specs.PlacesLaws.{outside_some}
use Rattle.case_kept.proofs.places.first_outside.Goals as goal

pub returns-then-number : goal.returns-then-number
returns-then-number c =
    rw (← c.loop-n.invariant, outside_some (c.min-n-end.result - c.loop-n.n) _ _ (omega arith), ← c.number-length.ensures, ← c.number-in-loop-n.ensures, ← c.number-in-loop-n-2.ensures, le-leb _ _ c.if-number.true, ← c.number-then-number.ensures)

pub loop-n-preserved : goal.loop-n-preserved
loop-n-preserved c =
    let left : c.min-n-end.result - (c.loop-n.n + 1) ≡ c.min-n-end.result - c.loop-n.n - 1 = omega arith in
    let at : 2400 + 3 * (c.loop-n.n + 1) ≡ 2400 + 3 * c.loop-n.n + 3 = omega arith in
    rw (← c.loop-n.invariant, left, at, outside_some (c.min-n-end.result - c.loop-n.n) _ _ (omega arith), ← c.number-length.ensures, ← c.number-in-loop-n.ensures, ← c.number-in-loop-n-2.ensures, lt-leb _ _ c.if-number.false)
