use Prim.Native.Nat.{◌+◌, ◌-◌, ◌*◌}
use mathlib.Core.Path.{◌≡◌}
use Rattle.case_kept.specs.Indices.{NOTES}
use Rattle.case_kept.specs.Places.{outside_from, first_outside}
use Rattle.case_kept.proofs.places.first_outside.Given as goal

abbrev pub invariant-loop-n : goal.invariant-loop-n
invariant-loop-n l = outside_from (l.n-end - l.n) l.kept (NOTES + 3 * l.n) ≡ first_outside l.kept
