use Prim.Native.Nat.{◌≤◌, ◌/◌, ◌+◌, ◌-◌}
use mathlib.Core.Path.{◌≡◌}
use lib.ListN.{length}
use Rattle.single_path.specs.Check.{walk_from}
use Rattle.single_path.proofs.walk.Given as goal

abbrev pub invariant-loop : goal.invariant-loop
invariant-loop l =
    (l.address ≤ length l.code) × (walk_from l.marking l.code (length l.code / 4 + 1 - l.counter) l.address ≡ walk_from l.marking l.code (length l.code / 4 + 1) 0)
