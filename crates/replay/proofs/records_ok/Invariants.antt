use Prim.Native.Nat.{◌-◌}
use mathlib.Core.Path.{◌≡◌}
use Rattle.replay.specs.Replay.{records_ok}
use Rattle.replay.proofs.records_ok.Given as goal

abbrev pub invariant-loop-i : goal.invariant-loop-i
invariant-loop-i l = records_ok l.list (l.n - l.i) l.i l.least ≡ records_ok l.list l.n 0 0
