use Prim.Native.Nat.{◌≤◌, ◌+◌, ◌-◌}
use mathlib.Core.Path.{◌≡◌}
use lib.ListN.{drop}
use Rattle.assembly.specs.Forms.{forms, sizes, start_of}
use Rattle.assembly.proofs.table.start_of.Given as goal

abbrev pub invariant-loop-i : goal.invariant-loop-i
invariant-loop-i l = (l.i ≤ 27) × (l.i ≤ l.form) × (l.start + start_of (drop l.i (sizes forms)) (l.form - l.i) ≡ start_of (sizes forms) l.form)
