use Prim.Native.Nat.{◌+◌, ◌≤◌}
use mathlib.Core.Path.{◌≡◌}
use Rattle.std.specs.Prelude.{Some}
use lib.ListN.{drop}
use Rattle.text.specs.Table.{row_from, left_at}
use Rattle.text.proofs.table.row_of.Given as goal

abbrev pub invariant-loop-b : goal.invariant-loop-b
invariant-loop-b l = (l.row ≤ l.b-index) × (l.row + row_from (drop l.b-index l.table) l.s (left_at l.s l.j) ≡ row_from l.table l.s (Some l.s))
