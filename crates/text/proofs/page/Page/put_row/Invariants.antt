use Rattle.std.specs.Prelude.{drop}
use Rattle.text.specs.PageLaws.{Leaves}
use Rattle.text.specs.Table.{row_text}
use Rattle.text.proofs.page.Page.put_row.Given as goal

abbrev pub invariant-loop-b : goal.invariant-loop-b
invariant-loop-b l = Leaves l.initial.self l.self (row_text (drop l.b-index l.table) l.left) (row_text l.table l.row)
