use Rattle.std.specs.Prelude.{drop}
use Rattle.text.specs.PageLaws.{Leaves}
use Rattle.case_report.specs.Changes.{byte_texts}
use Rattle.case_report.proofs.changes.put_bytes.Given as goal

abbrev pub invariant-loop-b : goal.invariant-loop-b
invariant-loop-b l = Leaves l.initial.page l.page (byte_texts (drop l.b-index l.s)) (byte_texts l.s)
