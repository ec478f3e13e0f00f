use Rattle.text.specs.Page.{Puts}
use Rattle.case_report.specs.Changes.{texts}
use Rattle.case_report.specs.RecordLines.{record_word}
use Rattle.case_report.proofs.record_lines.put_record.Given as goal

abbrev pub invariant-loop-k : goal.invariant-loop-k
invariant-loop-k l = Puts l.initial.page l.page (texts l.k (record_word l.bytes))
