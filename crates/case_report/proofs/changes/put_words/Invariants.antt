use Rattle.text.specs.Page.{Puts}
use Rattle.case_report.specs.Changes.{texts, change_at}
use Rattle.case_report.proofs.changes.put_words.Given as goal

abbrev pub invariant-loop-k : goal.invariant-loop-k
invariant-loop-k l = Puts l.initial.page l.page (texts l.k (change_at l.label l.after l.before))
