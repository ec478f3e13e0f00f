use Rattle.std.specs.Prelude.{◌≤◌, drop}
use Rattle.text.specs.PageLaws.{Leaves}
use Rattle.case_report.specs.Form.{filled}
use Rattle.case_report.proofs.form.say.Given as goal

abbrev pub invariant-loop-b : goal.invariant-loop-b
invariant-loop-b l = record {
  near : l.k ≤ l.b-index;
  left : Leaves l.initial.page l.page (filled (drop l.b-index l.form) (drop l.k l.numbers)) (filled l.form l.numbers);
}
