use native.Mathlib.Omega.{arith}
use Rattle.case_report.specs.Form.{is_hole}
use Rattle.case_report.proofs.form.next_number.Goals as goal

pub returns-then-b : goal.returns-then-b
unfolding is_hole
returns-then-b c = (rw c.if-b.true, omega arith)

pub returns : goal.returns
unfolding is_hole
returns c = (rw c.if-b.false, omega arith)
