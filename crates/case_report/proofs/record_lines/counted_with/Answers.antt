use borrow.Author.Tests.{eq-eqb, ne_eqb}
use native.Mathlib.Omega.{arith}
use Rattle.case_report.proofs.record_lines.counted_with.Goals as goal

pub overflow_add-result : goal.overflow_add-result
overflow_add-result c = omega arith

pub returns-then-b-eq-FILL : goal.returns-then-b-eq-FILL
returns-then-b-eq-FILL c = (rw (eq-eqb _ _ c.if-b-eq-FILL.true), omega arith)

pub returns : goal.returns
returns c = (rw (ne_eqb _ _ c.if-b-eq-FILL.false), omega arith)
