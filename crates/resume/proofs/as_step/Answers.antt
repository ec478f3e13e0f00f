use Rattle.resume_model.specs.Resume.{as_step}
use borrow.Author.Tests.{ne_eqb}
use Rattle.resume.proofs.as_step.Goals as goal

pub returns-then-bundles-eq1 : goal.returns-then-bundles-eq1
unfolding as_step
returns-then-bundles-eq1 c = rw c.if-bundles-eq1.true

pub returns : goal.returns
unfolding as_step
returns c = rw (ne_eqb _ _ c.if-bundles-eq1.false)
