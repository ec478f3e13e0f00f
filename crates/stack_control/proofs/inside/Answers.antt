use borrow.Author.Tests.{eq-eqb, ne_eqb}
use Rattle.stack_control.proofs.inside.Goals as goal

pub returns-then-words-eq0 : goal.returns-then-words-eq0
returns-then-words-eq0 c = rw (eq-eqb _ _ c.if-words-eq0.true)

pub returns : goal.returns
returns c = rw (ne_eqb _ _ c.if-words-eq0.false)
