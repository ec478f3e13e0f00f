use borrow.Author.Tests.{eq-eqb, ne_eqb}
use Rattle.core_state.specs.Core.{transfer_in}
use Rattle.core_state.proofs.waiting.transfer_in.Goals as goal

pub returns-then-w-eq1 : goal.returns-then-w-eq1
unfolding transfer_in
returns-then-w-eq1 c = rw (eq-eqb _ _ c.if-w-eq1.true)

pub returns-then-w-eq2 : goal.returns-then-w-eq2
unfolding transfer_in
returns-then-w-eq2 c = rw (ne_eqb _ _ c.if-w-eq1.false, eq-eqb _ _ c.if-w-eq2.true)

pub returns-then-w-eq3 : goal.returns-then-w-eq3
unfolding transfer_in
returns-then-w-eq3 c = rw (ne_eqb _ _ c.if-w-eq1.false, ne_eqb _ _ c.if-w-eq2.false, eq-eqb _ _ c.if-w-eq3.true)

pub returns : goal.returns
unfolding transfer_in
returns c = rw (ne_eqb _ _ c.if-w-eq1.false, ne_eqb _ _ c.if-w-eq2.false, ne_eqb _ _ c.if-w-eq3.false)
