use borrow.Author.Tests.{ne_eqb}
use Rattle.case_state.specs.KeptState.{products_of}
use Rattle.case_state.proofs.products_of.Goals as goal

pub returns-then-count-eq0 : goal.returns-then-count-eq0
unfolding products_of
returns-then-count-eq0 c = rw (← c.number-count.ensures, c.if-count-eq0.true)

pub returns-then-count-eq1 : goal.returns-then-count-eq1
unfolding products_of
returns-then-count-eq1 c = rw (← c.number-count.ensures, c.if-count-eq1.true, c.product_of-first.ensures, c.word.ensures)

pub returns : goal.returns
unfolding products_of
returns c = rw (← c.number-count.ensures, ne_eqb _ _ c.if-count-eq0.false, ne_eqb _ _ c.if-count-eq1.false, c.product_of-first.ensures, c.word.ensures, c.product_of-second.ensures, c.wait_behind.ensures)
