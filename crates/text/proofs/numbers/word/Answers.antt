use borrow.Author.Tests.{eq-eqb, ne_eqb}
use Rattle.text.specs.Number.{word_of}
use Rattle.text.proofs.numbers.word.Goals as goal

pub returns-then-s-ne8 : goal.returns-then-s-ne8
unfolding word_of
returns-then-s-ne8 c = rw (ne_eqb _ _ c.if-s-ne8.true)

pub returns : goal.returns
unfolding word_of
returns c = rw (eq-eqb _ _ c.if-s-ne8.false) c.digits.ensures
