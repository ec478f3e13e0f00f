use mathlib.Core.Path.{sym, ◌∙◌}
use Rattle.text.specs.Number.{decimal_of}
use Rattle.text.proofs.numbers.decimal.Goals as goal

pub returns-then-is_empty : goal.returns-then-is_empty
unfolding decimal_of
returns-then-is_empty c = rw (sym c.is_empty.ensures ∙ c.if-is_empty.true)

pub returns : goal.returns
unfolding decimal_of
returns c = rw (sym c.is_empty.ensures ∙ c.if-is_empty.false) c.digits.ensures
