use mathlib.Core.Path.{sym, ◌∙◌}
use Rattle.case_state.proofs.load_of.Goals as goal

pub returns-then-is_set : goal.returns-then-is_set
returns-then-is_set c = rw (sym c.is_set.ensures ∙ c.if-is_set.true, c.word.ensures, c.word-then-is_set.ensures)

pub returns : goal.returns
returns c = rw (sym c.is_set.ensures ∙ c.if-is_set.false)
