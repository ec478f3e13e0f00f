use mathlib.Core.Path.{sym, ap, ◌∙◌}
use Rattle.core_state.specs.Core.{load_words}
use Rattle.core_state.proofs.waiting.load_words.Goals as goal

pub returns-in-Nothing : goal.returns-in-Nothing
returns-in-Nothing c = c.no_load.ensures ∙ ap load_words (sym c.in-Nothing.is)

pub returns-in-Waits : goal.returns-in-Waits
returns-in-Waits c = c.load_waits.ensures ∙ ap load_words (sym c.in-Waits.is)
