use mathlib.Core.Path.{sym, ap, ◌∙◌}
use Rattle.core_state.specs.Core.{transfer_words}
use Rattle.core_state.proofs.waiting.transfer_words.Goals as goal

pub returns-in-Nothing : goal.returns-in-Nothing
returns-in-Nothing c = c.no_transfer.ensures ∙ ap transfer_words (sym c.in-Nothing.is)

pub returns-in-Waits : goal.returns-in-Waits
returns-in-Waits c = c.transfer_waits.ensures ∙ ap transfer_words (sym c.in-Waits.is)
