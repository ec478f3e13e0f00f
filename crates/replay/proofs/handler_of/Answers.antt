use mathlib.Core.Path.{ap, ◌∙◌}
use Rattle.replay.specs.Replay.{handler_at}
use Rattle.replay.proofs.handler_of.Goals as goal

pub returns : goal.returns
returns c = c.handler_at.ensures ∙ ap (handler_at _) c.word_at.ensures
