use Rattle.replay.specs.Replay.{handler_at}
use Rattle.replay.proofs.handler_at.Goals as goal

pub returns : goal.returns
unfolding handler_at
returns c = c.word_at.ensures
