use Rattle.core_state.specs.State.{ended}
use borrow.Author.Rules.{rules}
use Rattle.core_state.proofs.judged.has_ended.Goals as goal

pub returns : goal.returns
unfolding ended
returns c = λ rs ps. rw (← c.none_waits.ensures)
