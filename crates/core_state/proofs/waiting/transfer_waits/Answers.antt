use Rattle.core_state.specs.Core.{transfer_words}
use Rattle.core_state.proofs.waiting.transfer_waits.Goals as goal

pub returns-in-Br : goal.returns-in-Br
unfolding transfer_words
returns-in-Br c = rw c.in-Br.is

pub returns-in-Call : goal.returns-in-Call
unfolding transfer_words
returns-in-Call c = rw c.in-Call.is

pub returns-in-Block : goal.returns-in-Block
unfolding transfer_words
returns-in-Block c = rw c.in-Block.is

pub returns-in-Xret : goal.returns-in-Xret
unfolding transfer_words
returns-in-Xret c = rw c.in-Xret.is
