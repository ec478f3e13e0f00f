use Rattle.core_state.specs.Writes.{delay_slots}
use Rattle.core_state.proofs.flow.delay_slots.Goals as goal

pub returns-in-Br : goal.returns-in-Br
unfolding delay_slots
returns-in-Br c = rw c.in-Br.is

pub returns-in-Call : goal.returns-in-Call
unfolding delay_slots
returns-in-Call c = rw c.in-Call.is

pub returns-in-Block : goal.returns-in-Block
unfolding delay_slots
returns-in-Block c = rw c.in-Block.is

pub returns-in-Xret : goal.returns-in-Xret
unfolding delay_slots
returns-in-Xret c = rw c.in-Xret.is
