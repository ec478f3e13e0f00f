use Rattle.case_state.proofs.keep_target.Goals as goal

pub returns-in-Br : goal.returns-in-Br
returns-in-Br c = rw c.in-Br.is c.keep_transfer.ensures

pub returns-in-Call : goal.returns-in-Call
returns-in-Call c = rw c.in-Call.is c.keep_transfer-in-Call.ensures

pub returns-in-Block : goal.returns-in-Block
returns-in-Block c = rw c.in-Block.is c.keep_transfer-in-Block.ensures

pub returns-in-Xret : goal.returns-in-Xret
returns-in-Xret c = rw c.in-Xret.is c.keep_transfer-in-Xret.ensures
