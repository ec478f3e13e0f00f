use Rattle.alu_effects.specs.AluEffects.{op2_value}
use Rattle.alu_effects.proofs.either_slot.op2_value.Goals as goal

pub returns-in-Register : goal.returns-in-Register
unfolding op2_value
returns-in-Register c = rw c.in-Register.is c.register.ensures

pub returns-in-Immediate : goal.returns-in-Immediate
unfolding op2_value
returns-in-Immediate c = rw c.in-Immediate.is

pub returns-in-Long : goal.returns-in-Long
unfolding op2_value
returns-in-Long c = rw c.in-Long.is
