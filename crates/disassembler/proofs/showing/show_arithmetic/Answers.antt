use Rattle.disassembler.specs.Shown.{shown}
use Rattle.disassembler.proofs.showing.show_arithmetic.Goals as goal

pub returns-in-Immediate : goal.returns-in-Immediate
unfolding shown
returns-in-Immediate c = rw (c.in-Immediate.is, ← c.alu_code-function.ensures) c.three.ensures

pub returns-in-Register : goal.returns-in-Register
unfolding shown
returns-in-Register c = rw (c.in-Register.is, ← c.alu_code-function.ensures) c.three-in-Register.ensures

pub returns-in-Long : goal.returns-in-Long
unfolding shown
returns-in-Long c = rw (c.in-Long.is, ← c.alu_code-function.ensures) c.three-in-Long.ensures
