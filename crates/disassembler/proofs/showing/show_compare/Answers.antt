use Rattle.disassembler.specs.Shown.{shown}
use Rattle.disassembler.proofs.showing.show_compare.Goals as goal

pub returns-in-Register : goal.returns-in-Register
unfolding shown
returns-in-Register c = rw (c.in-Register.is, ← c.compare_code-function.ensures) c.three.ensures

pub returns-in-Immediate : goal.returns-in-Immediate
unfolding shown
returns-in-Immediate c = rw (c.in-Immediate.is, ← c.compare_code-function.ensures) c.three-in-Immediate.ensures

pub returns-in-Long : goal.returns-in-Long
unfolding shown
returns-in-Long c = rw c.in-Long.is c.one.ensures
