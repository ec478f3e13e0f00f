use Rattle.disassembler.specs.Shown.{shown}
use Rattle.disassembler.proofs.showing.show_stack.Goals as goal

pub returns-in-Sres : goal.returns-in-Sres
unfolding shown
returns-in-Sres c = rw c.in-Sres.is c.one.ensures

pub returns-in-Sens : goal.returns-in-Sens
unfolding shown
returns-in-Sens c = rw c.in-Sens.is c.show_amount.ensures

pub returns-in-Sfree : goal.returns-in-Sfree
unfolding shown
returns-in-Sfree c = rw c.in-Sfree.is c.one-in-Sfree.ensures

pub returns-in-Sspill : goal.returns-in-Sspill
unfolding shown
returns-in-Sspill c = rw c.in-Sspill.is c.show_amount-in-Sspill.ensures
