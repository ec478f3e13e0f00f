use Rattle.marking_rules.specs.Rules.{asked}
use Rattle.marking_rules.proofs.private_stack.Goals as goal

pub returns-in-Sres : goal.returns-in-Sres
unfolding asked
returns-in-Sres c = rw c.in-Sres.is

pub returns-in-Sens : goal.returns-in-Sens
unfolding asked
returns-in-Sens c = rw (c.in-Sens.is, ← c.private_amount.ensures)

pub returns-in-Sfree : goal.returns-in-Sfree
unfolding asked
returns-in-Sfree c = rw c.in-Sfree.is

pub returns-in-Sspill : goal.returns-in-Sspill
unfolding asked
returns-in-Sspill c = rw (c.in-Sspill.is, ← c.private_amount-in-Sspill.ensures)
