use mathlib.Core.Bool.{false}
use Rattle.marking_rules.specs.Rules.{asked}
use Rattle.marking_rules.proofs.asked_of_mts.Goals as goal

pub returns : goal.returns
unfolding asked
returns c = λ i. record { control = c.is_control.ensures i; destination = c.public_special.ensures i; source = c.private_register.ensures i; access = false; base = false; store = false; value = false; operand = false }
