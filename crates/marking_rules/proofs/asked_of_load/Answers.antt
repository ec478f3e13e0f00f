use mathlib.Core.Bool.{true, false}
use Rattle.marking_rules.specs.Rules.{asked}
use Rattle.marking_rules.proofs.asked_of_load.Goals as goal

pub returns : goal.returns
unfolding asked
returns c = λ w offset i. record { control = false; destination = c.public_register.ensures i; source = c.private_store.ensures i; access = true; base = c.private_register.ensures i; store = false; value = false; operand = false }
