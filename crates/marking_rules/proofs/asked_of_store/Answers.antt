use mathlib.Core.Bool.{true, false, not}
use Rattle.marking_rules.specs.Rules.{asked}
use Rattle.marking_rules.proofs.asked_of_store.Goals as goal

pub returns : goal.returns
unfolding asked
returns c = λ w offset i. record { control = false; destination = false; source = false; access = true; base = c.private_register.ensures i; store = not (c.private_store.ensures i); value = c.private_register-2.ensures i; operand = false }
