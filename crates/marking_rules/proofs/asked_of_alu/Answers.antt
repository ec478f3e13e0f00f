use mathlib.Core.Path.{◌∙◌}
use mathlib.Core.Bool.{◌||◌}
use Rattle.marking_rules.specs.Rules.{asked, of_result}
use Rattle.marking_rules.proofs.asked_of_alu.Goals as goal

pub returns-in-Arithmetic : goal.returns-in-Arithmetic
unfolding asked
returns-in-Arithmetic c = rw c.in-Arithmetic.is (c.result.ensures ∙ (λ i. of_result (c.public_register.ensures i) (c.private_register.ensures i || c.private_op2.ensures i)))

pub returns-in-Compare : goal.returns-in-Compare
unfolding asked
returns-in-Compare c = rw c.in-Compare.is (c.result-in-Compare.ensures ∙ (λ i. of_result (c.public_predicate.ensures i) (c.private_register-in-Compare.ensures i || c.private_op2-in-Compare.ensures i)))

pub returns-in-Predicate : goal.returns-in-Predicate
unfolding asked
returns-in-Predicate c = rw c.in-Predicate.is (c.result-in-Predicate.ensures ∙ (λ i. of_result (c.public_predicate-in-Predicate.ensures i) (c.private_operand.ensures i || c.private_operand-in-Predicate.ensures i)))

pub returns-in-BitCopy : goal.returns-in-BitCopy
unfolding asked
returns-in-BitCopy c = rw c.in-BitCopy.is (c.result-in-BitCopy.ensures ∙ (λ i. of_result (c.public_register-in-BitCopy.ensures i) (c.private_register-in-BitCopy.ensures i || c.private_operand-in-BitCopy.ensures i)))
