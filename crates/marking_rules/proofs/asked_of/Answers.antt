use mathlib.Core.Path.{sym, ap, ◌∙◌}
use mathlib.Core.Bool.{not, ◌||◌}
use Rattle.marking_rules.specs.Rules.{of_result, controlling, asked}
use Rattle.marking_rules.specs.RuleLaws.{stack_row, transfer_row}
use Rattle.marking_rules.proofs.asked_of.Goals as goal

pub returns-in-Multiply : goal.returns-in-Multiply
unfolding asked
returns-in-Multiply c = let m = c.args.m in
    rw c.in-Multiply.is (c.result.ensures ∙ (λ i. of_result (not m.sl || not m.sh) (c.private_register.ensures i || c.private_register-in-Multiply.ensures i)))

pub returns-in-Mfs : goal.returns-in-Mfs
unfolding asked
returns-in-Mfs c = rw c.in-Mfs.is (c.result-in-Mfs.ensures ∙ (λ i. of_result (c.public_register.ensures i) (c.private_special.ensures i)))

pub returns-in-StackControl : goal.returns-in-StackControl
returns-in-StackControl c = rw c.in-StackControl.is (c.controlling.ensures ∙ ap controlling c.private_stack.ensures ∙ sym (stack_row _ _))

pub returns-in-Transfer : goal.returns-in-Transfer
returns-in-Transfer c = rw c.in-Transfer.is (c.controlling-in-Transfer.ensures ∙ ap controlling c.private_target.ensures ∙ sym (transfer_row _ _ _))

pub returns-in-Trap : goal.returns-in-Trap
unfolding asked
returns-in-Trap c = rw c.in-Trap.is c.controlling-in-Trap.ensures

pub returns-in-Xret : goal.returns-in-Xret
unfolding asked
returns-in-Xret c = rw c.in-Xret.is c.controlling-in-Xret.ensures
