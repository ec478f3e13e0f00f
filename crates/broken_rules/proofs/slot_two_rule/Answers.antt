use Rattle.isa.specs.declared.Operation.TheVariants.{Alu}
use Rattle.broken_rules.proofs.slot_two_rule.Goals as goal

pub returns : goal.returns
returns c = rw (← c.private_operand.ensures) (c.first_rule.ensures (Alu c.args.j.operation) c.asked_of_alu.ensures)
