use Rattle.broken_rules.proofs.instruction_rule.Goals as goal

pub returns : goal.returns
returns c = rw (← c.private_operand.ensures) (c.first_rule.ensures c.args.i.operation c.asked_of.ensures)
