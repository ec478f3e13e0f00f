use Rattle.alu_effects.specs.AluEffects.{alu_effect}
use Rattle.alu_effects.proofs.either_slot.alu_effect.Goals as goal

pub returns-in-Arithmetic : goal.returns-in-Arithmetic
unfolding alu_effect
returns-in-Arithmetic c = rw (c.in-Arithmetic.is, ← c.register.ensures, ← c.op2_value.ensures, c.arithmetic-value.ensures)

pub returns-in-Compare : goal.returns-in-Compare
unfolding alu_effect
returns-in-Compare c = rw (c.in-Compare.is, ← c.register-in-Compare.ensures, ← c.op2_value-in-Compare.ensures, c.compare-value.ensures)

pub returns-in-Predicate : goal.returns-in-Predicate
unfolding alu_effect
returns-in-Predicate c = rw (c.in-Predicate.is, ← c.operand.ensures, ← c.operand-in-Predicate.ensures, c.combine-value.ensures)

pub returns-in-BitCopy : goal.returns-in-BitCopy
unfolding alu_effect
returns-in-BitCopy c = rw (c.in-BitCopy.is, ← c.register-in-BitCopy.ensures, ← c.operand-in-BitCopy.ensures, c.copy_bit-value.ensures)
