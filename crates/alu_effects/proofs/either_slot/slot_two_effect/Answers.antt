use Rattle.alu_effects.specs.AluEffects.{slot_two_effect}
use mathlib.Core.Path.{sym, ◌∙◌}
use Rattle.alu_effects.proofs.either_slot.slot_two_effect.Goals as goal

pub returns-then-operand : goal.returns-then-operand
unfolding slot_two_effect
returns-then-operand c = rw (sym c.operand.ensures ∙ c.if-operand.true) c.alu_effect.ensures

pub returns : goal.returns
unfolding slot_two_effect
returns c = rw (sym c.operand.ensures ∙ c.if-operand.false)
