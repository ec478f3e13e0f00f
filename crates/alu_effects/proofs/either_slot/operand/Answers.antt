use lib.ListN.{get_or-eq_default}
use mathlib.Core.Path.{sym}
use mathlib.Core.Bool.{false}
use Rattle.alu_effects.specs.AluEffectLaws.{not_beq_false}
use Rattle.alu_effects.proofs.either_slot.operand.Goals as goal

pub returns : goal.returns
returns c = let a = c.args in rw (get_or-eq_default a.predicates.now false c.if-k-predicates.false) (sym (not_beq_false a.p.negated))
