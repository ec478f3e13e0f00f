use lib.ListN.{get_or-eq_default}
use mathlib.Core.Path.{sym}
use Rattle.alu_effects.proofs.either_slot.register.Goals as goal

pub returns : goal.returns
returns c = sym (get_or-eq_default c.args.registers.now 0 c.if-k-registers.false)
