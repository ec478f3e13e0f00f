use Rattle.alu_effects.specs.AluEffects.{special}
use Rattle.alu_effects.proofs.special.read_special.Goals as goal

pub returns-in-S0 : goal.returns-in-S0
unfolding special
returns-in-S0 c = rw (c.in-S0.is, ← c.predicates_word.ensures)

pub returns-in-Sl : goal.returns-in-Sl
unfolding special
returns-in-Sl c = rw c.in-Sl.is

pub returns-in-Sh : goal.returns-in-Sh
unfolding special
returns-in-Sh c = rw c.in-Sh.is

pub returns-in-Ss : goal.returns-in-Ss
unfolding special
returns-in-Ss c = rw c.in-Ss.is

pub returns-in-St : goal.returns-in-St
unfolding special
returns-in-St c = rw c.in-St.is

pub returns-in-Srb : goal.returns-in-Srb
unfolding special
returns-in-Srb c = rw c.in-Srb.is

pub returns-in-Sro : goal.returns-in-Sro
unfolding special
returns-in-Sro c = rw c.in-Sro.is

pub returns-in-Sxb : goal.returns-in-Sxb
unfolding special
returns-in-Sxb c = rw c.in-Sxb.is

pub returns-in-Sxo : goal.returns-in-Sxo
unfolding special
returns-in-Sxo c = rw c.in-Sxo.is
