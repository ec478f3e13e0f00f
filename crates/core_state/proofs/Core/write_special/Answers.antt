use mathlib.Core.Path.{refl}
use Rattle.core_state.specs.State.{with_special}
use Rattle.core_state.proofs.Core.write_special.Goals as goal

pub returns-in-S0 : goal.returns-in-S0
unfolding with_special
returns-in-S0 c = record { state = λ rs. rw (c.in-S0.is, c.predicates_of.ensures); transfer = refl; load = refl; products = refl }

pub returns-in-Sl : goal.returns-in-Sl
unfolding with_special
returns-in-Sl c = record { state = λ rs. rw c.in-Sl.is; transfer = refl; load = refl; products = refl }

pub returns-in-Sh : goal.returns-in-Sh
unfolding with_special
returns-in-Sh c = record { state = λ rs. rw c.in-Sh.is; transfer = refl; load = refl; products = refl }

pub returns-in-Ss : goal.returns-in-Ss
unfolding with_special
returns-in-Ss c = record { state = λ rs. rw c.in-Ss.is; transfer = refl; load = refl; products = refl }

pub returns-in-St : goal.returns-in-St
unfolding with_special
returns-in-St c = record { state = λ rs. rw c.in-St.is; transfer = refl; load = refl; products = refl }

pub returns-in-Srb : goal.returns-in-Srb
unfolding with_special
returns-in-Srb c = record { state = λ rs. rw c.in-Srb.is; transfer = refl; load = refl; products = refl }

pub returns-in-Sro : goal.returns-in-Sro
unfolding with_special
returns-in-Sro c = record { state = λ rs. rw c.in-Sro.is; transfer = refl; load = refl; products = refl }

pub returns-in-Sxb : goal.returns-in-Sxb
unfolding with_special
returns-in-Sxb c = record { state = λ rs. rw c.in-Sxb.is; transfer = refl; load = refl; products = refl }

pub returns-in-Sxo : goal.returns-in-Sxo
unfolding with_special
returns-in-Sxo c = record { state = λ rs. rw c.in-Sxo.is; transfer = refl; load = refl; products = refl }
