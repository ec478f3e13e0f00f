use Rattle.core_state.specs.State.{predicates_of}
use mathlib.Core.Path.{refl}
use Rattle.core_state.proofs.special.predicates_of.Goals as goal

pub returns : goal.returns
unfolding predicates_of
returns c = refl
