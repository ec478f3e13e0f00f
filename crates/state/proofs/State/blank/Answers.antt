use mathlib.Core.Path.{refl}
use Rattle.method_cache.specs.Words.{held_in, held_words}
use Rattle.core_state.specs.State.{blank}
use Rattle.state.specs.Whole.{state_of}
use Rattle.state.proofs.State.blank.Goals as goal

pub returns : goal.returns
unfolding state_of blank held_in held_words
returns c = (refl, refl)
