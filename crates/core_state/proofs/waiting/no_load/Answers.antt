use mathlib.Core.Path.{refl}
use Rattle.core_state.specs.Core.{load_words}
use Rattle.core_state.proofs.waiting.no_load.Goals as goal

pub returns : goal.returns
unfolding load_words
returns c = refl
