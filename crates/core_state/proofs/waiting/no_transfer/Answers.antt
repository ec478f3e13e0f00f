use mathlib.Core.Path.{refl}
use Rattle.core_state.specs.Core.{transfer_words}
use Rattle.core_state.proofs.waiting.no_transfer.Goals as goal

pub returns : goal.returns
unfolding transfer_words
returns c = refl
