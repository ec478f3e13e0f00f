use mathlib.Core.Path.{refl}
use Rattle.state.specs.Whole.{state_of}
use Rattle.state.proofs.State.join.Goals as goal

pub returns : goal.returns
unfolding state_of
returns c = (rw (c.waiting_transfer-transfer.ensures, c.waiting_load-load.ensures, c.products_in-products.ensures) refl, refl)
