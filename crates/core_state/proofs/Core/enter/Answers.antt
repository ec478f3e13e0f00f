use mathlib.Core.Path.{◌∙◌}
use Rattle.core_state.specs.declared.WaitingTransfer.TheVariants as transfer
use Rattle.core_state.specs.State.{entered}
use Rattle.core_state.proofs.WordLaws.{transfer_back}
use borrow.Author.Rules.{rules}
use Rattle.core_state.proofs.Core.enter.Goals as goal

pub returns : goal.returns
unfolding entered
returns c = let w = c.go_on.ensures in record { state = λ rs ps. w.state rs ps ∙ rw (c.sub-offset.ensures, c.no_transfer.ensures, transfer_back transfer.Nothing); transfer = w.transfer ∙ c.no_transfer.ensures; load = w.load; products = w.products }
