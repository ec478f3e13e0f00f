use Rattle.core_state.specs.State.{one_place_on}
use borrow.Author.Rules.{rules}
use Rattle.core_state.proofs.Core.take.Goals as goal

pub returns : goal.returns
returns c = let w = c.enter-next.ensures in record { state = λ rs ps. rw c.one_more-place.ensures (λ i. one_place_on (w.state rs ps i)); transfer = w.transfer; load = w.load; products = w.products }
