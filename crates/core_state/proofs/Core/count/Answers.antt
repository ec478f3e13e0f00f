use mathlib.Core.Path.{refl}
use borrow.Author.Rules.{rules}
use Rattle.core_state.proofs.Core.count.Goals as goal

pub returns : goal.returns
returns c = record { state = λ rs ps. rw c.one_more-done.ensures; transfer = refl; load = refl; products = refl }
