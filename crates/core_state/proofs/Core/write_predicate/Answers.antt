use mathlib.Core.List.{List}
use mathlib.Core.Bool.{Bool}
use mathlib.Core.Path.{refl, ap}
use Rattle.core_state.specs.State.{with_predicate}
use Rattle.core_state.specs.Core.{joined}
use borrow.Author.Rules.{rules}
use Rattle.core_state.proofs.Core.write_predicate.Goals as goal

pub returns : goal.returns
unfolding with_predicate
returns c = record { state = λ rs. ap (λ (l : List Bool). joined rs l c.args.self) c.write_later.ensures; transfer = refl; load = refl; products = refl }
