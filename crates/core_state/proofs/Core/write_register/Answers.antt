use Prim.Native.Nat.{ℕ}
use mathlib.Core.List.{List}
use mathlib.Core.Path.{refl, ap}
use Rattle.core_state.specs.State.{with_register}
use Rattle.core_state.specs.Core.{joined}
use borrow.Author.Rules.{rules}
use Rattle.core_state.proofs.Core.write_register.Goals as goal

pub returns : goal.returns
unfolding with_register
returns c = record { state = λ ps. ap (λ (l : List ℕ). joined l ps c.args.self) c.write_later.ensures; transfer = refl; load = refl; products = refl }
