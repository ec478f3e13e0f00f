use mathlib.Core.Path.{refl}
use borrow.Author.Rules.{rules}
use Rattle.core_state.proofs.waiting.one_less.Goals as goal

pub returns : goal.returns
returns c = refl
