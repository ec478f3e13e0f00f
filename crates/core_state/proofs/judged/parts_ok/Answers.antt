use Rattle.core_state.specs.State.{parts_ok}
use borrow.Author.Rules.{rules}
use Rattle.core_state.proofs.judged.parts_ok.Goals as goal

pub returns : goal.returns
unfolding parts_ok
returns c = rw (← c.load_ok.ensures, ← c.wait_ok.ensures, ← c.products_ok.ensures)
