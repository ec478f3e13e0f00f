use mathlib.Core.Path.{refl}
use Rattle.products.specs.Words.{nearer_says}
use Rattle.core_state.specs.State.{arrived}
use Rattle.core_state.proofs.Core.arrive.Goals as goal

pub returns-then-is_due : goal.returns-then-is_due
unfolding arrived
returns-then-is_due c =
    record {
      state = λ rs ps. rw (c.nearer_products-next.ensures, nearer_says c.args.self.products, c.is_due.ensures, c.if-is_due.true);
      transfer = refl;
      load = refl;
      products = c.nearer_products-next.ensures;
    }

pub returns : goal.returns
unfolding arrived
returns c =
    record {
      state = λ rs ps. rw (c.nearer_products-next.ensures, nearer_says c.args.self.products, c.is_due.ensures, c.if-is_due.false);
      transfer = refl;
      load = refl;
      products = c.nearer_products-next.ensures;
    }
