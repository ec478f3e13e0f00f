use mathlib.Core.Path.{refl}
use Rattle.products.specs.Products.{with_one_more}
use Rattle.products.specs.Words.{products_in, products_back}
use Rattle.core_state.proofs.Core.begin_product.Goals as goal

pub returns : goal.returns
returns c =
    let a = c.args in
    let more = with_one_more (products_in a.self.products) a.low a.high in
    record {
      state = λ rs ps. rw (c.one_more-more.ensures, products_back more);
      transfer = refl;
      load = refl;
      products = c.one_more-more.ensures;
    }
