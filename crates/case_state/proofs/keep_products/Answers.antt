use Rattle.case_state.specs.KeptState.{with_products}
use Rattle.case_state.proofs.keep_products.Goals as goal

pub returns-in-Nothing : goal.returns-in-Nothing
unfolding with_products
returns-in-Nothing c = rw c.in-Nothing.is

pub returns-in-One : goal.returns-in-One
unfolding with_products
returns-in-One c = rw c.in-One.is c.keep_product.ensures

pub returns-in-Two : goal.returns-in-Two
unfolding with_products
returns-in-Two c = rw (c.in-Two.is, ← c.keep_product-in-Two.ensures) c.keep_product-in-Two-2.ensures
