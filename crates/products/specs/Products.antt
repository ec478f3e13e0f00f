-- Products under way: what 11 describes, what falls due in a bundle, what is then still under way, and what a multiply begins.
use Rattle.std.specs.Prelude.{ℕ, ◌+◌, ◌-◌, Bool, true, cond, ◌&&◌, leb}
use Rattle.std.proofs.Math.Option.{Option, none, some}
use Rattle.products.specs.declared.Product.{Product}
use Rattle.products.specs.declared.Products.{Products}
use Rattle.products.specs.declared.Products.TheVariants.{Nothing, One, Two}

-- A product lands at the end of the second bundle after its own: 2.6.2 of the handbook gives no figure, and where it gives none it is two.
abbrev pub product_delay : ℕ
product_delay = 2

abbrev pub product : ℕ → ℕ → ℕ → Product
product wait low high = record { wait = wait; low = low; high = high }

abbrev pub no_product : Product
no_product = product 0 0 0

-- 11 is for a product with 0 bundles to wait, one with more than the delay, and two that land together. The second of two waits the sum of
-- both waits, so that it lands together with the first if its own is 0.
unfoldable pub products_ok : Products → Bool
products_ok Nothing = true
products_ok (One p) = leb 1 p.wait && leb p.wait product_delay
products_ok (Two p q) = (leb 1 p.wait && leb 1 q.wait) && leb (p.wait + q.wait) product_delay

-- What falls due in a bundle: a product with one bundle to wait. (One with none, which 11 describes, would fall due with it.)
unfoldable pub due_product : Products → Option Product
due_product Nothing = none
due_product (One p) = cond (leb p.wait 1) (some p) none
due_product (Two p q) = cond (leb p.wait 1) (some p) none

-- What is still under way after it, each product one bundle nearer. Where the first of two lands, the second's wait counts from here.
abbrev pub sooner : Product → Product
sooner p = product (p.wait - 1) p.low p.high

unfoldable pub nearer_products : Products → Products
nearer_products Nothing = Nothing
nearer_products (One p) = cond (leb p.wait 1) Nothing (One (sooner p))
nearer_products (Two p q) = cond (leb p.wait 1) (One q) (Two (sooner p) q)

-- A product more, of the multiply in this bundle. There is always room for it after `nearer_products` of what 11 lets pass (`nearer_room`).
unfoldable pub with_one_more : Products → ℕ → ℕ → Products
with_one_more Nothing low high = One (product product_delay low high)
with_one_more (One p) low high = Two p (product (product_delay - p.wait) low high)
with_one_more (Two p q) low high = Two p q
