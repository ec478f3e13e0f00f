-- Laws of products under way: they stay such as 11 lets pass, there is room for one more, and each lands in its turn.
use Rattle.std.specs.Prelude.{ℕ, ◌+◌, ◌-◌, ◌≤◌, Bool, true, false, cond, ◌&&◌, ◌≡◌, refl, leb}
use Rattle.std.proofs.lemmas.Bool.{false≢true}
use Rattle.std.proofs.Math.Option.{some}
use Rattle.std.proofs.Common.{arith, leb-true, leb-false, le-leb}
use Rattle.word.specs.BoolLaws.{and_left, and_right}
use Rattle.products.specs.declared.Product.{Product}
use Rattle.products.specs.declared.Products.{Products}
use Rattle.products.specs.declared.Products.TheVariants.{Nothing, One, Two}
use Rattle.products.specs.Products.{product_delay, product, sooner, products_ok, due_product, nearer_products, with_one_more}

-- Room for one more: nothing is under way, or one product that lands before one begun now.
unfoldable pub has_room : Products → Bool
has_room Nothing = true
has_room (One p) = leb 1 p.wait && leb (p.wait + 1) product_delay
has_room (Two p q) = false

both : (a b : ℕ) (c d : ℕ) → a ≤ b → c ≤ d → (leb a b && leb c d) ≡ true
both a b c d p q = rw (le-leb a b p, le-leb c d q)

-- The wait of one product beside which there is room.
room_wait : (p : Product) → has_room (One p) ≡ true → (1 ≤ p.wait) × (p.wait + 1 ≤ product_delay)
unfolding has_room
room_wait p e =
    (leb-true 1 p.wait (and_left (leb 1 p.wait) (leb (p.wait + 1) product_delay) e), leb-true (p.wait + 1) product_delay (and_right (leb 1 p.wait) (leb (p.wait + 1) product_delay) e))

-- After a bundle there is room.
pub nearer_room : (p : Products) → products_ok p ≡ true → has_room (nearer_products p) ≡ true
unfolding products_ok nearer_products has_room
nearer_room Nothing e = refl
nearer_room (One p) e = go (leb p.wait 1) refl
  where
    most : p.wait ≤ product_delay
    most = leb-true p.wait product_delay (and_right (leb 1 p.wait) (leb p.wait product_delay) e)

    go : (t : Bool) → leb p.wait 1 ≡ t → has_room (cond t Nothing (One (sooner p))) ≡ true
    go true f = refl
    go false f = let n = leb-false p.wait 1 f in both 1 (p.wait - 1) (p.wait - 1 + 1) product_delay (omega (arith, n)) (omega (arith, n, most))
nearer_room (Two p q) e = go (leb p.wait 1) refl
  where
    waits : (1 ≤ p.wait) × (1 ≤ q.wait) × (p.wait + q.wait ≤ product_delay)
    waits =
        let f = and_left (leb 1 p.wait && leb 1 q.wait) (leb (p.wait + q.wait) product_delay) e in (
          leb-true 1 p.wait (and_left (leb 1 p.wait) (leb 1 q.wait) f),
          leb-true 1 q.wait (and_right (leb 1 p.wait) (leb 1 q.wait) f),
          leb-true (p.wait + q.wait) product_delay (and_right (leb 1 p.wait && leb 1 q.wait) (leb (p.wait + q.wait) product_delay) e),
        )

    go : (t : Bool) → leb p.wait 1 ≡ t → has_room (cond t (One q) (Two (sooner p) q)) ≡ true
    go true f = both 1 q.wait (q.wait + 1) product_delay waits.1 (omega (arith, waits.0, waits.2))
    go false f = absurd (omega (arith, leb-false p.wait 1 f, waits.1, waits.2))

-- What has room is such as 11 lets pass, and so it is with one more.
pub room_ok : (p : Products) → has_room p ≡ true → products_ok p ≡ true
unfolding products_ok has_room
room_ok Nothing e = refl
room_ok (One p) e = let w = room_wait p e in both 1 p.wait p.wait product_delay w.0 (omega (arith, w.1))
room_ok (Two p q) e = absurd (false≢true e)

pub more_ok : (p : Products) (low high : ℕ) → has_room p ≡ true → products_ok (with_one_more p low high) ≡ true
unfolding products_ok has_room with_one_more
more_ok Nothing low high e = refl
more_ok (One p) low high e =
    let w = room_wait p e in
    rw (le-leb 1 p.wait w.0, le-leb 1 (product_delay - p.wait) (omega (arith, w.1)), le-leb (p.wait + (product_delay - p.wait)) product_delay (omega (arith, w.1)))
more_ok (Two p q) low high e = absurd (false≢true e)

-- A product begun in a bundle does not fall due in the next one, where an earlier one may, and falls due in the second.
pub more_next : (p : Products) (low high : ℕ) → due_product (with_one_more p low high) ≡ due_product p
unfolding due_product with_one_more
more_next Nothing low high = refl
more_next (One p) low high = refl
more_next (Two p q) low high = refl

pub more_second : (p : Products) (low high : ℕ) → has_room p ≡ true → due_product (nearer_products (with_one_more p low high)) ≡ some (product 1 low high)
unfolding due_product nearer_products has_room with_one_more
more_second Nothing low high e = refl
more_second (One p) low high e = let w = room_wait p e in rw (one w.0 w.1)
  where
    one : 1 ≤ p.wait → p.wait + 1 ≤ product_delay → p.wait ≡ 1
    one least most = omega (arith, least, most)
more_second (Two p q) low high e = absurd (false≢true e)
