-- Products under way as words.
use Rattle.std.specs.Prelude.{ℕ, Bool, ◌≡◌, leb}
use Rattle.std.proofs.Math.Bool.{true, false, cond}
use Rattle.std.proofs.Math.Option.{none, some}
use Rattle.std.proofs.Math.Path.{refl}
use Rattle.std.proofs.Common.{ap}
use Rattle.std.proofs.Math.Dec.{eqb}
use borrow.Author.Tests.{eq-eqb, ne_eqb, eqb-true}
use Rattle.products.specs.declared.Product.{Product}
use Rattle.products.specs.declared.Products.{Products}
use Rattle.products.specs.declared.Products.TheVariants.{Nothing, One, Two}
use Rattle.products.specs.declared.ProductWords.{ProductWords}
use Rattle.products.specs.Products.{no_product, due_product, nearer_products, with_one_more}

-- What they say.
unfoldable pub products_in : ProductWords → Products
products_in w = cond (eqb w.count 0) Nothing (cond (eqb w.count 1) (One w.first) (Two w.first w.second))

-- The words of what is under way. Other words say the same: beside a count of 0 or 1 not all of them count, and any count from 2 on says two.
abbrev words_of : ℕ → Product → Product → ProductWords
words_of count first second = record { count = count; first = first; second = second }

unfoldable pub product_words : Products → ProductWords
product_words Nothing = words_of 0 no_product no_product
product_words (One p) = words_of 1 p no_product
product_words (Two p q) = words_of 2 p q

-- The words after a bundle, which stay as they are where nothing is under way; and those with a product more.
unfoldable pub nearer_product_words : ProductWords → ProductWords
nearer_product_words w = cond (eqb w.count 0) w (product_words (nearer_products (products_in w)))

abbrev pub more_product_words : ProductWords → ℕ → ℕ → ProductWords
more_product_words w low high = product_words (with_one_more (products_in w) low high)

-- Words that are those of what they say: of such words that say the same there is one alone.
abbrev pub FixedProducts : ProductWords → Type 0
FixedProducts w = product_words (products_in w) ≡ w

pub products_back : (p : Products) → products_in (product_words p) ≡ p
unfolding products_in product_words
products_back Nothing = refl
products_back (One p) = refl
products_back (Two p q) = refl

pub words_fixed : (p : Products) → FixedProducts (product_words p)
words_fixed p = ap product_words (products_back p)

module _ (w : ProductWords) where
  pub says_nothing : w.count ≡ 0 → products_in w ≡ Nothing
  unfolding products_in
  says_nothing e = rw (eq-eqb _ _ e)

  pub says_one : w.count ≡ 1 → products_in w ≡ One w.first
  unfolding products_in
  says_one e = rw e

  pub says_two : (w.count ≡ 0 → ⊥) → (w.count ≡ 1 → ⊥) → products_in w ≡ Two w.first w.second
  unfolding products_in
  says_two e f = rw (ne_eqb _ _ e, ne_eqb _ _ f)

  -- What falls due of words that say something is their first product.
  pub due_first : (w.count ≡ 0 → ⊥) → due_product (products_in w) ≡ cond (leb w.first.wait 1) (some w.first) none
  unfolding products_in due_product
  due_first e = rw (ne_eqb _ _ e) (go (eqb w.count 1))
    where
      go : (t : Bool) → due_product (cond t (One w.first) (Two w.first w.second)) ≡ cond (leb w.first.wait 1) (some w.first) none
      go true = refl
      go false = refl

  -- What the words after a bundle say; and they are fixed if these are.
  pub nearer_says : products_in (nearer_product_words w) ≡ nearer_products (products_in w)
  unfolding nearer_product_words nearer_products
  nearer_says = go (eqb w.count 0) refl
    where
      go : (t : Bool) → eqb w.count 0 ≡ t → products_in (cond t w (product_words (nearer_products (products_in w)))) ≡ nearer_products (products_in w)
      go true e = rw (says_nothing (eqb-true _ _ e))
      go false e = products_back (nearer_products (products_in w))

  pub nearer_fixed : FixedProducts w → FixedProducts (nearer_product_words w)
  unfolding nearer_product_words
  nearer_fixed f = go (eqb w.count 0)
    where
      go : (t : Bool) → FixedProducts (cond t w (product_words (nearer_products (products_in w))))
      go true = f
      go false = words_fixed (nearer_products (products_in w))
