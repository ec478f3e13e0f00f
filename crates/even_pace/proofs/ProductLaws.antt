-- Products under way in the two runs: those that arrive, and those that begin.
use Rattle.std.specs.Prelude.{ℕ, Bool, ◌≡◌, leb}
use Rattle.std.proofs.Math.Bool.{true, false, cond}
use Rattle.std.proofs.lemmas.Bool.{false≢true}
use Rattle.std.proofs.Math.Option.{Option, none, some}
use Rattle.std.proofs.Math.Path.{refl}
use Rattle.std.proofs.Common.{sym, ap, ◌∙◌}
use Rattle.word.specs.BoolLaws.{and_left, and_right}
use Rattle.products.specs.declared.Product.{Product}
use Rattle.products.specs.declared.Products.{Products}
use Rattle.products.specs.declared.Products.TheVariants as products
use Rattle.products.specs.Products.{sooner, due_product, nearer_products, with_one_more}
use Rattle.core_state.specs.State.{State, with_products, with_arrival, arrived, with_begun}
use Rattle.marking.specs.declared.Marking.{Marking}
use Rattle.even_pace.specs.Terms.{private_products, blank, shown_product, shown, SameProducts, SameState}
use Rattle.even_pace.specs.StateLaws.{state_refl, state_sym, state_trans, with_products_lem}
use Rattle.even_pace.proofs.WriteLaws.{product_both, product_quiet}

-- What is shown of a value: all of a public one, and of a private one nothing.
blank_public : (private : Bool) (u v : ℕ) → private ≡ false → blank private u ≡ blank private v → u ≡ v
blank_public true u v e f = absurd (false≢true (sym e))
blank_public false u v e f = f

blank_same : (private : Bool) (u v : ℕ) → (private ≡ false → u ≡ v) → blank private u ≡ blank private v
blank_same true u v h = refl
blank_same false u v h = h refl

-- What comes nearer, falls due or begins is shown as it would be of what is shown.
module _ (sl sh : Bool) where
  nearer_shown : (p : Products) → nearer_products (shown sl sh p) ≡ shown sl sh (nearer_products p)
  unfolding nearer_products shown
  nearer_shown products.Nothing = refl
  nearer_shown (products.One p) = go (leb p.wait 1)
    where
      go : (t : Bool) → cond t products.Nothing (products.One (sooner (shown_product sl sh p))) ≡ shown sl sh (cond t products.Nothing (products.One (sooner p)))
      go true = refl
      go false = refl
  nearer_shown (products.Two p q) = go (leb p.wait 1)
    where
      go : (t : Bool) → cond t (products.One (shown_product sl sh q)) (products.Two (sooner (shown_product sl sh p)) (shown_product sl sh q))
          ≡ shown sl sh (cond t (products.One q) (products.Two (sooner p) q))
      go true = refl
      go false = refl

  shown_due : Option Product → Option Product
  shown_due none = none
  shown_due (some p) = some (shown_product sl sh p)

  first_shown : (p : Product) (t : Bool) → cond t (some (shown_product sl sh p)) none ≡ shown_due (cond t (some p) none)
  unfolding shown_due
  first_shown p true = refl
  first_shown p false = refl

  due_shown : (p : Products) → due_product (shown sl sh p) ≡ shown_due (due_product p)
  unfolding due_product shown shown_due
  due_shown products.Nothing = refl
  due_shown (products.One p) = first_shown p (leb p.wait 1)
  due_shown (products.Two p q) = first_shown p (leb p.wait 1)

  more_shown : (p : Products) (low high : ℕ) → with_one_more (shown sl sh p) (blank sl low) (blank sh high) ≡ shown sl sh (with_one_more p low high)
  unfolding with_one_more shown
  more_shown products.Nothing low high = refl
  more_shown (products.One p) low high = refl
  more_shown (products.Two p q) low high = refl

-- Where both words are private nothing is asked of the products.
both_private : (m : Marking) (p q : Products) → private_products m ≡ true → SameProducts m p q
both_private m p q e f = absurd (false≢true (sym f ∙ e))

-- One run alone: what arrives does not show.
arrived_quiet : {m : Marking} (s : State) → private_products m ≡ true → SameState m (arrived s) s
unfolding arrived
arrived_quiet {m} s e = go (due_product s.further.products)
  where
    nearer : SameState m (with_products s (nearer_products s.further.products)) s
    nearer = with_products_lem (state_refl s) _ _ (both_private m _ _ e)

    go : (due : Option Product) → SameState m (with_arrival due (with_products s (nearer_products s.further.products))) s
    go none = nearer
    go (some p) = state_trans (product_quiet _ p.low p.high (and_left m.sl m.sh e) (and_right m.sl m.sh e)) nearer

module _ {m : Marking} {s₁ s₂ : State} (a : SameState m s₁ s₂) where
  -- The same falls due in both, with words that are equal where they are public.
  landed_product_both : (due₁ due₂ : Option Product) → shown_due m.sl m.sh due₁ ≡ shown_due m.sl m.sh due₂
      → SameState m (with_arrival due₁ s₁) (with_arrival due₂ s₂)
  unfolding shown_due
  landed_product_both none none e = a
  landed_product_both none (some q) e = let k : false ≡ true = cc in absurd (false≢true k)
  landed_product_both (some p) none e = let k : false ≡ true = cc in absurd (false≢true k)
  landed_product_both (some p) (some q) e =
      let f : shown_product m.sl m.sh p ≡ shown_product m.sl m.sh q = cc in
      product_both a _ _ _ _ (λ k. blank_public m.sl _ _ k (ap (λ (z : Product). z.low) f)) (λ k. blank_public m.sh _ _ k (ap (λ (z : Product). z.high) f))

  nearer_products_lem : SameProducts m (nearer_products s₁.further.products) (nearer_products s₂.further.products)
  nearer_products_lem k =
      sym (nearer_shown m.sl m.sh s₁.further.products) ∙ ap nearer_products (a.further.products k) ∙ nearer_shown m.sl m.sh s₂.further.products

-- What arrives in both runs.
pub arrived_both : {m : Marking} {s₁ s₂ : State} → SameState m s₁ s₂ → SameState m (arrived s₁) (arrived s₂)
unfolding arrived
arrived_both {m} {s₁} {s₂} a = go (private_products m) refl
  where
    due : private_products m ≡ false → shown_due m.sl m.sh (due_product s₁.further.products) ≡ shown_due m.sl m.sh (due_product s₂.further.products)
    due k =
        sym (due_shown m.sl m.sh s₁.further.products) ∙ ap due_product (a.further.products k) ∙ due_shown m.sl m.sh s₂.further.products

    go : (t : Bool) → private_products m ≡ t → SameState m (arrived s₁) (arrived s₂)
    go true e = state_trans (arrived_quiet s₁ e) (state_trans a (state_sym (arrived_quiet s₂ e)))
    go false e = landed_product_both (with_products_lem a _ _ (nearer_products_lem a)) _ _ (due e)

-- A product begins in both runs, or in one where both words are private.
pub begun_product_both : {m : Marking} {s₁ s₂ : State} → SameState m s₁ s₂ → (l₁ l₂ h₁ h₂ : ℕ) → (m.sl ≡ false → l₁ ≡ l₂) → (m.sh ≡ false → h₁ ≡ h₂)
    → SameState m (with_begun s₁ l₁ h₁) (with_begun s₂ l₂ h₂)
begun_product_both {m} {s₁} {s₂} a l₁ l₂ h₁ h₂ p q = with_products_lem a _ _ same
  where
    same : SameProducts m (with_one_more s₁.further.products l₁ h₁) (with_one_more s₂.further.products l₂ h₂)
    same k =
        sym (more_shown m.sl m.sh s₁.further.products l₁ h₁)
        ∙ (λ i. with_one_more (a.further.products k i) (blank_same m.sl l₁ l₂ p i) (blank_same m.sh h₁ h₂ q i))
        ∙ more_shown m.sl m.sh s₂.further.products l₂ h₂

pub begun_product_quiet : {m : Marking} (s : State) (l h : ℕ) → m.sl ≡ true → m.sh ≡ true → SameState m (with_begun s l h) s
begun_product_quiet {m} s l h p q = with_products_lem (state_refl s) _ _ (both_private m _ _ (rw (p, q)))
