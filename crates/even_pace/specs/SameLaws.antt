-- Lists that are equal wherever they are not private, and what is written to them.
use Prim.Native.Nat.{ℕ, zero, suc, ◌+◌, ◌/◌, ◌%◌, ◌<◌, ◌≤◌}
use Rattle.std.specs.Prelude.{Bool, true, false, not, cond, ◌&&◌, List, ◌≡◌, refl, eqb, length, get_or, set}
use Rattle.std.proofs.lemmas.Bool.{false≢true, not-false}
use Rattle.std.proofs.Common.{sym, subst, ◌∙◌, arith, length-set, get_or-set_same, get_or-set_other, ext_get_or}
use Rattle.std.proofs.Math.Path.{ap}
use Rattle.std.proofs.Math.Decide.{dec_lt, ℕ_discrete}
use Rattle.std.proofs.Math.Seq.{set_out}
use Rattle.big_endian.specs.Bytes.{number_at, put_number}
use Rattle.big_endian.specs.BytesLaws.{number_same}
use Rattle.even_pace.specs.Terms.{Same}

module _ {A : Type 0} {private : ℕ → Bool} {d : A} {l₁ l₂ : List A} (s : Same private d l₁ l₂) where
  pub same_sym : Same private d l₂ l₁
  same_sym = record { lengths = sym s.lengths; places = λ i p. sym (s.places i p) }

  -- One list written at a private place.
  pub same_left : (r : ℕ) (v : A) → private r ≡ true → Same private d (set l₁ r v) l₂
  same_left r v h =
      record { lengths = length-set l₁ r v ∙ s.lengths; places = λ i p. get_or-set_other l₁ r i v d (λ e. false≢true (sym p ∙ ap private e ∙ h)) ∙ s.places i p }

  -- Both lists written at a place, with one value if it is public.
  pub same_set : (r : ℕ) (v₁ v₂ : A) → (private r ≡ false → v₁ ≡ v₂) → Same private d (set l₁ r v₁) (set l₂ r v₂)
  same_set r v₁ v₂ h = record { lengths = length-set l₁ r v₁ ∙ s.lengths ∙ sym (length-set l₂ r v₂); places = λ i p. go i p (ℕ_discrete i r) (dec_lt r (length l₁)) }
    where
      go : (i : ℕ) → private i ≡ false → Dec (i ≡ r) → Dec (r < length l₁) → get_or (set l₁ r v₁) i d ≡ get_or (set l₂ r v₂) i d
      go i p (no q) t = get_or-set_other l₁ r i v₁ d q ∙ s.places i p ∙ sym (get_or-set_other l₂ r i v₂ d q)
      go i p (yes q) (yes t) =
          ap (λ (j : ℕ). get_or (set l₁ r v₁) j d) q
          ∙ get_or-set_same l₁ r v₁ d t
          ∙ h (sym (ap private q) ∙ p)
          ∙ sym (get_or-set_same l₂ r v₂ d (subst (λ (n : ℕ). r < n) s.lengths t))
          ∙ sym (ap (λ (j : ℕ). get_or (set l₂ r v₂) j d) q)
      go i p (yes q) (no t) =
          ap (λ (l : List A). get_or l i d) (set_out l₁ r v₁ (omega (arith, t)))
          ∙ s.places i p
          ∙ sym (ap (λ (l : List A). get_or l i d) (set_out l₂ r v₂ (omega (arith, t, s.lengths))))

-- It is an equivalence.
pub same_refl : {A : Type 0} {private : ℕ → Bool} {d : A} (l : List A) → Same private d l l
same_refl l = record { lengths = refl; places = λ i p. refl }

pub same_trans : {A : Type 0} {private : ℕ → Bool} {d : A} {l₁ l₂ l₃ : List A} → Same private d l₁ l₂ → Same private d l₂ l₃ → Same private d l₁ l₃
same_trans s t = record { lengths = s.lengths ∙ t.lengths; places = λ i p. s.places i p ∙ t.places i p }

-- Registers and predicates, of which the first is never written.
module _ {A : Type 0} {private : ℕ → Bool} {d : A} {l₁ l₂ : List A} (s : Same private d l₁ l₂) where
  pub same_write : (r : ℕ) (v₁ v₂ : A) → (not (eqb r 0) && not (private r) ≡ true → v₁ ≡ v₂)
      → Same private d (cond (eqb r 0) l₁ (set l₁ r v₁)) (cond (eqb r 0) l₂ (set l₂ r v₂))
  same_write r v₁ v₂ h = go (eqb r 0) refl
    where
      go : (t : Bool) → eqb r 0 ≡ t → Same private d (cond t l₁ (set l₁ r v₁)) (cond t l₂ (set l₂ r v₂))
      go true e = s
      go false e = same_set s r v₁ v₂ (λ p. h (rw (e, p)))

  pub same_write_left : (r : ℕ) (v : A) → not (eqb r 0) && not (private r) ≡ false → Same private d (cond (eqb r 0) l₁ (set l₁ r v)) l₂
  same_write_left r v h = go (eqb r 0) refl
    where
      go : (t : Bool) → eqb r 0 ≡ t → Same private d (cond t l₁ (set l₁ r v)) l₂
      go true e = s
      go false e = same_left s r v (not-false _ (rw e at h))

-- Lists that are private as a whole or not at all.
module _ {A : Type 0} (t : Bool) (d : A) (l₁ l₂ : List A) where
  pub same_public : t ≡ false → Same (λ i. t) d l₁ l₂ → l₁ ≡ l₂
  same_public p s = ext_get_or d l₁ l₂ s.lengths (λ i h. s.places i p)

  pub same_whole : length l₁ ≡ length l₂ → (t ≡ false → l₁ ≡ l₂) → Same (λ i. t) d l₁ l₂
  same_whole e h = record { lengths = e; places = λ i p. ap (λ (l : List A). get_or l i d) (h p) }

-- Numbers of k bytes.
module _ {private : ℕ → Bool} {l₁ l₂ : List ℕ} (s : Same private 0 l₁ l₂) where
  pub same_number : (k a : ℕ) → ((i : ℕ) → a ≤ i → i < a + k → private i ≡ false) → number_at k l₁ a ≡ number_at k l₂ a
  same_number k a h = number_same k l₁ l₂ a (λ i p q. s.places i (h i p q))

  pub same_put : (k a v₁ v₂ : ℕ) → ((i : ℕ) → a ≤ i → i < a + k → private i ≡ false → v₁ ≡ v₂)
      → Same private 0 (put_number k l₁ a v₁) (put_number k l₂ a v₂)
  unfolding put_number
  same_put zero a v₁ v₂ h = s
  same_put (suc k) a v₁ v₂ h =
      same_set (same_put k a (v₁ / 256) (v₂ / 256) (λ i p q e. ap (λ (n : ℕ). n / 256) (h i p (omega arith) e))) (a + k) (v₁ % 256) (v₂ % 256)
      (λ e. ap (λ (n : ℕ). n % 256) (h (a + k) (omega arith) (omega arith) e))

  pub same_put_left : (k a v : ℕ) → ((i : ℕ) → a ≤ i → i < a + k → private i ≡ true) → Same private 0 (put_number k l₁ a v) l₂
  unfolding put_number
  same_put_left zero a v h = s
  same_put_left (suc k) a v h =
      same_left (same_put_left k a (v / 256) (λ i p q. h i p (omega arith))) (a + k) (v % 256) (h (a + k) (omega arith) (omega arith))
