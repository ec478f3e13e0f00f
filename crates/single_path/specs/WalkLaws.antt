-- Laws of walked addresses: where they lie, in which order, and that being walked is decided.
use Prim.Native.Nat.{ℕ, zero, suc, ◌+◌, ◌*◌, ◌/◌, ◌%◌, ◌<◌, ◌≤◌}
use Rattle.std.specs.Prelude.{Bool, List, ◌≡◌}
use Rattle.std.proofs.Math.Bool.{true, false, cond}
use Rattle.std.proofs.lemmas.Bool.{false≢true}
use Rattle.std.proofs.Math.Path.{refl, sym, ap, subst}
use Rattle.std.proofs.Common.{◌∙◌, arith}
use Rattle.std.proofs.Math.Decide.{dec_lt}
use borrow.Author.Tests.{leb-false, lt-leb, eqb-true, eq-eqb}
use Rattle.std.proofs.Math.Dec.{leb, eqb}
use Rattle.std.proofs.Math.ListN.{length}
use Rattle.big_endian.specs.Bytes.{word_at}
use Rattle.decoder.specs.Decode.{is_two_words, bundle_words}
use Rattle.single_path.specs.Check.{Walked, first, later}
use Rattle.fetch.specs.Fetch.{following_at}

-- A bundle has one word or two.
words_positive : (w : ℕ) → 1 ≤ bundle_words w
unfolding bundle_words
words_positive w = go (is_two_words w)
  where
    go : (t : Bool) → 1 ≤ cond t 2 1
    go true = omega arith
    go false = omega arith

pub following_above : (code : List ℕ) (a : ℕ) → a + 4 ≤ following_at code a
following_above code a = omega (arith, words_positive (word_at code a))

-- A walked address lies in the code.
pub walked_inside : {code : List ℕ} {a : ℕ} → Walked code a → a < length code
walked_inside (first p) = p
walked_inside (later w e p) = p

-- A walked address is a multiple of 4.
pub walked_aligned : {code : List ℕ} {a : ℕ} → Walked code a → a % 4 ≡ 0
walked_aligned (first p) = refl
walked_aligned {code} (later {a} {b} w e p) = omega (arith, e, walked_aligned w)

-- No walked address lies between a walked one and the one that follows it.
module _ (code : List ℕ) where
  -- What is walked before x is followed by x at the latest.
  Before : ℕ → Type 0
  Before x = (b : ℕ) → Walked code b → b < x → following_at code b ≤ x

  after : (x : ℕ) → Before x → {b : ℕ} → Walked code b → x < b → following_at code x ≤ b
  unfolding Before
  after x h (first p) q = absurd (omega arith)
  after x h (later {a} {b} w e p) q = go (dec_lt a x) (dec_lt x a) (after x h w)
    where
      go : Dec (a < x) → Dec (x < a) → (x < a → following_at code x ≤ a) → following_at code x ≤ b
      go (yes r) t i = absurd (omega (arith, h a w r, e))
      go (no r) (yes t) i = omega (arith, i t, e, following_above code a)
      go (no r) (no t) i =
          let s : x ≡ a = omega (arith, r, t) in
          omega (arith, ap (following_at code) s, e)

  before_next : (x : ℕ) → Before x → Before (following_at code x)
  unfolding Before
  before_next x h b w q = go (dec_lt b x) (dec_lt x b)
    where
      go : Dec (b < x) → Dec (x < b) → following_at code b ≤ following_at code x
      go (yes r) t = omega (arith, h b w r, following_above code x)
      go (no r) (yes t) = absurd (omega (arith, after x h w t, q))
      go (no r) (no t) =
          let s : b ≡ x = omega (arith, r, t) in
          omega (arith, ap (following_at code) s)

  walked_before : {x : ℕ} → Walked code x → Before x
  unfolding Before
  walked_before (first p) = λ b w q. absurd (omega (arith, q))
  walked_before (later {a} {b} w e p) = subst Before (sym e) (before_next a (walked_before w))

  -- A walked address below the one that follows x is x or lies below it.
  pub walked_gap : {x b : ℕ} → Walked code x → Walked code b → x < b → following_at code x ≤ b
  walked_gap {x} {b} w v q = after x (walked_before w) v q

-- Being walked is decided by the walk from 0.
module _ (code : List ℕ) where
  meets : ℕ → ℕ → ℕ → Bool
  meets t zero a = false
  meets t (suc most) a = cond (leb (length code) a) false (cond (eqb a t) true (meets t most (following_at code a)))

  met_walked : (t most a : ℕ) → (a < length code → Walked code a) → meets t most a ≡ true → Walked code t
  unfolding meets
  met_walked t zero a w e = absurd (false≢true e)
  met_walked t (suc most) a w e = go (leb (length code) a) (eqb a t) refl refl e (met_walked t most (following_at code a))
    where
      go : (x y : Bool) → leb (length code) a ≡ x → eqb a t ≡ y → cond x false (cond y true (meets t most (following_at code a))) ≡ true
          → ((following_at code a < length code → Walked code (following_at code a)) → meets t most (following_at code a) ≡ true → Walked code t)
          → Walked code t
      go true y p q r ih = absurd (false≢true r)
      go false true p q r ih = subst (Walked code) (eqb-true a t q) (w (leb-false (length code) a p))
      go false false p q r ih = ih (λ h. later (w (leb-false (length code) a p)) refl h) r

  met_here : (t most : ℕ) → 0 < most → t < length code → meets t most t ≡ true
  unfolding meets
  met_here t zero p q = absurd (omega arith)
  met_here t (suc most) p q = rw (lt-leb (length code) t q, eq-eqb t t refl)

  -- Where enough addresses are left, the address that follows a met one is met.
  met_next : (t b most x : ℕ) → length code < x + 4 * most → b ≡ following_at code t → b < length code → meets t most x ≡ true → meets b most x ≡ true
  unfolding meets
  met_next t b zero x h q r e = absurd (false≢true e)
  met_next t b (suc most) x h q r e =
      go (leb (length code) x) (eqb x t) (eqb x b) refl refl refl e (λ f. met_next t b most (following_at code x) (omega (arith, h, following_above code x)) q r f)
    where
      go : (u v w : Bool) → leb (length code) x ≡ u → eqb x t ≡ v → eqb x b ≡ w
          → cond u false (cond v true (meets t most (following_at code x))) ≡ true
          → (meets t most (following_at code x) ≡ true → meets b most (following_at code x) ≡ true)
          → cond u false (cond w true (meets b most (following_at code x))) ≡ true
      go true v w i j k f ih = f
      go false v true i j k f ih = refl
      go false true false i j k f ih =
          let z : following_at code x ≡ b = ap (following_at code) (eqb-true x t j) ∙ sym q in
          subst (λ (n : ℕ). meets b most n ≡ true) (sym z) (met_here b most (omega (arith, h, r, z, following_above code x)) r)
      go false false false i j k f ih = ih f

  walked_met : {t : ℕ} → Walked code t → meets t (length code / 4 + 1) 0 ≡ true
  walked_met (first p) = met_here 0 (length code / 4 + 1) (omega arith) p
  walked_met (later {a} {b} w q p) = met_next a b (length code / 4 + 1) 0 (omega arith) q p (walked_met w)

  pub walked_decided : (t : ℕ) → Dec (Walked code t)
  walked_decided t = go (meets t (length code / 4 + 1) 0) refl
    where
      go : (x : Bool) → meets t (length code / 4 + 1) 0 ≡ x → Dec (Walked code t)
      go true e = yes (met_walked t (length code / 4 + 1) 0 (λ p. first p) e)
      go false e = no (λ w. false≢true (sym e ∙ walked_met w))
