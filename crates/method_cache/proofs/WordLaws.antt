-- Laws of the words of the blocks held: what they say, that a list of up to sixteen blocks has one form, and the words of a place.
use Prim.Native.Nat.{ℕ, zero, suc, ◌+◌, ◌-◌, ◌<◌, ◌≤◌, min}
use Rattle.std.proofs.Math.Bool.{Bool, true, false, cond}
use Rattle.std.specs.Prelude.{◌&&◌, ◌≡◌, ltb, length, drop, replicate, set}
use mathlib.Core.List.{List, [], ◌∷◌, ◌++◌}
use Rattle.std.proofs.Math.Path.{refl, sym}
use Rattle.std.proofs.Common.{ap, ◌∙◌, arith, add-one, length-take, length-set, take-take, get_or-take, get_or-drop, get_or-append-add, get_or-set_same, get_or-set_other}
use Rattle.std.proofs.Math.Decide.{ℕ_discrete}
use borrow.Author.Tests.{ltb-true, ltb-false, eqb-true, eqb-false}
use Rattle.std.proofs.Math.Dec.{eqb}
use Rattle.std.proofs.Math.ListN.{get_or, length-drop, length-append, get_or-append, get_or-eq_default}
use Rattle.std.proofs.lemmas.List.{length-replicate, get_or-replicate, get_or_at}
use Rattle.std.proofs.Math.Seq.{take-append_seam, ext_get_or}
use Rattle.method_cache.specs.declared.Method.{Method}
use Rattle.method_cache.specs.MethodCache.{size_at, is_held, room_for, looked}
use Rattle.method_cache.specs.Words.{held_in, held_words, FixedHeld, kept_from, place_word, looked_words}

-- How many blocks words say there are, and the base of each.
pub held_length : (w : List ℕ) → length w ≡ 17 → length (held_in w) ≡ min (get_or w 0 0) 16
unfolding held_in
held_length [] e = absurd (omega (arith, e))
held_length (n ∷ ws) e = let h : length ws ≡ 16 = omega (arith, e) in length-take n ws ∙ ap (min n) h

pub held_few : (w : List ℕ) → length w ≡ 17 → length (held_in w) ≤ 16
held_few w e = omega (arith, held_length w e)

pub held_at : (w : List ℕ) (i : ℕ) → i < length (held_in w) → get_or (held_in w) i 0 ≡ get_or w (suc i) 0
unfolding held_in
held_at [] i p = refl
held_at (n ∷ ws) i p = get_or-take n ws i 0 (omega (arith, length-take n ws, p))

-- A list of up to sixteen blocks is what its words say.
pub words_back : (l : List ℕ) → length l ≤ 16 → held_in (held_words l) ≡ l
unfolding held_in held_words
words_back l p = take-take (length l) 16 (l ++ replicate 16 0) p ∙ take-append_seam l (replicate 16 0)

pub words_fixed : (l : List ℕ) → length l ≤ 16 → FixedHeld (held_words l)
words_fixed l p = ap held_words (words_back l p)

-- The word of a place is the base of the block there, or 0.
words_length : (l : List ℕ) → length (held_words l) ≡ 17
unfolding held_words
words_length l =
    let a = length-take 16 (l ++ replicate 16 0) in
    let b = length-append l (replicate 16 0) in
    let z : ℕ = 0 in
    omega (arith, a, b, length-replicate 16 z)

words_at : (l : List ℕ) (j : ℕ) → j < 16 → get_or (held_words l) (suc j) 0 ≡ get_or l j 0
unfolding held_words
words_at l j p = get_or-take 16 (l ++ replicate 16 0) j 0 p ∙ go (ltb j (length l)) refl
  where
    go : (t : Bool) → ltb j (length l) ≡ t → get_or (l ++ replicate 16 0) j 0 ≡ get_or l j 0
    go true e = get_or-append l (replicate 16 0) 0 j (ltb-true j (length l) e)
    go false e =
        let h = ltb-false j (length l) e in
        let k : j ≡ length l + (j - length l) = omega (arith, h) in
        ap (λ (i : ℕ). get_or (l ++ replicate 16 0) i 0) k
        ∙ get_or-append-add l (replicate 16 0) (j - length l) 0
        ∙ get_or-replicate 16 (j - length l) 0 0 (omega (arith, p))
        ∙ sym (get_or-eq_default l 0 h)

-- The word of a place in the blocks that are kept.
module _ (w : List ℕ) (from stay : ℕ) (more : Bool) (base : ℕ) (all : from + stay ≡ length (held_in w)) where
  stays : List ℕ
  stays = drop from (held_in w)

  stays_length : length stays ≡ stay
  unfolding stays
  stays_length = length-drop from (held_in w) ∙ omega (arith, all)

  kept_at : (j : ℕ) → place_word w from stay more base j ≡ get_or (kept_from from more base (held_in w)) j 0
  unfolding stays
  kept_at j = go (ltb j stay) refl
    where
      behind : (m : Bool) (t : Bool) → eqb j stay ≡ t → stay ≤ j → cond (m && t) base 0 ≡ get_or (stays ++ cond m (base ∷ []) []) j 0
      behind true true e p = sym (get_or_at stays base [] 0 j (stays_length ∙ sym (eqb-true j stay e)))
      behind true false e p =
          sym (get_or-eq_default (stays ++ (base ∷ [])) 0 (omega (arith, length-append stays (base ∷ []), stays_length, p, eqb-false j stay e)))
      behind false t e p = sym (get_or-eq_default (stays ++ []) 0 (omega (arith, length-append stays [], stays_length, p)))

      go : (t : Bool) → ltb j stay ≡ t → cond t (get_or w (suc (from + j)) 0) (cond (more && eqb j stay) base 0) ≡ get_or (stays ++ cond more (base ∷ []) []) j 0
      go true e =
          let h = ltb-true j stay e in
          sym
          (get_or-append stays (cond more (base ∷ []) []) 0 j (omega (arith, stays_length, h))
          ∙ get_or-drop from (held_in w) j 0
          ∙ held_at w (from + j) (omega (arith, all, h)))
      go false e = behind more (eqb j stay) refl (ltb-false j stay e)

  -- Words that have these at all places are those of the blocks kept.
  settled : (v : List ℕ) → length v ≡ 17 → get_or v 0 0 ≡ stay + cond more 1 0 → ((j : ℕ) → j < 16 → get_or v (suc j) 0 ≡ place_word w from stay more base j)
      → v ≡ held_words (kept_from from more base (held_in w))
  unfolding stays held_words
  settled v e n h = ext_get_or 0 v (held_words kept) (e ∙ sym (words_length kept)) at
    where
      kept : List ℕ
      kept = kept_from from more base (held_in w)

      count : (m : Bool) → stay + cond m 1 0 ≡ length (stays ++ cond m (base ∷ []) [])
      count true = omega (arith, length-append stays (base ∷ []), stays_length)
      count false = omega (arith, length-append stays [], stays_length)

      at : (i : ℕ) → i < length v → get_or v i 0 ≡ get_or (held_words kept) i 0
      at zero p = n ∙ count more
      at (suc j) p = let q : j < 16 = omega (arith, e, p) in h j q ∙ kept_at j ∙ sym (words_at kept j q)

  -- The words while the places are written one by one: those before place i have what they are to have, the others are as they were.
  pub record Settling (v : List ℕ) (i : ℕ) : Type 0 where
    pub within : i ≤ 16
    pub long : length v ≡ 17
    pub before : (j : ℕ) → j < i → get_or v (suc j) 0 ≡ place_word w from stay more base j
    pub behind : (j : ℕ) → i ≤ j → get_or v (suc j) 0 ≡ get_or w (suc j) 0

  pub settling_none : length w ≡ 17 → Settling w 0
  settling_none e = record { within = omega arith; long = e; before = λ j p. absurd (omega arith); behind = λ j p. refl }

  pub settling_more : (v : List ℕ) (i k x : ℕ) → Settling v i → i < 16 → k ≡ i + 1 → x ≡ place_word v from stay more base i → Settling (set v k x) k
  settling_more v i k x h p n e =
      record { within = omega (arith, p, n); long = length-set v k x ∙ h.long; before = done; behind = others }
    where
      here : k ≡ suc i
      here = n ∙ add-one i

      -- What is read behind place i is as it was.
      same : x ≡ place_word w from stay more base i
      same = e ∙ ap (λ (y : ℕ). cond (ltb i stay) y (cond (more && eqb i stay) base 0)) (h.behind (from + i) (omega arith))

      done : (j : ℕ) → j < k → get_or (set v k x) (suc j) 0 ≡ place_word w from stay more base j
      done j q = go (ℕ_discrete j i)
        where
          go : Dec (j ≡ i) → get_or (set v k x) (suc j) 0 ≡ place_word w from stay more base j
          go (yes r) =
              ap (λ (z : ℕ). get_or (set v k x) z 0) (ap suc r ∙ sym here)
              ∙ get_or-set_same v k x 0 (omega (arith, h.long, p, n))
              ∙ same
              ∙ ap (place_word w from stay more base) (sym r)
          go (no r) = get_or-set_other v k (suc j) x 0 (λ z. omega (arith, q, n, r, z)) ∙ h.before j (omega (arith, q, n, r))

      others : (j : ℕ) → k ≤ j → get_or (set v k x) (suc j) 0 ≡ get_or w (suc j) 0
      others j q = get_or-set_other v k (suc j) x 0 (λ z. omega (arith, q, n, z)) ∙ h.behind j (omega (arith, q, n))

  -- All are written, and then the count.
  pub settling_all : (v : List ℕ) (i x : ℕ) → Settling v i → 16 ≤ i → x ≡ stay + cond more 1 0 → set v 0 x ≡ held_words (kept_from from more base (held_in w))
  settling_all v i x h p e =
      settled (set v 0 x) (length-set v 0 x ∙ h.long) (get_or-set_same v 0 x 0 (omega (arith, h.long)) ∙ e)
      (λ j q. get_or-set_other v 0 (suc j) x 0 (λ z. omega (arith, z)) ∙ h.before j (omega (arith, p, q)))

-- The words after a lookup in a cache whose capacity keeps it small: they say what is held, and have the one form if they had it before.
module _ (c : Method) (code w : List ℕ) (base : ℕ) (few : length (looked c code (held_in w) base) ≤ 16) where
  pub looked_back : held_in (looked_words c code w base) ≡ looked c code (held_in w) base
  unfolding looked_words looked
  looked_back = go (is_held base (held_in w)) refl few
    where
      after : Bool → List ℕ
      after t = cond t (held_in w) (room_for c code (size_at code base) (held_in w) ++ (base ∷ []))

      go : (t : Bool) → is_held base (held_in w) ≡ t → length (after t) ≤ 16 → held_in (cond t w (held_words (after t))) ≡ after t
      go true e p = refl
      go false e p = words_back (after false) p

  pub looked_fixed : FixedHeld w → FixedHeld (looked_words c code w base)
  unfolding looked_words
  looked_fixed f = go (is_held base (held_in w))
    where
      go : (t : Bool) → FixedHeld (cond t w (held_words (looked c code (held_in w) base)))
      go true = f
      go false = words_fixed (looked c code (held_in w) base) few
