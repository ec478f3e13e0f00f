-- Laws of the words that are moved and of the accesses to the cache: lengths, one word after the other, and what stays a word.
use Rattle.std.specs.Prelude.{ℕ, zero, suc, ◌+◌, ◌-◌, ◌*◌, ◌/◌, ◌%◌, ◌^◌, ◌<◌, ◌≤◌, ◌≡◌, refl, Bool, true, false, cond, List, [], ◌∷◌, ◌++◌, ltb, length}
use Rattle.std.proofs.Common.{ap, ◌∙◌, arith, sub-one, pow-suc, mod-lt, div-add-mod', div-mul-le_self, div-lt_iff_lt-mul, mul-le-mul, le_refl, le_trans, lt-ltb, le-ltb, ltb-true, ltb-false, pow-add, length-set}
use Rattle.std.proofs.Math.Nat.{mod-le, one-le-pow}
use Rattle.std.proofs.Math.Arith.{digits_lt, mod-mul}
use Rattle.word.specs.Word.{add, sub}
use Rattle.big_endian.specs.Bytes.{word_at, put_word}
use Rattle.big_endian.specs.BytesLaws.{length_put_number}
use Rattle.stack_cache.specs.Stack.{is_cache_size, cache_word, put_cache_word, unit, part_of, put_part, cache_number, put_cache_number, below, above, spill_while, fill_while, spilled, filled}

-- Lengths.
pub length_below : (k a : ℕ) → length (below k a) ≡ k
unfolding below
length_below zero a = refl
length_below (suc k) a = ap suc (length_below k (sub a 4))

pub length_above : (k a : ℕ) → length (above k a) ≡ k
unfolding above
length_above zero a = refl
length_above (suc k) a = ap suc (length_above k (add a 4))

pub length_put_cache_word : (cache : List ℕ) (a v : ℕ) → length (put_cache_word cache a v) ≡ length cache
unfolding put_cache_word
length_put_cache_word cache a v = length-set cache (a / 4 % length cache) v

pub length_put_cache_number : (k : ℕ) (cache : List ℕ) (a v : ℕ) → length (put_cache_number k cache a v) ≡ length cache
unfolding put_cache_number
length_put_cache_number k cache a v = length_put_cache_word cache a (put_part k (cache_word cache a) a v)

pub length_spilled : (cache : List ℕ) (lo : ℕ) (area addresses : List ℕ) → length (spilled cache lo area addresses) ≡ length area
unfolding spilled
length_spilled cache lo area [] = refl
length_spilled cache lo area (a ∷ rest) = length_spilled cache lo (put_word area (sub a lo) (cache_word cache a)) rest ∙ length_put_number 4 area (sub a lo) (cache_word cache a)

pub length_filled : (area : List ℕ) (lo : ℕ) (cache addresses : List ℕ) → length (filled area lo cache addresses) ≡ length cache
unfolding filled
length_filled area lo cache [] = refl
length_filled area lo cache (a ∷ rest) = length_filled area lo (put_cache_word cache a (word_at area (sub a lo))) rest ∙ length_put_cache_word cache a _

-- The words that the two loops move lie one after the other.
pub spill_while_below : (most w st ss : ℕ) → spill_while most w st ss ≡ below (length (spill_while most w st ss)) ss
unfolding spill_while below
spill_while_below zero w st ss = refl
spill_while_below (suc most) w st ss = go (ltb (4 * w) (ss - st)) (spill_while_below most w st (sub ss 4))
  where
    go : (t : Bool) → spill_while most w st (sub ss 4) ≡ below (length (spill_while most w st (sub ss 4))) (sub ss 4)
        → cond t (sub ss 4 ∷ spill_while most w st (sub ss 4)) [] ≡ below (length (cond t (sub ss 4 ∷ spill_while most w st (sub ss 4)) [])) ss
    go true e = ap (λ (l : List ℕ). sub ss 4 ∷ l) e
    go false e = refl

pub fill_while_above : (most n st ss : ℕ) → fill_while most n st ss ≡ above (length (fill_while most n st ss)) ss
unfolding fill_while above
fill_while_above zero n st ss = refl
fill_while_above (suc most) n st ss = go (ltb (ss - st) (4 * n)) (fill_while_above most n st (add ss 4))
  where
    go : (t : Bool) → fill_while most n st (add ss 4) ≡ above (length (fill_while most n st (add ss 4))) (add ss 4)
        → cond t (ss ∷ fill_while most n st (add ss 4)) [] ≡ above (length (cond t (ss ∷ fill_while most n st (add ss 4)) [])) ss
    go true e = ap (λ (l : List ℕ). ss ∷ l) e
    go false e = refl

-- One word is moved, and the rest.
pub spilled_step : (cache : List ℕ) (lo : ℕ) (area area' : List ℕ) (k a b : ℕ) → 0 < k → b ≡ sub a 4 → area' ≡ put_word area (sub b lo) (cache_word cache b)
    → spilled cache lo area' (below (k - 1) b) ≡ spilled cache lo area (below k a)
unfolding spilled below
spilled_step cache lo area area' zero a b p q e = absurd (omega arith)
spilled_step cache lo area area' (suc k) a b p q e = rw (sub-one, e, q)

pub spilled_none : (cache : List ℕ) (lo : ℕ) (area : List ℕ) (k a : ℕ) → k ≤ 0 → spilled cache lo area (below k a) ≡ area
unfolding spilled below
spilled_none cache lo area zero a p = refl
spilled_none cache lo area (suc k) a p = absurd (omega arith)

pub filled_step : (area : List ℕ) (lo : ℕ) (cache cache' : List ℕ) (k a b : ℕ) → 0 < k → b ≡ add a 4 → cache' ≡ put_cache_word cache a (word_at area (sub a lo))
    → filled area lo cache' (above (k - 1) b) ≡ filled area lo cache (above k a)
unfolding filled above
filled_step area lo cache cache' zero a b p q e = absurd (omega arith)
filled_step area lo cache cache' (suc k) a b p q e = rw (sub-one, e, q)

pub filled_none : (area : List ℕ) (lo : ℕ) (cache : List ℕ) (k a : ℕ) → k ≤ 0 → filled area lo cache (above k a) ≡ cache
unfolding filled above
filled_none area lo cache zero a p = refl
filled_none area lo cache (suc k) a p = absurd (omega arith)

-- A word is its own part of 4 bytes, and is replaced whole.
pub part_4 : (w a : ℕ) → w < 2 ^ 32 → part_of 4 w a ≡ w
unfolding part_of
part_4 w a p = go (4 - 4 - a % 4) (omega arith)
  where
    go : (e : ℕ) → e ≡ 0 → w / 256 ^ e % 256 ^ 4 ≡ w
    go zero q = omega arith
    go (suc e) q = absurd (omega arith)

pub put_part_4 : (w a v : ℕ) → w < 2 ^ 32 → v < 2 ^ 32 → put_part 4 w a v ≡ v
unfolding put_part
put_part_4 w a v p q = rw (part_4 w a p) (go (4 - 4 - a % 4) (omega arith))
  where
    go : (e : ℕ) → e ≡ 0 → w - w * 256 ^ e + v % 256 ^ 4 * 256 ^ e ≡ v
    go zero r = omega arith
    go (suc e) r = absurd (omega arith)

-- What is read from the cache has k bytes.
pub cache_number_bound : (k : ℕ) (cache : List ℕ) (a : ℕ) → cache_number k cache a < 256 ^ k
unfolding cache_number part_of
cache_number_bound k cache a = mod-lt (cache_word cache a / unit k a) (one-le-pow k 256 (omega arith))

-- A part with what lies below it is not more than the word.
pub part_le : (w u s : ℕ) → w / u % s * u ≤ w
part_le w u s = le_trans (mul-le-mul (mod-le (w / u) s) (le_refl u)) (div-mul-le_self w u)

-- A number below q * (s * u) stays so where its digit in base s above u is replaced.
digit_bound : (w u s v q : ℕ) → 0 < u → 0 < s → w < q * (s * u) → w - w / u % s * u + v % s * u < q * (s * u)
digit_bound w u s v q p r h =
    let m : 0 < s * u = mul-le-mul r p in
    let low : v % s * u + w % u < s * u = digits_lt (mod-lt v r) (mod-lt w p) in
    let high : w / (s * u) < q = (div-lt_iff_lt-mul m).1 h in
    omega (arith, digits_lt high low, mod-mul w r p, div-add-mod' w (s * u), part_le w u s)

-- A word with a part replaced is a word.
pub put_part_word : (k w a v : ℕ) → k ≤ 4 → w < 2 ^ 32 → put_part k w a v < 2 ^ 32
unfolding put_part part_of
put_part_word k w a v p h =
    let e = 4 - k - a % 4 in
    let q : 256 ^ (4 - k - e) * (256 ^ k * 256 ^ e) ≡ 2 ^ 32 = rw (← pow-add 256 k e, ← pow-add 256 (4 - k - e) (k + e)) (full (4 - k - e + (k + e)) (omega arith)) in
    rw q at (digit_bound w (256 ^ e) (256 ^ k) v (256 ^ (4 - k - e)) (one-le-pow e 256 (omega arith)) (one-le-pow k 256 (omega arith)) (rw q h))
  where
    full : (i : ℕ) → i ≡ 4 → 256 ^ i ≡ 2 ^ 32
    full i q = rw q

-- A shift by i bits, where i is the bits of e bytes, is to the place of value 256 ^ e.
pub shift_unit : (i e : ℕ) → i ≡ 8 * e → 2 ^ i ≡ 256 ^ e
shift_unit i zero q = rw q
shift_unit i (suc e) q =
    let h : i ≡ 8 * e + 8 = omega arith in
    rw (h, pow-add 2 (8 * e) 8, shift_unit (8 * e) e refl, pow-suc 256 e)

-- What a part of k bytes counts, as the machine has it.
pub size_of : (k : ℕ) → k < 4 → 1 * 2 ^ (8 * k) % 4294967296 ≡ 256 ^ k
size_of k p = rw (shift_unit (8 * k) k refl) (go k p)
  where
    go : (k : ℕ) → k < 4 → 1 * 256 ^ k % 4294967296 ≡ 256 ^ k
    go zero p = omega arith
    go (suc zero) p = omega arith
    go (suc (suc zero)) p = omega arith
    go (suc (suc (suc zero))) p = omega arith
    go (suc (suc (suc (suc k)))) p = absurd (omega arith)

-- The sizes of a cache among the numbers below k, and up to 600.
unfoldable sizes_below : ℕ → List ℕ
sizes_below zero = []
sizes_below (suc k) = cond (is_cache_size k) (sizes_below k ++ (k ∷ [])) (sizes_below k)

sizes : sizes_below 601 ≡ 4 ∷ 8 ∷ 16 ∷ 32 ∷ 64 ∷ 128 ∷ 256 ∷ 512 ∷ []
unfolding sizes_below is_cache_size
sizes = refl

-- More than w words, by bytes and by words that hold them.
pub more_words : (w d : ℕ) → ltb w ((d + 3) / 4) ≡ ltb (4 * w) d
more_words w d = go (ltb (4 * w) d) refl
  where
    go : (t : Bool) → ltb (4 * w) d ≡ t → ltb w ((d + 3) / 4) ≡ t
    go true e = lt-ltb w ((d + 3) / 4) (omega (arith, ltb-true (4 * w) d e))
    go false e = le-ltb w ((d + 3) / 4) (omega (arith, ltb-false (4 * w) d e))
