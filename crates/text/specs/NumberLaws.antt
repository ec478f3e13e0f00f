-- Laws of the definitions on numbers: one digit at a time, and what is written reads back.
use Rattle.std.specs.Prelude.{ℕ, zero, suc, ◌+◌, ◌*◌, ◌-◌, ◌/◌, ◌%◌, ◌^◌, ◌≤◌, ◌<◌, ◌≡◌, refl, Bool, true, false, cond, Some, None, List, [], ◌∷◌, length, drop, get_or, set, ltb, eqb}
use Rattle.std.proofs.Common.{sym, ap, ◌∙◌, sub-one, arith, pow-suc, zero-add, length-set, drop-cons, drop-set-lt, get_or-set_same}
use Rattle.std.proofs.Math.Numerals.{add-one}
use borrow.Author.Tests.{lt-ltb, le-ltb, le-leb, lt-leb, ne_eqb, eq-eqb, ltb-true, ltb-false, eqb-true}
use Rattle.std.specs.Char.{digit_value}
use Rattle.std.proofs.lemmas.Bool.Decides.{nat_tests}
use Rattle.text.specs.Number.{digit, number_from, decimal_of, word_of, glyph, decimal_before, decimal_text, hex_before, word_text}

module _ (base v i : ℕ) (s : List ℕ) (h : i < length s) where
  pub number_step : (d : ℕ) → d ≡ digit (get_or s i 0) → d < base → v * base + d ≤ 4294967295 → number_from base (v * base + d) (drop (i + 1) s) ≡ number_from base v (drop i s)
  unfolding number_from
  number_step d e f g = rw (drop-cons s i 0 h, ← e, lt-ltb _ _ f, le-leb _ _ g, add-one i)

  pub number_not_digit : (d : ℕ) → d ≡ digit (get_or s i 0) → base ≤ d → None ≡ number_from base v (drop i s)
  unfolding number_from
  number_not_digit d e f = rw (drop-cons s i 0 h, ← e, le-ltb _ _ f)

  pub number_too_great : (d : ℕ) → d ≡ digit (get_or s i 0) → d < base → 4294967295 < v * base + d → None ≡ number_from base v (drop i s)
  unfolding number_from
  number_too_great d e f g = rw (drop-cons s i 0 h, ← e, lt-ltb _ _ f, lt-leb _ _ g)

pub number_end : (base v : ℕ) → number_from base v [] ≡ Some v
unfolding number_from
number_end base v = refl

-- A digit put in front of the bytes from position a on.
pub drop_put : (s : List ℕ) (a d : ℕ) → a < length s → drop a (set s a d) ≡ d ∷ drop (a + 1) s
drop_put s a d h =
    drop-cons (set s a d) a 0 (rw length-set h)
    ∙ ap (λ (x : ℕ). x ∷ drop (suc a) (set s a d)) (get_or-set_same s a d 0 h)
    ∙ ap (λ (l : List ℕ). d ∷ l) (drop-set-lt (suc a) s a d (omega arith))
    ∙ ap (λ (k : ℕ). d ∷ drop k s) (sym (add-one a))

pub put_before : (s : List ℕ) (a d : ℕ) → 0 < a → a ≤ length s → drop (a - 1) (set s (a - 1) d) ≡ d ∷ drop a s
put_before s a d p h =
    let e : a - 1 + 1 ≡ a = omega arith in
    drop_put s (a - 1) d (omega arith) ∙ ap (λ (k : ℕ). d ∷ drop k s) e

pub hex_step : (a n : ℕ) (s : List ℕ) → 0 < a → hex_before (a - 1) (n / 16) (glyph (n % 16) ∷ s) ≡ hex_before a n s
unfolding hex_before
hex_step zero n s h = absurd (omega arith)
hex_step (suc a) n s h = rw sub-one

pub hex_none : (a n : ℕ) (s : List ℕ) → a ≡ 0 → s ≡ hex_before a n s
unfolding hex_before
hex_none zero n s e = refl
hex_none (suc a) n s e = absurd (omega arith)

-- What is written reads back.
pub digit_glyph : (d : ℕ) → d < 16 → digit (glyph d) ≡ d
unfolding digit glyph
digit_glyph d h = go (ltb d 10) refl
  where
    go : (t : Bool) → ltb d 10 ≡ t → digit (cond t (48 + d) (55 + d)) ≡ d
    go true e =
        let p = ltb-true d 10 e in
        rw (le-leb 48 (48 + d) (omega arith), le-leb (48 + d) 57 (omega arith)) (omega arith)
    go false e =
        let p = ltb-false d 10 e in
        rw (le-leb 48 (55 + d) (omega arith), lt-leb (55 + d) 57 (omega arith), le-leb 65 (55 + d) (omega arith), le-leb (55 + d) 70 (omega arith)) (omega arith)

number_glyph : (base v d : ℕ) (s : List ℕ) → d < base → base ≤ 16 → v * base + d ≤ 4294967295 → number_from base v (glyph d ∷ s) ≡ number_from base (v * base + d) s
unfolding number_from
number_glyph base v d s p q h = rw (digit_glyph d (omega arith), lt-ltb _ _ p, le-leb _ _ h)

next_value : (base n v : ℕ) (s : List ℕ) → v ≡ n → number_from base v s ≡ number_from base n s
next_value base n v s e = ap (λ (x : ℕ). number_from base x s) e

pub decimal_reads : (k n : ℕ) (s : List ℕ) → n < 10 ^ k → n ≤ 4294967295 → number_from 10 0 (decimal_before k n s) ≡ number_from 10 n s
unfolding decimal_before
decimal_reads zero n s h w = next_value 10 n 0 s (omega arith)
decimal_reads (suc k) n s h w =
    let p : n / 10 < 10 ^ k = omega (arith, pow-suc 10 k) in
    go (eqb (n / 10) 0) refl (decimal_reads k (n / 10) (glyph (n % 10) ∷ s) p (omega arith))
  where
    go : (t : Bool) → eqb (n / 10) 0 ≡ t → number_from 10 0 (decimal_before k (n / 10) (glyph (n % 10) ∷ s)) ≡ number_from 10 (n / 10) (glyph (n % 10) ∷ s)
        → number_from 10 0 (cond t (glyph (n % 10) ∷ s) (decimal_before k (n / 10) (glyph (n % 10) ∷ s))) ≡ number_from 10 n s
    go true e ih =
        let z = eqb-true (n / 10) 0 e in
        number_glyph 10 0 (n % 10) s (omega arith) (omega arith) (omega arith) ∙ next_value 10 n _ s (omega arith)
    go false e ih =
        ih ∙ number_glyph 10 (n / 10) (n % 10) s (omega arith) (omega arith) (omega arith) ∙ next_value 10 n _ s (omega arith)

pub hex_reads : (k n : ℕ) (s : List ℕ) → n < 16 ^ k → n ≤ 4294967295 → number_from 16 0 (hex_before k n s) ≡ number_from 16 n s
unfolding hex_before
hex_reads zero n s h w = next_value 16 n 0 s (omega arith)
hex_reads (suc k) n s h w =
    let p : n / 16 < 16 ^ k = omega (arith, pow-suc 16 k) in
    hex_reads k (n / 16) (glyph (n % 16) ∷ s) p (omega arith)
    ∙ number_glyph 16 (n / 16) (n % 16) s (omega arith) (omega arith) (omega arith)
    ∙ next_value 16 n _ s (omega arith)

length_hex_before : (k n : ℕ) (s : List ℕ) → length (hex_before k n s) ≡ k + length s
unfolding hex_before
length_hex_before zero n s = sym (zero-add (length s))
length_hex_before (suc k) n s = length_hex_before k (n / 16) (glyph (n % 16) ∷ s) ∙ omega arith

decimal_some : (k n : ℕ) (s : List ℕ) → 0 < length (decimal_before (suc k) n s)
unfolding decimal_before
decimal_some zero n s = go (eqb (n / 10) 0)
  where
    go : (t : Bool) → 0 < length (cond t (glyph (n % 10) ∷ s) (glyph (n % 10) ∷ s))
    go true = omega arith
    go false = omega arith
decimal_some (suc k) n s = go (eqb (n / 10) 0) (decimal_some k (n / 10) (glyph (n % 10) ∷ s))
  where
    go : (t : Bool) → 0 < length (decimal_before (suc k) (n / 10) (glyph (n % 10) ∷ s)) → 0 < length (cond t (glyph (n % 10) ∷ s) (decimal_before (suc k) (n / 10) (glyph (n % 10) ∷ s)))
    go true h = omega arith
    go false h = h

pub decimal_round : (n : ℕ) → n ≤ 4294967295 → decimal_of (decimal_text n) ≡ Some n
unfolding decimal_of
decimal_round n w =
    let h = decimal_some 19 n [] in
    rw (ne_eqb (length (decimal_text n)) 0 (λ (e : length (decimal_text n) ≡ 0). omega arith)) (decimal_reads 20 n [] (omega arith) w ∙ number_end 10 n)

pub word_round : (n : ℕ) → n ≤ 4294967295 → word_of (word_text n) ≡ Some n
unfolding word_of
word_round n w = rw (eq-eqb (length (word_text n)) 8 (length_hex_before 8 n [])) (hex_reads 8 n [] (omega arith) w ∙ number_end 16 n)

-- The kit's digits, which go on behind F, and these: the same below any base up to 16.
pub digit_told : (c base : ℕ) → base ≤ 16 → digit_value c < base → digit_value c ≡ digit c
unfolding digit
digit_told c base h l = grind (arith, nat_tests)

pub digit_refused : (c base : ℕ) → base ≤ 16 → base ≤ digit_value c → base ≤ digit c
unfolding digit
digit_refused c base h l = grind (arith, nat_tests)
