-- How long the lines on what an operation changed can get: the buffer of a report, which has 1,048,576 bytes, has room for all of them
-- behind the answer and the state, so nothing of a report is left out.
use Rattle.std.specs.Prelude.{ℕ, zero, suc, ◌+◌, ◌*◌, ◌/◌, ◌%◌, ◌^◌, ◌≤◌, ◌<◌, min, ◌≡◌, refl, Bool, true, false, cond, List, [], ◌∷◌, length, get_or, eqb}
use Rattle.std.proofs.Common.{pow-suc, mul-le-mul_right, le_trans, arith, length-append, length-take}
use Rattle.std.proofs.lemmas.Bool.{eqb-false}
use Rattle.text.specs.Field.{same_bytes}
use Rattle.text.specs.Number.{glyph, decimal_before, hex_before}
use Rattle.case_words.specs.Names.{bytes}
use Rattle.case_kept.specs.declared.extent.Extents.{Extents}
use Rattle.case_report.specs.Form.{is_hole, shown, filled}
use Rattle.case_report.specs.Changes.{texts, byte_texts, change_line, word, change_at, word_changes, memory_changes, cache_line, cache_change, cache_changes, changes_text}

-- A number below the power j of ten has at most j digits.
decimal_length : (k j n : ℕ) (s : List ℕ) → n < 10 ^ suc j → length (decimal_before k n s) ≤ suc j + length s
unfolding decimal_before
decimal_length zero j n s h = omega arith
decimal_length (suc k) zero n s h = go (eqb (n / 10) 0) refl
  where
    go : (t : Bool) → eqb (n / 10) 0 ≡ t → length (cond t (glyph (n % 10) ∷ s) (decimal_before k (n / 10) (glyph (n % 10) ∷ s))) ≤ 1 + length s
    go true e = omega arith
    go false e = absurd (eqb-false (n / 10) 0 e (omega arith))
decimal_length (suc k) (suc j) n s h = go (eqb (n / 10) 0) (decimal_length k j (n / 10) (glyph (n % 10) ∷ s) (omega (arith, pow-suc 10 (suc j))))
  where
    go : (t : Bool) → length (decimal_before k (n / 10) (glyph (n % 10) ∷ s)) ≤ suc j + suc (length s)
        → length (cond t (glyph (n % 10) ∷ s) (decimal_before k (n / 10) (glyph (n % 10) ∷ s))) ≤ suc (suc j) + length s
    go true i = omega arith
    go false i = omega arith

bytes_length : (s : List ℕ) → length (byte_texts s) ≡ 2 * length s
unfolding byte_texts hex_before
bytes_length [] = refl
bytes_length (b ∷ s) = let i = bytes_length s in omega arith

line_length : (label w : List ℕ) (address : ℕ) → address < 100000 → length w ≤ 4 → length (change_line label address w) ≤ length label + 15
unfolding change_line
line_length label w address h g =
    let d = decimal_length 20 4 address [] (omega arith) in
    let b = bytes_length w in
    simp length-append (omega arith)

change_length : (label after before : List ℕ) (k : ℕ) → 4 * k < 100000 → length (change_at label after before k) ≤ length label + 15
unfolding change_at
change_length label after before k h = go (same_bytes (word after k) (word before k))
  where
    go : (t : Bool) → length (cond t [] (change_line label (4 * k) (word after k))) ≤ length label + 15
    go true = omega arith
    go false = line_length label (word after k) (4 * k) h (simp length-take (omega arith))

texts_length : (n m : ℕ) (f : ℕ → List ℕ) → ((k : ℕ) → k < n → length (f k) ≤ m) → length (texts n f) ≤ n * m
unfolding texts
texts_length zero m f h = omega arith
texts_length (suc n) m f h =
    let i = texts_length n m f (λ k l. h k (omega arith)) in
    let g = h n (omega arith) in
    simp length-append (omega arith)

words_length : (label after before : List ℕ) → length after ≤ 65536 → length (word_changes label after before) ≤ 16385 * (length label + 15)
unfolding word_changes
words_length label after before h =
    let t = texts_length (length after / 4 + 1) (length label + 15) (change_at label after before) (λ k l. change_length label after before k (omega arith)) in
    let m = mul-le-mul_right {m = length after / 4 + 1} {n = 16385} (length label + 15) (omega arith) in
    le_trans t m

memory_length : (label memory : List ℕ) (n : ℕ) → length (memory_changes label memory n) ≤ 16385 * (length label + 15)
unfolding memory_changes
memory_length label memory n = words_length label _ _ (simp length-take (omega arith))

cache_line_length : (k w : ℕ) → k < 1000 → length (cache_line k w) ≤ 19
unfolding filled shown is_hole hex_before
cache_line_length k w h =
    let d = decimal_length 20 2 k [] (omega arith) in
    simp length-append (omega arith)

cache_change_length : (cache : List ℕ) (k : ℕ) → k < 1000 → length (cache_change cache k) ≤ 19
unfolding cache_change
cache_change_length cache k h = go (eqb (get_or cache k 0) (get_or cache (513 + k) 0))
  where
    go : (t : Bool) → length (cond t [] (cache_line k (get_or cache k 0))) ≤ 19
    go true = omega arith
    go false = cache_line_length k (get_or cache k 0) h

cache_length : (cache : List ℕ) (n : ℕ) → length (cache_changes cache n) ≤ 513 * 19
unfolding cache_changes
cache_length cache n =
    let t = texts_length (min n 513) 19 (cache_change cache) (λ k l. cache_change_length cache k (omega arith)) in
    omega arith

pub changes_length : (main local cache : List ℕ) (e : Extents) → length (changes_text main local cache e) ≤ 681532
unfolding changes_text
changes_length main local cache e =
    let m = memory_length (bytes "main ") main e.main in
    let l = memory_length (bytes "local ") local e.local in
    let c = cache_length cache e.words in
    simp length-append (omega arith)
