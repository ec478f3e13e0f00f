-- The fewest decimal digits of a number, as the kit's library counts them, are its decimal text.
use Rattle.std.specs.Prelude.{ℕ, zero, suc, ◌-◌, ◌/◌, ◌%◌, ◌^◌, ◌≤◌, ◌<◌, ◌≡◌, refl, Bool, true, false, List, [], ◌∷◌, ◌++◌, leb}
use Rattle.std.proofs.Common.{sym, ap, ◌∙◌, append-nil, sub-one, arith, pow-suc, lt-ltb, ne_eqb, leb-true, leb-false}
use Rattle.std.proofs.Math.Nat.{one-le-pow, pow-le-pow_right}
use Rattle.std.proofs.Math.Seq.{append_snoc}
use Rattle.io.specs.Digits.{last_digits, IsDigitCount, hex_digit_ascii as kit-glyph}
use Rattle.text.specs.Number.{glyph, decimal_before, decimal_text}

-- Both write a digit below 10 alike.
same_glyph : (n : ℕ) → kit-glyph (n % 10) ≡ glyph (n % 10)
unfolding glyph
same_glyph n = rw (lt-ltb (n % 10) 10 (omega arith))

fewest_before : (room k n : ℕ) (s : List ℕ) → k ≤ room → IsDigitCount 10 1 n k → last_digits 10 k n ++ s ≡ decimal_before room n s
unfolding decimal_before
fewest_before room zero n s h f = absurd (omega arith)
fewest_before zero (suc k) n s h f = absurd (omega arith)
fewest_before (suc room) (suc zero) n s h f =
    let z : n / 10 ≡ 0 = omega (arith, f.1) in
    rw z (ap (λ (d : ℕ). d ∷ s) (same_glyph n))
fewest_before (suc room) (suc (suc k)) n s h f =
    let p : 10 ^ suc k ≤ n = rw sub-one at (f.2 (omega arith)) in
    let q : 10 ^ k ≤ n / 10 = omega (arith, pow-suc 10 k) in
    let o : n / 10 < 10 ^ suc k = omega (arith, f.1, pow-suc 10 (suc k)) in
    let z : 0 < 10 ^ k = one-le-pow k 10 (omega arith) in
    rw (ne_eqb (n / 10) 0 (λ e. omega arith)) (append_snoc (last_digits 10 (suc k) (n / 10)) (kit-glyph (n % 10)) s
    ∙ ap (λ (d : ℕ). last_digits 10 (suc k) (n / 10) ++ (d ∷ s)) (same_glyph n)
    ∙ fewest_before room (suc k) (n / 10) (glyph (n % 10) ∷ s) (omega arith) (omega arith, o, λ l. rw sub-one q))

-- A number of 64 bits has at most 20 digits.
at_most_20 : (k n : ℕ) → n ≤ 18446744073709551615 → IsDigitCount 10 1 n k → k ≤ 20
at_most_20 k n h f = go (leb k 20) refl
  where
    go : (t : Bool) → leb k 20 ≡ t → k ≤ 20
    go true e = leb-true k 20 e
    go false e =
        let p = leb-false k 20 e in
        let q : 10 ^ 20 ≤ 10 ^ (k - 1) = pow-le-pow_right (omega arith) {i = 20} {j = k - 1} (omega arith) in
        let r : 10 ^ (k - 1) ≤ n = f.2 (omega arith) in
        absurd (omega arith)

pub decimal_text_lem : (k n : ℕ) → n ≤ 18446744073709551615 → IsDigitCount 10 1 n k → last_digits 10 k n ≡ decimal_text n
decimal_text_lem k n h f = sym (append-nil (last_digits 10 k n)) ∙ fewest_before 20 k n [] (at_most_20 k n h f) f
