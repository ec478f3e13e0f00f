-- One number put into a range of bits: the range then has the number, and ranges apart from it have what they had. All widths at once.
use Rattle.std.specs.Prelude.{ℕ, suc, ◌+◌, ◌-◌, ◌*◌, ◌/◌, ◌%◌, ◌^◌, ◌<◌, ◌≤◌, Bool, true, false, cond, ◌&&◌, ◌||◌, ◌≡◌, refl, leb, ltb, None, Some}
use Rattle.std.proofs.lemmas.Option.{same_Some, none-some}
use Rattle.std.proofs.Common.{sym, ap, ◌∙◌, add-sub_of_le, arith, pow_pos, shr-shr, ltb-true, leb-true, lt-ltb}
use Rattle.std.proofs.Math.Nat.{add-mul-div_right, add-mul-mod_self_right}
use Rattle.std.proofs.Math.Pow.{split, high, low, field, mod-mod-pow}
use Rattle.word.specs.BoolLaws.{and_left, and_right}
use Rattle.isa.specs.Format.{Range, bits, Fixed}
use Rattle.fields.specs.Place.{put}

-- A range of bits of a word, and two ranges that share no bit.
abbrev pub in_word : Range → Bool
in_word r = leb r.low r.high && ltb r.high 32

abbrev pub apart : Range → Range → Bool
apart r s = ltb r.high s.low || ltb s.high r.low

-- The number fits the range.
abbrev pub Fit : Fixed → Type 0
Fit p = p.value < 2 ^ (suc p.range.high - p.range.low)

-- A sum at k bits from l on that were zero: nothing is carried.
raised : (l k x n : ℕ) → x / 2 ^ l % 2 ^ k ≡ 0 → (x + n * 2 ^ l) / 2 ^ l ≡ x / 2 ^ l / 2 ^ k * 2 ^ k + n
raised l k x n e = add-mul-div_right x n (pow_pos l) ∙ ap (λ (y : ℕ). y + n)
    (sym (split (x / 2 ^ l) k) ∙ ap (λ (y : ℕ). x / 2 ^ l / 2 ^ k * 2 ^ k + y) e ∙ omega arith)

same : (l k x n : ℕ) → x / 2 ^ l % 2 ^ k ≡ 0 → n < 2 ^ k → (x + n * 2 ^ l) / 2 ^ l % 2 ^ k ≡ n
same l k x n e h = ap (λ (y : ℕ). y % 2 ^ k) (raised l k x n e) ∙ low (x / 2 ^ l / 2 ^ k) k h

above : (l k x n m : ℕ) → x / 2 ^ l % 2 ^ k ≡ 0 → n < 2 ^ k → l + k ≤ m → (x + n * 2 ^ l) / 2 ^ m ≡ x / 2 ^ m
above l k x n m e h q = from (x + n * 2 ^ l) ∙ ap (λ (y : ℕ). y / 2 ^ k / 2 ^ (m - (l + k))) (raised l k x n e)
    ∙ ap (λ (y : ℕ). y / 2 ^ (m - (l + k))) (high (x / 2 ^ l / 2 ^ k) k h) ∙ sym (from x)
  where
    from : (y : ℕ) → y / 2 ^ m ≡ y / 2 ^ l / 2 ^ k / 2 ^ (m - (l + k))
    from y = ap (λ (a : ℕ). y / 2 ^ a) (sym (add-sub_of_le q)) ∙ sym (shr-shr y (l + k) (m - (l + k)))
        ∙ ap (λ (a : ℕ). a / 2 ^ (m - (l + k))) (sym (shr-shr y l k))

-- Bits below m depend only on what is below m.
under : (l k m x : ℕ) → l + k ≤ m → x % 2 ^ m / 2 ^ l % 2 ^ k ≡ x / 2 ^ l % 2 ^ k
under l k m x q = sym (field (x % 2 ^ m) k l) ∙ ap (λ (y : ℕ). y / 2 ^ l)
    (ap (λ (a : ℕ). x % 2 ^ a % 2 ^ (k + l)) (omega arith) ∙ mod-mod-pow x (m - (k + l)) (k + l)) ∙ field x k l

below : (l x n j k : ℕ) → j + k ≤ l → (x + n * 2 ^ l) / 2 ^ j % 2 ^ k ≡ x / 2 ^ j % 2 ^ k
below l x n j k q = sym (under j k l (x + n * 2 ^ l) q) ∙ ap (λ (y : ℕ). y / 2 ^ j % 2 ^ k) (add-mul-mod_self_right x n (2 ^ l))
    ∙ under j k l x q

-- A word that a put gives is the sum, taken to 32 bits, and the number fits.
pub put_given : (w v : ℕ) (p : Fixed) → put (Some w) p ≡ Some v → Fit p × ((w + p.value * 2 ^ p.range.low) % 2 ^ 32 ≡ v)
put_given w v p = go (ltb p.value (2 ^ (suc p.range.high - p.range.low))) refl
  where
    go : (t : Bool) → ltb p.value (2 ^ (suc p.range.high - p.range.low)) ≡ t
        → cond t (Some ((w + p.value * 2 ^ p.range.low) % 2 ^ 32)) None ≡ Some v
        → Fit p × ((w + p.value * 2 ^ p.range.low) % 2 ^ 32 ≡ v)
    go true e q = (ltb-true _ _ e, same_Some _ _ q)
    go false e q = absurd (none-some _ q)

pub put_fits : (w : ℕ) (p : Fixed) → Fit p → (v : ℕ) × (put (Some w) p ≡ Some v)
put_fits w p h = ((w + p.value * 2 ^ p.range.low) % 2 ^ 32, rw (lt-ltb _ _ h) refl)

in_word_lem : (r : Range) → in_word r ≡ true → (r.low ≤ r.high) × (r.high < 32)
in_word_lem r e = (leb-true _ _ (and_left _ _ e), ltb-true _ _ (and_right (leb r.low r.high) _ e))

-- Taking a number to 32 bits changes none of them.
bits_word : (r : Range) (x : ℕ) → in_word r ≡ true → bits r (x % 2 ^ 32) ≡ bits r x
bits_word r x e = under r.low (suc r.high - r.low) 32 x (omega (arith, in_word_lem r e))

pub put_same : (w v : ℕ) (p : Fixed) → in_word p.range ≡ true → bits p.range w ≡ 0 → put (Some w) p ≡ Some v
    → bits p.range v ≡ p.value
put_same w v p i z e = let g = put_given w v p e in
    ap (bits p.range) (sym g.1) ∙ bits_word p.range _ i
    ∙ same p.range.low (suc p.range.high - p.range.low) w p.value z g.0

pub put_keeps : (w v : ℕ) (p : Fixed) (r : Range) → in_word p.range ≡ true → bits p.range w ≡ 0 → put (Some w) p ≡ Some v
    → in_word r ≡ true → apart p.range r ≡ true → bits r v ≡ bits r w
put_keeps w v p r i z e j a = let g = put_given w v p e in
    ap (bits r) (sym g.1) ∙ bits_word r _ j ∙ go (ltb p.range.high r.low) refl a
  where
    go : (t : Bool) → ltb p.range.high r.low ≡ t → t || ltb r.high p.range.low ≡ true
        → bits r (w + p.value * 2 ^ p.range.low) ≡ bits r w
    go true q u = ap (λ (y : ℕ). y % 2 ^ (suc r.high - r.low))
        (above p.range.low (suc p.range.high - p.range.low) w p.value r.low z (put_given w v p e).0
        (omega (arith, ltb-true p.range.high r.low q, in_word_lem p.range i)))
    go false q u = below p.range.low w p.value r.low (suc r.high - r.low)
        (omega (arith, ltb-true r.high p.range.low u, in_word_lem r j))

pub put_below : (w v : ℕ) (p : Fixed) → put (Some w) p ≡ Some v → v < 2 ^ 32
put_below w v p e = omega (arith, (put_given w v p e).1)
