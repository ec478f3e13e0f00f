-- Laws of the arithmetic on words: what is a word again, and which operations undo each other.
use Rattle.std.specs.Prelude.{◌≡◌, ℕ, zero, suc, ◌+◌, ◌-◌, ◌*◌, ◌%◌, ◌^◌, ◌<◌, ◌≤◌, Bool, true, false, cond, ℤ, pos, negsuc, ◌*ℤ◌, neg_ℤ, FitsSigned, nat_lt, refl}
use Rattle.std.proofs.Common.{arith, sub-one, div-le_self, lt_of_le_of_lt, lt_of_lt_of_le, mul-le-mul, ltb-true, ltb-false, pow_pos, pow_mono, of_z}
use Rattle.std.proofs.Math.Nat.{two-pow-succ}
use Rattle.std.proofs.lemmas.Nat.{and_le_r, or_lt}
use Rattle.std.proofs.Math.Pow.{pow-lt}
use Rattle.std.specs.Int.Signed.{mag, shr_z, mag_shr}
use Rattle.std.specs.Int.{w32, w64}
use mir.ValLaws.{of_z_fits, sfits_le}
use Rattle.word.specs.Word.{add, sub, signed, shift_left, shift_right, shift_right_signed, nor, copy_bit, product, product_signed, sign_extend}

pub add_word : (a b : ℕ) → add a b < 2 ^ 32
add_word a b = omega arith

pub sub_word : (a b : ℕ) → sub a b < 2 ^ 32
sub_word a b = omega arith

pub sub_add : (a b : ℕ) → a < 2 ^ 32 → b < 2 ^ 32 → add (sub a b) b ≡ a
sub_add a b p q = omega arith

pub add_sub : (a b : ℕ) → a < 2 ^ 32 → b < 2 ^ 32 → sub (add a b) b ≡ a
add_sub a b p q = omega arith

-- A reading of k bits lies from - 2 ^ (k - 1) to 2 ^ (k - 1) - 1. (`mag` is n both of n and of - (n + 1).)
pub signed_mag : (k n : ℕ) → mag (signed k n) < 2 ^ (k - 1)
unfolding signed
signed_mag k n = go (nat_lt n (2 ^ (k - 1))) refl
  where
    half : (k : ℕ) → 2 ^ k ≤ 2 ^ (k - 1) + 2 ^ (k - 1)
    half zero = omega arith
    half (suc k) = rw sub-one (omega (arith, two-pow-succ k))

    go : (t : Bool) → nat_lt n (2 ^ (k - 1)) ≡ t → mag (cond t (pos n) (negsuc (2 ^ k - suc n))) < 2 ^ (k - 1)
    go true e = ltb-true _ _ e
    go false e = omega (arith, ltb-false n (2 ^ (k - 1)) e, half k, pow_pos (k - 1))

pub signed_fits : (a : ℕ) → FitsSigned w32 (signed 32 a)
signed_fits a = record { sfits = signed_mag 32 a }

-- The word of a word's signed reading is the word.
pub unsigned_signed : (a : ℕ) → a < 2 ^ 32 → of_z w32 (signed 32 a) ≡ a
unfolding signed
unsigned_signed a p = go (nat_lt a (2 ^ 31))
  where
    go : (t : Bool) → of_z w32 (cond t (pos a) (negsuc (2 ^ 32 - suc a))) ≡ a
    go true = refl
    go false = omega arith

pub shift_left_word : (a n : ℕ) → shift_left a n < 2 ^ 32
shift_left_word a n = omega arith

pub shift_right_word : (a n : ℕ) → a < 2 ^ 32 → shift_right a n < 2 ^ 32
shift_right_word a n p = lt_of_le_of_lt (div-le_self a (2 ^ (n % 32))) p

pub shift_right_signed_word : (a n : ℕ) → shift_right_signed a n < 2 ^ 32
unfolding shift_right_signed
shift_right_signed_word a n = (of_z_fits w32 (shr_z (signed 32 a) (2 ^ (n % 32))) (sfits_le (mag_shr (signed 32 a) (2 ^ (n % 32))) (signed_fits a))).fits

pub nor_word : (a b : ℕ) → nor a b < 2 ^ 32
nor_word a b = omega arith

pub bit_word : (n : ℕ) → 2 ^ (n % 32) < 2 ^ 32
bit_word n = pow-lt {i = n % 32} {j = 32} (omega arith)

pub copy_bit_word : (a n : ℕ) (b : Bool) → copy_bit a n b < 2 ^ 32
unfolding copy_bit
copy_bit_word a n b = or_lt 32 _ _ (lt_of_le_of_lt (and_le_r a (2 ^ (n % 32))) (bit_word n)) (go b)
  where
    go : (b : Bool) → cond b (2 ^ (n % 32)) 0 < 2 ^ 32
    go true = bit_word n
    go false = omega arith

pub product_double_word : (a b : ℕ) → a < 2 ^ 32 → b < 2 ^ 32 → product a b < 2 ^ 64
product_double_word a b p q =
    let x : a ≤ 2 ^ 32 - 1 = omega arith in
    let y : b ≤ 2 ^ 32 - 1 = omega arith in
    omega (arith, mul-le-mul x y)

-- The product of two signed words fits a signed double word.
pub product_fits : (y z : ℤ) → mag y < 2 ^ 31 → mag z < 2 ^ 31 → FitsSigned w64 (y *ℤ z)
product_fits y z p q = record { sfits = go y z p q }
  where
    bound : (a b : ℕ) → a ≤ 2 ^ 31 → b ≤ 2 ^ 31 → a * b ≤ 2 ^ 62
    bound a b p q = mul-le-mul p q

    below : (n : ℕ) → n ≤ 2 ^ 62 → mag (neg_ℤ (pos n)) < 2 ^ 63
    below zero p = omega arith
    below (suc n) p = omega arith

    go : (y z : ℤ) → mag y < 2 ^ 31 → mag z < 2 ^ 31 → mag (y *ℤ z) < 2 ^ 63
    go (pos a) (pos b) p q = omega (arith, bound a b (omega arith) (omega arith))
    go (pos a) (negsuc b) p q = below _ (bound a (suc b) (omega arith) (omega arith))
    go (negsuc a) (pos b) p q = below _ (bound (suc a) b (omega arith) (omega arith))
    go (negsuc a) (negsuc b) p q = omega (arith, bound (suc a) (suc b) (omega arith) (omega arith))

pub product_signed_double_word : (a b : ℕ) → product_signed a b < 2 ^ 64
unfolding product_signed
product_signed_double_word a b = (of_z_fits w64 (signed 32 a *ℤ signed 32 b) (product_fits (signed 32 a) (signed 32 b) (signed_mag 32 a) (signed_mag 32 b))).fits

pub sign_extend_word : (k n : ℕ) → k ≤ 32 → sign_extend k n < 2 ^ 32
unfolding sign_extend
sign_extend_word k n p = (of_z_fits w32 (signed k (n % 2 ^ k)) (record { sfits = lt_of_lt_of_le (signed_mag k (n % 2 ^ k)) (pow_mono {i = k - 1} {j = 31} (omega arith)) })).fits
