-- Arithmetic on words. A word is a number below 2 ^ 32; what is signed goes through the integers ℤ.
use Rattle.std.specs.Prelude.{ℕ, suc, ◌+◌, ◌-◌, ◌*◌, ◌/◌, ◌%◌, ◌^◌, Bool, cond, ℤ, pos, negsuc, ◌*ℤ◌, ◌==◌, bit_and, bit_or, int_le, int_lt, nat_lt}
use Rattle.std.specs.Int.Signed.{shr_z}
use Rattle.std.specs.Int.{w32, w64}
use Rattle.std.proofs.Common.{of_z}

-- Arithmetic modulo 2^32: the sum, and the number that gives a if b is added.
abbrev pub add : ℕ → ℕ → ℕ
add a b = (a + b) % 2 ^ 32

abbrev pub sub : ℕ → ℕ → ℕ
sub a b = (a + (2 ^ 32 - b)) % 2 ^ 32

abbrev pub is_multiple_of4 : ℕ → Bool
is_multiple_of4 n = n % 4 == 0

-- The two's complement reading of k bits: n itself below 2 ^ (k - 1), and n - 2 ^ k from there on.
-- (`negsuc m` is the integer - (m + 1).)
unfoldable pub signed : ℕ → ℕ → ℤ
signed k n = cond (nat_lt n (2 ^ (k - 1))) (pos n) (negsuc (2 ^ k - suc n))

-- Compares of words read as signed.
unfoldable pub less_signed : ℕ → ℕ → Bool
less_signed a b = int_lt (signed 32 a) (signed 32 b)

unfoldable pub less_equal_signed : ℕ → ℕ → Bool
less_equal_signed a b = int_le (signed 32 a) (signed 32 b)

-- Of a shift amount the low five bits count.
abbrev pub shift_left : ℕ → ℕ → ℕ
shift_left a n = a * 2 ^ (n % 32) % 2 ^ 32

abbrev pub shift_right : ℕ → ℕ → ℕ
shift_right a n = a / 2 ^ (n % 32)

-- The arithmetic shift divides the signed reading by the power of two and rounds down.
unfoldable pub shift_right_signed : ℕ → ℕ → ℕ
shift_right_signed a n = of_z w32 (shr_z (signed 32 a) (2 ^ (n % 32)))

-- Bits. and, or and xor are `bit_and`, `bit_or` and `bit_xor` of lib.Bits.
abbrev pub nor : ℕ → ℕ → ℕ
nor a b = 2 ^ 32 - suc (bit_or a b)

-- Whether bit n, taken by its low five bits, of a is set.
abbrev pub test_bit : ℕ → ℕ → Bool
test_bit a n = a / 2 ^ (n % 32) % 2 == 1

-- The formula of section 2.6.5 as it is printed (docs/DECISIONS.md, "bcopy").
unfoldable pub copy_bit : ℕ → ℕ → Bool → ℕ
copy_bit a n b = bit_or (bit_and a (2 ^ (n % 32))) (cond b (2 ^ (n % 32)) 0)

-- The 64 bits of a product, unsigned and signed.
abbrev pub product : ℕ → ℕ → ℕ
product a b = a * b

unfoldable pub product_signed : ℕ → ℕ → ℕ
product_signed a b = of_z w64 (signed 32 a *ℤ signed 32 b)

-- The word whose signed reading is that of the low k bits of n.
unfoldable pub sign_extend : ℕ → ℕ → ℕ
sign_extend k n = of_z w32 (signed k (n % 2 ^ k))
