-- Numbers in a list of bytes, most significant byte first. Bytes past the end read as 0, and are not written.
use Rattle.std.specs.Prelude.{ℕ, zero, suc, ◌+◌, ◌*◌, ◌/◌, ◌%◌, List, get_or, set}

-- The number in the k bytes from address a on.
unfoldable pub number_at : ℕ → List ℕ → ℕ → ℕ
number_at zero bytes a = 0
number_at (suc k) bytes a = number_at k bytes a * 256 + get_or bytes (a + k) 0

-- The bytes with the low 8 k bits of n in the k bytes from address a on.
unfoldable pub put_number : ℕ → List ℕ → ℕ → ℕ → List ℕ
put_number zero bytes a n = bytes
put_number (suc k) bytes a n = set (put_number k bytes a (n / 256)) (a + k) (n % 256)

-- The word at an address, by which code is fetched and stack words are spilled and filled.
abbrev pub word_at : List ℕ → ℕ → ℕ
word_at = number_at 4

abbrev pub put_word : List ℕ → ℕ → ℕ → List ℕ
put_word = put_number 4
