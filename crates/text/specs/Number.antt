-- Numbers in a case file, and as they are written in a report. Bytes are ASCII codes.
use Rattle.std.specs.Prelude.{ℕ, zero, suc, ◌+◌, ◌*◌, ◌-◌, ◌/◌, ◌%◌, cond, ◌&&◌, Option, Some, None, List, [], ◌∷◌, length, leb, ltb, eqb}

-- The value of a digit: 0 to 9, A to F or a to f; 16 for every other byte.
unfoldable pub digit : ℕ → ℕ
digit c =
    cond (leb 48 c && leb c 57) (c - 48)
    (cond (leb 65 c && leb c 70) (c - 55)
    (cond (leb 97 c && leb c 102) (c - 87)
    16))

-- A number of 32 bits read on, of which the digits before have the value v.
unfoldable pub number_from : ℕ → ℕ → List ℕ → Option ℕ
number_from base v [] = Some v
number_from base v (c ∷ cs) =
    cond (ltb (digit c) base && leb (v * base + digit c) 4294967295) (number_from base (v * base + digit c) cs) None

-- A decimal number: one digit or more, with any zeros in front.
unfoldable pub decimal_of : List ℕ → Option ℕ
decimal_of s = cond (eqb (length s) 0) None (number_from 10 0 s)

-- A word: exactly eight hexadecimal digits.
unfoldable pub word_of : List ℕ → Option ℕ
word_of s = cond (eqb (length s) 8) (number_from 16 0 s) None

-- The digit of a value below 16, upper case.
unfoldable pub glyph : ℕ → ℕ
glyph d = cond (ltb d 10) (48 + d) (55 + d)

-- The digits of n, at most k, in front of the bytes s.
unfoldable pub decimal_before : ℕ → ℕ → List ℕ → List ℕ
decimal_before zero n s = s
decimal_before (suc k) n s =
    cond (eqb (n / 10) 0) (glyph (n % 10) ∷ s) (decimal_before k (n / 10) (glyph (n % 10) ∷ s))

-- n in decimal, without zeros in front. A number of 64 bits has at most 20 digits.
abbrev pub decimal_text : ℕ → List ℕ
decimal_text n = decimal_before 20 n []

-- The last k hexadecimal digits of n, in front of the bytes s.
unfoldable pub hex_before : ℕ → ℕ → List ℕ → List ℕ
hex_before zero n s = s
hex_before (suc k) n s = hex_before k (n / 16) (glyph (n % 16) ∷ s)

-- A word as it is written in a report.
abbrev pub word_text : ℕ → List ℕ
word_text n = hex_before 8 n []

-- A byte of a memory as it is written in a report.
abbrev pub byte_text : ℕ → List ℕ
byte_text b = hex_before 2 b []
