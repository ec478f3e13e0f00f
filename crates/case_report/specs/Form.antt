-- Texts with numbers filled in.
use Rattle.std.specs.Prelude.{ℕ, ◌%◌, Bool, cond, ◌||◌, List, [], ◌∷◌, ◌++◌, get_or, drop, eqb}
use Prim.Native.Char.{code}
use Rattle.text.specs.Number.{decimal_text, word_text}

-- The bytes of a form that stand for a number: `%` for one in decimal, `#` for one as a word, `$` for one as a letter.
unfoldable pub is_hole : ℕ → Bool
is_hole b = (eqb b (code "%") || eqb b (code "#")) || eqb b (code "$")

-- What is written for a byte of a form, where n is the next number.
unfoldable pub shown : ℕ → ℕ → List ℕ
shown b n =
    cond (eqb b (code "%")) (decimal_text n)
    (cond (eqb b (code "#")) (word_text (n % 4294967296))
    (cond (eqb b (code "$")) (n % 256 ∷ [])
    (b ∷ [])))

-- A form with numbers filled in, one after the other. Where there are no more, 0 is filled in.
unfoldable pub filled : List ℕ → List ℕ → List ℕ
filled [] numbers = []
filled (b ∷ form) numbers = shown b (get_or numbers 0 0) ++ filled form (cond (is_hole b) (drop 1 numbers) numbers)
