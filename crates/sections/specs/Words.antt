-- Words in bytes, one after the other, most significant byte first.
use Rattle.std.specs.Prelude.{ℕ, zero, suc, ◌+◌, ◌/◌, ◌<◌, ◌^◌, List, [], ◌∷◌, ◌++◌, length, get_or, drop, replicate}
use Rattle.big_endian.specs.Bytes.{word_at, put_word}

-- The bytes of words: of each the low 32 bits.
unfoldable pub bytes_of : List ℕ → List ℕ
bytes_of [] = []
bytes_of (w ∷ ws) = put_word (replicate 4 0) 0 w ++ bytes_of ws

-- The first k words in bytes, and all of them; up to three bytes behind the last whole word are no word.
unfoldable pub words_from : ℕ → List ℕ → List ℕ
words_from zero bytes = []
words_from (suc k) bytes = word_at bytes 0 ∷ words_from k (drop 4 bytes)

unfoldable pub words_in : List ℕ → List ℕ
words_in bytes = words_from (length bytes / 4) bytes

-- Bytes are numbers below 256, and words below 2 ^ 32.
abbrev pub AreBytes : List ℕ → Type 0
AreBytes l = (i : ℕ) → get_or l i 0 < 256

abbrev pub AreWords : List ℕ → Type 0
AreWords l = (i : ℕ) → get_or l i 0 < 2 ^ 32

-- Bytes with words put one after the other from an address on.
unfoldable pub put_words : List ℕ → ℕ → List ℕ → List ℕ
put_words bytes a [] = bytes
put_words bytes a (w ∷ ws) = put_words (put_word bytes a w) (a + 4) ws

-- Bytes with others over their beginning; past these they keep their rest.
abbrev pub over : List ℕ → List ℕ → List ℕ
over bytes front = front ++ drop (length front) bytes
