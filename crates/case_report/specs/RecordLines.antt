-- The lines of a report on a record that was written, and on the bytes behind it.
use Rattle.std.specs.Prelude.{ℕ, zero, suc, ◌+◌, ◌/◌, ◌%◌, cond, List, [], ◌∷◌, ◌++◌, length, get_or, eqb}
use Prim.Native.Char.{code}
use Rattle.case_words.specs.Names.{bytes}
use Rattle.case_report.specs.Form.{filled}
use Rattle.case_report.specs.Changes.{texts, byte_texts, word}

-- What stands in front of word k: 16 words stand in a line.
unfoldable pub lead : ℕ → List ℕ
lead k = cond (eqb k 0) (bytes "record ") (cond (eqb (k % 16) 0) (bytes "\nrecord ") (bytes " "))

unfoldable pub record_word : List ℕ → ℕ → List ℕ
record_word written k = lead k ++ byte_texts (word written k)

-- All words of a record; of none there is no line.
unfoldable pub record_text : List ℕ → List ℕ
record_text written = cond (eqb (length written / 4) 0) [] (texts (length written / 4) (record_word written) ++ (code "\n" ∷ []))

-- What the room for a record holds before one is written.
abbrev pub FILL : ℕ
FILL = 0xA5

abbrev pub counted_with : ℕ → ℕ → ℕ
counted_with n b = cond (eqb b FILL) (n + 1) n

-- How many of the first n bytes hold it.
unfoldable pub filled_to : ℕ → List ℕ → ℕ
filled_to zero s = 0
filled_to (suc n) s = counted_with (filled_to n s) (get_or s n 0)

unfoldable pub rest_text : List ℕ → List ℕ
rest_text rest = filled (bytes "rest %\n") (filled_to (length rest) rest ∷ [])
