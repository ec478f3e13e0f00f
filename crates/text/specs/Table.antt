-- Tables of texts: rows that each end with a line end.
use Rattle.std.specs.Prelude.{ℕ, zero, suc, ◌+◌, Option, Some, None, Bool, true, false, cond, List, [], ◌∷◌, ◌++◌, length, drop, get_or, eqb, leb, ltb}
use Prim.Native.Char.{code}

unfoldable pub table : List (List ℕ) → List ℕ
table [] = []
table (w ∷ ws) = w ++ (code "\n" ∷ table ws)

-- A text that can be a row.
unfoldable pub is_row : List ℕ → Bool
is_row [] = true
is_row (b ∷ w) = cond (eqb b (code "\n")) false (is_row w)

-- The row of a number, counted from 0; nothing where there is none.
unfoldable pub row_text : List ℕ → ℕ → List ℕ
row_text [] row = []
row_text (b ∷ t) zero = cond (eqb b (code "\n")) [] (b ∷ row_text t 0)
row_text (b ∷ t) (suc row) = cond (eqb b (code "\n")) (row_text t row) (row_text t (suc row))

-- What is left of a text once a byte of a row was met: none where they differ.
unfoldable pub met : Option (List ℕ) → ℕ → Option (List ℕ)
met None b = None
met (Some []) b = None
met (Some (c ∷ w)) b = cond (eqb c b) (Some w) None

unfoldable pub is_met : Option (List ℕ) → Bool
is_met None = false
is_met (Some []) = true
is_met (Some (c ∷ w)) = false

-- The number of the first row that is a text, and how many rows there are where none is: from a place in the table on, with what is left
-- there of the text.
unfoldable pub row_from : List ℕ → List ℕ → Option (List ℕ) → ℕ
row_from [] s left = 0
row_from (b ∷ t) s left = cond (eqb b (code "\n")) (cond (is_met left) 0 (suc (row_from t s (Some s)))) (row_from t s (met left b))

abbrev pub row_of : List ℕ → List ℕ → ℕ
row_of t s = row_from t s (Some s)

-- The same by a number: how many bytes of a text were met, and one more than it has where a byte differed.
abbrev pub left_at : List ℕ → ℕ → Option (List ℕ)
left_at s j = cond (leb j (length s)) (Some (drop j s)) None

abbrev pub met_to : List ℕ → ℕ → ℕ → ℕ
met_to s j b = cond (ltb j (length s)) (cond (eqb (get_or s j 0) b) (j + 1) (length s + 1)) (length s + 1)
