-- The fields of a line. Bytes are ASCII codes: 32 is a space, 35 is `#`.
use Rattle.std.specs.Prelude.{ℕ, suc, ◌+◌, min, Bool, true, false, cond, ◌&&◌, ◌||◌, List, [], ◌∷◌, length, drop, leb, eqb}
use Rattle.text.specs.declared.Field.{Field}

-- How many spaces the bytes start with.
unfoldable pub spaces : List ℕ → ℕ
spaces [] = 0
spaces (c ∷ cs) = cond (eqb c 32) (suc (spaces cs)) 0

-- How many bytes come before the first space or comment.
unfoldable pub field_length : List ℕ → ℕ
field_length [] = 0
field_length (c ∷ cs) = cond (eqb c 32 || eqb c 35) 0 (suc (field_length cs))

-- The next field of a line from position a on. It is empty where no field is left.
unfoldable pub field_from : List ℕ → ℕ → Field
field_from line a =
    let start = min a (length line) + spaces (drop (min a (length line)) line) in
    record { start = start; end = start + field_length (drop start line) }

-- Whether two lists of bytes are equal.
unfoldable pub same_bytes : List ℕ → List ℕ → Bool
same_bytes [] [] = true
same_bytes [] (d ∷ ds) = false
same_bytes (c ∷ cs) [] = false
same_bytes (c ∷ cs) (d ∷ ds) = eqb c d && same_bytes cs ds

-- A letter, a digit, `-`, `_` or `.`.
unfoldable pub is_name_byte : ℕ → Bool
is_name_byte c =
    (((leb 97 c && leb c 122) || (leb 65 c && leb c 90)) || (leb 48 c && leb c 57)) || ((eqb c 45 || eqb c 95) || eqb c 46)

unfoldable pub are_name_bytes : List ℕ → Bool
are_name_bytes [] = true
are_name_bytes (c ∷ cs) = is_name_byte c && are_name_bytes cs

-- The name of a case: 1 to 60 such bytes.
unfoldable pub is_name : List ℕ → Bool
is_name s = (leb 1 (length s) && leb (length s) 60) && are_name_bytes s
