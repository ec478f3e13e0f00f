-- The numbers that are kept from line to line, as one list.
use Rattle.std.specs.Prelude.{ℕ, zero, suc, ◌+◌, ◌%◌, Bool, true, false, not, cond, List, [], ◌∷◌, ◌++◌, get_or, set, eqb, ltb}
use Rattle.case_kept.specs.Indices.{ALL, CASE_END, WORDS, PREDICATES, INTERRUPTS}

-- There are ALL numbers. At another index nothing is read or written.
abbrev pub kept_number : List ℕ → ℕ → ℕ
kept_number kept index = cond (ltb index ALL) (get_or kept index 0) 0

abbrev pub put : List ℕ → ℕ → ℕ → List ℕ
put kept index n = cond (ltb index ALL) (set kept index n) kept

-- The low 32 bits of a number.
abbrev pub kept_word : List ℕ → ℕ → ℕ
kept_word kept index = kept_number kept index % 4294967296

-- A number that is not 0 says yes.
abbrev pub is_set : List ℕ → ℕ → Bool
is_set kept index = not (eqb (kept_number kept index) 0)

-- How yes and no are kept.
abbrev pub flag : Bool → ℕ
flag true = 1
flag false = 0

-- What a rule gives for 0, 1, .. up to n.
unfoldable pub up_to : {A : Type 0} → ℕ → (ℕ → A) → List A
up_to zero f = []
up_to (suc n) f = up_to n f ++ (f n ∷ [])

-- Flags, or words, from an index on.
abbrev pub kept_flags : ℕ → List ℕ → ℕ → List Bool
kept_flags n kept first = up_to n (λ i. is_set kept (first + i))

abbrev pub kept_words : ℕ → List ℕ → ℕ → List ℕ
kept_words n kept first = up_to n (λ i. kept_word kept (first + i))

-- Numbers put one after the other from an index on: what a rule gives for 0, 1, .. up to n.
unfoldable pub put_each : ℕ → ℕ → (ℕ → ℕ) → List ℕ → List ℕ
put_each first zero f kept = kept
put_each first (suc n) f kept = put (put_each first n f kept) (first + n) (f n)

-- A case that nothing is said of: without a stack line its cache has 16 words, and p0 of a fresh state is true.
unfoldable pub forgotten : List ℕ → List ℕ
forgotten kept = put (put (put (put_each 0 CASE_END (λ i. 0) kept) WORDS 16) PREDICATES 1) INTERRUPTS 0
