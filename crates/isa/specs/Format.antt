-- How an instruction format is laid out, and how a list of formats reads a word.
use Rattle.std.specs.Prelude.{ℕ, suc, ◌-◌, ◌/◌, ◌%◌, ◌^◌, Bool, true, cond, ◌&&◌, List, [], ◌∷◌, eqb, Option, None}

infix 80 ◌⋯◌
infix 70 ◌≔◌ ◌⇒◌
-- Bits high to low, both included.
pub record Range : Type 0 where
  pub high : ℕ
  pub low : ℕ

abbrev pub ◌⋯◌ : ℕ → ℕ → Range
high ⋯ low = record { high = high; low = low }

-- The number that a word has in a range of bits.
abbrev pub bits : Range → ℕ → ℕ
bits r w = w / 2 ^ r.low % 2 ^ (suc r.high - r.low)

-- Bits that a format fixes.
pub record Fixed : Type 0 where
  pub range : Range
  pub value : ℕ

abbrev pub ◌≔◌ : Range → ℕ → Fixed
r ≔ n = record { range = r; value = n }

-- What the fields of a format say: a value of A, or nothing. It is given the fields' numbers one after the other.
abbrev pub Meaning : Type 0 → List Range → Type 0
Meaning A [] = Option A
Meaning A (f ∷ fs) = ℕ → Meaning A fs

-- A format: the bits that tell it from the others, its fields, its bits without a meaning, and what its fields say.
pub record Format (A : Type 0) : Type 0 where
  pub fixed : List Fixed
  pub fields : List Range
  pub unused : List Range
  pub meaning : Meaning A fields

abbrev pub format : {A : Type 0} → List Fixed → (fields : List Range) → List Range → Meaning A fields → Format A
format fixed fields unused meaning = record { fixed = fixed; fields = fields; unused = unused; meaning = meaning }

abbrev pub matches : List Fixed → ℕ → Bool
matches [] w = true
matches (f ∷ fs) w = eqb (bits f.range w) f.value && matches fs w

abbrev pub said : {A : Type 0} → (fs : List Range) → Meaning A fs → ℕ → Option A
said [] m w = m
said (f ∷ fs) m w = said fs (m (bits f w)) w

-- A word has the meaning that the format it matches gives to its fields. A word that matches none has no meaning.
unfoldable pub reading : {A : Type 0} → List (Format A) → ℕ → Option A
reading [] w = None
reading (f ∷ fs) w = cond (matches f.fixed w) (said f.fields f.meaning w) (reading fs w)

-- A row of a table of function codes.
pub record Row (A : Type 0) : Type 0 where
  pub code : ℕ
  pub value : A

abbrev pub ◌⇒◌ : {A : Type 0} → ℕ → A → Row A
n ⇒ a = record { code = n; value = a }

-- What is made of the row of a code. A code with no row has no meaning.
unfoldable pub row : {A B : Type 0} → List (Row A) → ℕ → (A → Option B) → Option B
row [] n make = None
row (r ∷ rs) n make = cond (eqb n r.code) (make r.value) (row rs n make)
