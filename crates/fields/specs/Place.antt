-- How numbers are put into the bits of a word.
use Rattle.std.specs.Prelude.{ℕ, zero, suc, ◌-◌, ◌*◌, ◌^◌, cond, List, [], ◌∷◌, ◌++◌, ltb, Option, None, Some}
use Rattle.word.specs.Word.{add}
use Rattle.isa.specs.Format.{Range, Fixed, ◌≔◌, Format}

infix 70 ◌⟨◌⟩
-- What an instruction has in its format's word: the place of the format in its list, and the numbers of its fields in the order of
-- its figure.
pub record Fields : Type 0 where
  pub format : ℕ
  pub numbers : List ℕ

abbrev pub ◌⟨◌⟩ : ℕ → List ℕ → Fields
k ⟨ numbers ⟩ = record { format = k; numbers = numbers }

-- The member of a list at a place.
abbrev pub at : {A : Type 0} → List A → ℕ → Option A
at [] k = None
at (a ∷ l) zero = Some a
at (a ∷ l) (suc k) = at l k

-- A word grown by a number at a place. The number has to be below the limit, so that the place has room for it.
abbrev pub grown : Option ℕ → ℕ → ℕ → ℕ → Option ℕ
grown None limit place n = None
grown (Some w) limit place n = cond (ltb n limit) (Some (add w (n * place))) None

-- A number put into a range of bits: it has to fit.
abbrev pub put : Option ℕ → Fixed → Option ℕ
put w p = grown w (2 ^ (suc p.range.high - p.range.low)) (2 ^ p.range.low) p.value

-- Numbers put into their ranges, one after the other.
abbrev pub placed : Option ℕ → List Fixed → Option ℕ
placed w [] = w
placed w (p ∷ ps) = placed (put w p) ps

-- The fields of a format with their numbers.
abbrev pub filled : List Range → List ℕ → List Fixed
filled [] ns = []
filled (r ∷ rs) [] = []
filled (r ∷ rs) (n ∷ ns) = (r ≔ n) ∷ filled rs ns

-- A format's fixed bits and its fields in the word that a start gives: all other bits stay as they are there.
abbrev pub in_format : {A : Type 0} → Option ℕ → Option (Format A) → List ℕ → Option ℕ
in_format start None ns = None
in_format start (Some f) ns = placed start (f.fixed ++ filled f.fields ns)

-- The word of an instruction in one of the formats of a list. There is none if a number does not fit its field, or if the list has no
-- such format.
unfoldable pub writing : {A : Type 0} → List (Format A) → Option ℕ → Fields → Option ℕ
writing fs start t = in_format start (at fs t.format) t.numbers
