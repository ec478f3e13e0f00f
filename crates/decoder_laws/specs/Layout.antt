-- Two tests on the formats as data, computed: their bits are all accounted for, and no word fits two of them.
use Rattle.std.specs.Prelude.{ℕ, zero, suc, ◌-◌, ◌/◌, ◌%◌, ◌^◌, Bool, true, false, cond, ◌&&◌, ◌||◌, List, [], ◌∷◌, ◌++◌, map, ◌≡◌, refl, eqb, leb, ltb, length}
use Rattle.isa.specs.Format.{Range, Fixed, Format}
use Rattle.isa.specs.Formats.{long_formats, alu_formats, first_formats}

-- A format without its meaning.
pub record Shape : Type 0 where
  pub fixed : List Fixed
  pub fields : List Range
  pub unused : List Range

abbrev pub shape : {A : Type 0} → Format A → Shape
shape f = record { fixed = f.fixed; fields = f.fields; unused = f.unused }

abbrev pub shapes : List Shape
shapes = map shape long_formats ++ (map shape alu_formats ++ map shape first_formats)

pub eighteen_formats : length shapes ≡ 18
eighteen_formats = refl

-- A test holds of all, or of some, of the members of a list, or of the numbers below n.
abbrev pub all : {A : Type 0} → (A → Bool) → List A → Bool
all t [] = true
all t (a ∷ l) = t a && all t l

abbrev pub some : {A : Type 0} → (A → Bool) → List A → Bool
some t [] = false
some t (a ∷ l) = t a || some t l

abbrev pub below : ℕ → List ℕ
below zero = []
below (suc n) = n ∷ below n

abbrev pub is_in : ℕ → Range → Bool
is_in b r = leb r.low b && leb b r.high

-- How many of the ranges have the bit b.
abbrev pub count : ℕ → List Range → ℕ
count b [] = 0
count b (r ∷ rs) = cond (is_in b r) (suc (count b rs)) (count b rs)

abbrev pub ranges : Shape → List Range
ranges s = map (λ f. f.range) s.fixed ++ (s.fields ++ s.unused)

-- Each bit from 0 to 26 is fixed, in a field or unused, and only one of these and only once; bits 27 to 30, the guard, are none
-- of these. So no bit of a format's figure is forgotten, and none is read twice.
abbrev pub is_whole : Shape → Bool
is_whole s = all (λ b. eqb (count b (ranges s)) (cond (ltb b 27) 1 0)) (below 31)

pub formats_whole : all is_whole shapes ≡ true
formats_whole = refl

-- A format fixes the bit b to the value v.
abbrev pub fixes : Shape → ℕ → ℕ → Bool
fixes s b v = some (λ f. is_in b f.range && eqb (f.value / 2 ^ (b - f.range.low) % 2) v) s.fixed

-- There is a bit that both fix, one to 0 and the other to 1. So no word has both formats.
abbrev pub differ : Shape → Shape → Bool
differ s t = some (λ b. (fixes s b 0 && fixes t b 1) || (fixes s b 1 && fixes t b 0)) (below 32)

abbrev pub all_differ : List Shape → Bool
all_differ [] = true
all_differ (s ∷ ss) = all (differ s) ss && all_differ ss

-- Any two of the formats differ: the format of a word does not depend on the order in which they are listed.
pub formats_differ : all_differ shapes ≡ true
formats_differ = refl
