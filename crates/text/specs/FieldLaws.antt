-- Laws of the definitions on fields, one byte at a time.
use Rattle.std.specs.Prelude.{ℕ, ◌+◌, ◌≤◌, ◌<◌, ◌≡◌, refl, Bool, true, false, ◌&&◌, ◌||◌, List, [], ◌∷◌, length, drop, get_or, eqb}
use Rattle.std.proofs.Common.{sym, ap, ◌∙◌, add-one, arith, drop_of_length-le, drop-cons}
use Rattle.std.specs.Cmp.Lexicographic.{pointwise}
use borrow.Author.Tests.{eq-eqb, ne_eqb, eqb-true}
use Rattle.text.specs.Field.{spaces, field_length, same_bytes, is_name_byte, are_name_bytes}

module _ (l : List ℕ) (i : ℕ) (h : i < length l) where
  at : drop i l ≡ get_or l i 0 ∷ drop (i + 1) l
  at = drop-cons l i 0 h ∙ ap (λ (k : ℕ). get_or l i 0 ∷ drop k l) (sym (add-one i))

  pub spaces_step : get_or l i 0 ≡ 32 → i + 1 + spaces (drop (i + 1) l) ≡ i + spaces (drop i l)
  unfolding spaces
  spaces_step e = rw (at, e) (omega arith)

  pub spaces_stop : (get_or l i 0 ≡ 32 → ⊥) → i ≡ i + spaces (drop i l)
  unfolding spaces
  spaces_stop e = rw (at, ne_eqb _ _ e) (omega arith)

  pub field_step : (eqb (get_or l i 0) 32 || eqb (get_or l i 0) 35) ≡ false → i + 1 + field_length (drop (i + 1) l) ≡ i + field_length (drop i l)
  unfolding field_length
  field_step e = rw (at, e) (omega arith)

  pub field_stop : (eqb (get_or l i 0) 32 || eqb (get_or l i 0) 35) ≡ true → i ≡ i + field_length (drop i l)
  unfolding field_length
  field_stop e = rw (at, e) (omega arith)

  pub names_step : is_name_byte (get_or l i 0) ≡ true → are_name_bytes (drop (i + 1) l) ≡ are_name_bytes (drop i l)
  unfolding are_name_bytes
  names_step e = rw (at, e)

  pub names_stop : is_name_byte (get_or l i 0) ≡ false → false ≡ are_name_bytes (drop i l)
  unfolding are_name_bytes
  names_stop e = rw (at, e)

module _ (l : List ℕ) (i : ℕ) (h : length l ≤ i) where
  none : drop i l ≡ []
  none = drop_of_length-le l {i = i} h

  pub spaces_end : i ≡ i + spaces (drop i l)
  unfolding spaces
  spaces_end = rw none (omega arith)

  pub field_end : i ≡ i + field_length (drop i l)
  unfolding field_length
  field_end = rw none (omega arith)

  pub names_end : true ≡ are_name_bytes (drop i l)
  unfolding are_name_bytes
  names_end = rw none

same_itself : (a : List ℕ) → same_bytes a a ≡ true
unfolding same_bytes
same_itself [] = refl
same_itself (c ∷ cs) = rw (eq-eqb c c refl) (same_itself cs)

same_equal : (a b : List ℕ) → same_bytes a b ≡ true → a ≡ b
unfolding same_bytes
same_equal [] [] h = refl
same_equal [] (d ∷ ds) h = cc
same_equal (c ∷ cs) [] h = cc
same_equal (c ∷ cs) (d ∷ ds) h = go (eqb c d) refl (same_equal cs ds) h
  where
    go : (t : Bool) → eqb c d ≡ t → (same_bytes cs ds ≡ true → cs ≡ ds) → (t && same_bytes cs ds) ≡ true → c ∷ cs ≡ d ∷ ds
    go true e rest k = rw (eqb-true c d e, rest k)
    go false e rest k = cc

-- An answer that is yes for equal bytes and no for others.
pub same_told : (a b : List ℕ) (r : Bool) → (r ≡ true → a ≡ b) → (a ≡ b → r ≡ true) → r ≡ same_bytes a b
same_told a b true f g = sym (same_itself a) ∙ ap (same_bytes a) (f refl)
same_told a b false f g = go (same_bytes a b) refl
  where
    go : (t : Bool) → same_bytes a b ≡ t → false ≡ t
    go true e = g (same_equal a b e)
    go false e = refl

-- What `==` answers of two slices of bytes.
pub same_pointwise : (a b : List ℕ) → pointwise eqb a b ≡ same_bytes a b
unfolding same_bytes
same_pointwise [] [] = refl
same_pointwise [] (d ∷ ds) = refl
same_pointwise (c ∷ cs) [] = refl
same_pointwise (c ∷ cs) (d ∷ ds) = ap (λ (t : Bool). eqb c d && t) (same_pointwise cs ds)
