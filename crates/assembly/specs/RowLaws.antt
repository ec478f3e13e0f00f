-- The row of a text, found row by row: what a proof can compute, since it stops at the row.
use Rattle.std.specs.Prelude.{ℕ, suc, ◌+◌, ◌≡◌, refl, Some, Bool, true, false, cond, ◌||◌, List, [], ◌∷◌, eqb, length}
use Rattle.std.proofs.Common.{ap, ◌∙◌}
use Rattle.std.proofs.lemmas.Bool.{false≢true}
use Rattle.text.specs.Field.{same_bytes}
use Rattle.text.specs.Table.{table, is_row, row_from, row_of}
use Rattle.text.specs.TableLaws.{row_first}
use Rattle.case_words.specs.Names.{bytes}
use Rattle.assembly.specs.Forms.{Form, forms, mnemonics, sizes, mnemonic_from, mnemonic_of}
use Rattle.assembly.specs.Operands.{specials, special_rows}

unfoldable pub place : List (List ℕ) → List ℕ → ℕ
place [] s = 0
place (w ∷ ws) s = let later = place ws s in cond (same_bytes s w) 0 (suc later)

unfoldable pub are_rows : List (List ℕ) → Bool
are_rows [] = true
are_rows (w ∷ ws) = cond (is_row w) (are_rows ws) false

both : (x y : Bool) → cond x y false ≡ true → (x ≡ true) × (y ≡ true)
both true y h = (refl, h)
both false y h = absurd (false≢true h)

pub row_place : (ws : List (List ℕ)) (s : List ℕ) → are_rows ws ≡ true → row_of (table ws) s ≡ place ws s
unfolding place are_rows table row_from
row_place [] s h = refl
row_place (w ∷ ws) s h =
    let parts = both (is_row w) (are_rows ws) h in
    row_first w (table ws) s (Some s) parts.0 ∙ ap (λ (k : ℕ). cond (same_bytes s w) 0 (suc k)) (row_place ws s parts.1)

pub mnemonic_place : (s : List ℕ) → mnemonic_of s ≡ mnemonic_from 0 (sizes forms) (place (mnemonics forms) s)
unfolding mnemonic_of are_rows is_row mnemonics forms
mnemonic_place s = ap (mnemonic_from 0 (sizes forms)) (row_place (mnemonics forms) s refl)

pub special_place : (s : List ℕ) → row_of specials s ≡ place special_rows s
unfolding specials are_rows is_row
special_place s = row_place special_rows s refl

-- Computed tests of the table: each mnemonic is found in its own row, so that no two are the same, and each form has four letters.
abbrev own_rows : List (List ℕ) → ℕ → List (List ℕ) → Bool
own_rows all n [] = true
own_rows all n (w ∷ ws) = cond (eqb (length w) 0 || eqb (place all w) n) (own_rows all (n + 1) ws) false

pub mnemonics_differ : own_rows (mnemonics forms) 0 (mnemonics forms) ≡ true
unfolding mnemonics forms place same_bytes
mnemonics_differ = refl

abbrev four_letters : List Form → Bool
four_letters [] = true
four_letters (f ∷ fs) = cond (eqb (length (bytes f.kinds)) 4) (four_letters fs) false

pub four_letters_lem : four_letters forms ≡ true
unfolding forms
four_letters_lem = refl
