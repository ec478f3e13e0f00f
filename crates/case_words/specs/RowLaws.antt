-- A field is looked up by the number of its row in a table of the words.
use Rattle.std.specs.Prelude.{ℕ, suc, ◌+◌, ◌≡◌, refl, Some, Bool, true, false, cond, List, [], ◌∷◌}
use Prim.Native.String as Text
use Rattle.std.proofs.Common.{sym, ap, ◌∙◌, zero-add, arith, eq-eqb, ne_eqb}
use Rattle.std.proofs.lemmas.Bool.{false≢true}
use Rattle.text.specs.Field.{same_bytes}
use Rattle.text.specs.Table.{table, is_row, row_from, row_of}
use Rattle.text.specs.TableLaws.{row_first}
use Rattle.case_words.specs.Names.{bytes, look_up, words, are_rows, meaning_from, meaning_at}

both : (x y : Bool) → cond x y false ≡ true → (x ≡ true) × (y ≡ true)
both true y h = (refl, h)
both false y h = absurd (false≢true h)

look_from : {A : Type 0} (n : ℕ) (rows : List (Text.String × A)) (s : List ℕ) → are_rows rows ≡ true
    → meaning_from n rows (n + row_from (table (words rows)) s (Some s)) ≡ look_up rows s
unfolding words are_rows meaning_from look_up table
look_from n [] s h = refl
look_from n ((w, a) ∷ rows) s h =
    let parts = both (is_row (bytes w)) (are_rows rows) h in
    ap (λ (k : ℕ). meaning_from n ((w, a) ∷ rows) (n + k)) (row_first (bytes w) (table (words rows)) s (Some s) parts.0)
    ∙ go (row_from (table (words rows)) s (Some s)) (same_bytes s (bytes w)) (look_from (n + 1) rows s parts.1)
  where
    go : (later : ℕ) (x : Bool) → meaning_from (n + 1) rows (n + 1 + later) ≡ look_up rows s
        → meaning_from n ((w, a) ∷ rows) (n + cond x 0 (suc later)) ≡ cond x (Some a) (look_up rows s)
    go later true e = rw (eq-eqb (n + 0) n (omega arith))
    go later false e =
        let moved : n + suc later ≡ n + 1 + later = omega arith in
        rw (ne_eqb (n + suc later) n (λ (k : n + suc later ≡ n). omega arith), moved) e

pub look_up_row : {A : Type 0} (rows : List (Text.String × A)) (s : List ℕ) → are_rows rows ≡ true
    → meaning_at rows (row_of (table (words rows)) s) ≡ look_up rows s
look_up_row rows s h = ap (λ (k : ℕ). meaning_from 0 rows k) (sym (zero-add _)) ∙ look_from 0 rows s h
