-- Laws of tables: which row a text is, and rows one byte at a time.
use Rattle.std.specs.Prelude.{ℕ, zero, suc, ◌+◌, ◌-◌, ◌≤◌, ◌<◌, ◌≡◌, refl, Option, Some, None, Bool, true, false, cond, ◌&&◌, List, [], ◌∷◌, ◌++◌, length, drop, get_or, eqb, leb, ltb}
use Prim.Native.Char.{code}
use Rattle.std.proofs.Common.{ap, ◌∙◌, add-one, arith, drop_of_length-le, drop-cons, ne_eqb, le-leb, ltb-true, ltb-false, leb-true, leb-false, eqb-true}
use Rattle.std.proofs.lemmas.Bool.{false≢true, lt-leb, eqb-false}
use Rattle.text.specs.Field.{same_bytes}
use Rattle.text.specs.Page.{Page, with_byte, with_text}
use Rattle.text.specs.Table.{is_row, row_text, met, is_met, row_from, left_at, met_to}

-- Whether what is left is a row.
abbrev left_is : Option (List ℕ) → List ℕ → Bool
left_is None w = false
left_is (Some s) w = same_bytes s w

done_is : (left : Option (List ℕ)) → is_met left ≡ left_is left []
unfolding is_met same_bytes
done_is None = refl
done_is (Some []) = refl
done_is (Some (c ∷ s)) = refl

met_is : (left : Option (List ℕ)) (b : ℕ) (w : List ℕ) → left_is (met left b) w ≡ left_is left (b ∷ w)
unfolding met same_bytes
met_is None b w = refl
met_is (Some []) b w = refl
met_is (Some (c ∷ s)) b w = go (eqb c b)
  where
    go : (t : Bool) → left_is (cond t (Some s) None) w ≡ (t && same_bytes s w)
    go true = refl
    go false = refl

-- The first row of a table is the text that is left, or a later row is, or none.
pub row_first : (w t s : List ℕ) (left : Option (List ℕ)) → is_row w ≡ true
    → row_from (w ++ (code "\n" ∷ t)) s left ≡ cond (left_is left w) 0 (suc (row_from t s (Some s)))
unfolding row_from is_row
row_first [] t s left h = rw (done_is left)
row_first (b ∷ w) t s left h = go (eqb b (code "\n")) h (λ (k : is_row w ≡ true). row_first w t s (met left b) k)
  where
    go : (x : Bool) → cond x false (is_row w) ≡ true
        → (is_row w ≡ true → row_from (w ++ (code "\n" ∷ t)) s (met left b) ≡ cond (left_is (met left b) w) 0 (suc (row_from t s (Some s))))
        → cond x (cond (is_met left) 0 (suc (row_from (w ++ (code "\n" ∷ t)) s (Some s)))) (row_from (w ++ (code "\n" ∷ t)) s (met left b))
        ≡ cond (left_is left (b ∷ w)) 0 (suc (row_from t s (Some s)))
    go true h later = absurd (false≢true h)
    go false h later = later h ∙ ap (λ (x : Bool). cond x 0 (suc (row_from t s (Some s)))) (met_is left b w)

pub left_all : (s : List ℕ) → left_at s 0 ≡ Some s
left_all s = rw (le-leb 0 (length s) (omega arith))

pub left_met : (s : List ℕ) (j : ℕ) → is_met (left_at s j) ≡ eqb j (length s)
unfolding is_met
left_met s j = go (leb j (length s)) refl (eqb j (length s)) refl
  where
    go : (x : Bool) → leb j (length s) ≡ x → (y : Bool) → eqb j (length s) ≡ y → is_met (cond x (Some (drop j s)) None) ≡ y
    go true e true f = rw (drop_of_length-le s {i = j} (omega (arith, eqb-true j (length s) f)))
    go true e false f = rw (drop-cons s j 0 (omega (arith, leb-true j (length s) e, eqb-false j (length s) f)))
    go false e true f = absurd (omega (arith, leb-false j (length s) e, eqb-true j (length s) f))
    go false e false f = refl

-- A byte that is the next of the text, one that is not, and one past its end.
pub met_to_lem : (s : List ℕ) (j b : ℕ) → left_at s (met_to s j b) ≡ met (left_at s j) b
unfolding met
met_to_lem s j b = go (ltb j (length s)) refl
  where
    next : (x : Bool) → eqb (get_or s j 0) b ≡ x → j < length s → left_at s (cond x (j + 1) (length s + 1)) ≡ met (left_at s j) b
    next true e h = rw (le-leb (j + 1) (length s) (omega arith), le-leb j (length s) (omega arith), drop-cons s j 0 h, add-one j, e)
    next false e h = rw (lt-leb (length s + 1) (length s) (omega arith), le-leb j (length s) (omega arith), drop-cons s j 0 h, e)

    past : (x : Bool) → None ≡ met (cond x (Some []) None) b
    past true = refl
    past false = refl

    go : (x : Bool) → ltb j (length s) ≡ x
        → left_at s (cond x (cond (eqb (get_or s j 0) b) (j + 1) (length s + 1)) (length s + 1)) ≡ met (left_at s j) b
    go true e = next (eqb (get_or s j 0) b) refl (ltb-true j (length s) e)
    go false e = rw (lt-leb (length s + 1) (length s) (omega arith), drop_of_length-le s {i = j} (ltb-false j (length s) e)) (past (leb j (length s)))

-- The scan, one byte at a time.
pub scan_over : (t s : List ℕ) (left : Option (List ℕ)) (i : ℕ) → length t ≤ i → row_from (drop i t) s left ≡ 0
unfolding row_from
scan_over t s left i h = rw (drop_of_length-le t {i = i} h)

pub scan_found : (t s : List ℕ) (left : Option (List ℕ)) (i : ℕ) → i < length t → get_or t i 0 ≡ 10 → is_met left ≡ true → row_from (drop i t) s left ≡ 0
unfolding row_from
scan_found t s left i h e m = rw (drop-cons t i 0 h, e, m)

pub scan_next : (t s : List ℕ) (left : Option (List ℕ)) (i : ℕ) → i < length t → get_or t i 0 ≡ 10 → is_met left ≡ false
    → row_from (drop i t) s left ≡ suc (row_from (drop (i + 1) t) s (Some s))
unfolding row_from
scan_next t s left i h e m = rw (drop-cons t i 0 h, add-one i, e, m)

pub scan_byte : (t s : List ℕ) (left : Option (List ℕ)) (i : ℕ) → i < length t → (get_or t i 0 ≡ 10 → ⊥)
    → row_from (drop i t) s left ≡ row_from (drop (i + 1) t) s (met left (get_or t i 0))
unfolding row_from
scan_byte t s left i h e = rw (drop-cons t i 0 h, add-one i, ne_eqb (get_or t i 0) 10 e)

-- A row put, one byte at a time.
pub row_over : (t : List ℕ) (row i : ℕ) → length t ≤ i → row_text (drop i t) row ≡ []
unfolding row_text
row_over t row i h = rw (drop_of_length-le t {i = i} h)

-- A line end ends the row, or is one row less.
pub row_ends : (t : List ℕ) (row i : ℕ) → i < length t → get_or t i 0 ≡ 10 → row ≡ 0 → row_text (drop i t) row ≡ []
unfolding row_text
row_ends t row i h e z = rw (z, drop-cons t i 0 h, e)

pub row_next : (t : List ℕ) (row i : ℕ) → i < length t → get_or t i 0 ≡ 10 → (row ≡ 0 → ⊥) → row_text (drop (i + 1) t) (row - 1) ≡ row_text (drop i t) row
unfolding row_text
row_next t zero i h e z = absurd (z refl)
row_next t (suc row) i h e z =
    let less : suc row - 1 ≡ row = omega arith in
    rw (drop-cons t i 0 h, add-one i, e, less)

-- Any other byte is one of the row, or passed over.
pub row_more : (t : List ℕ) (row i : ℕ) → i < length t → (get_or t i 0 ≡ 10 → ⊥) → row ≡ 0
    → row_text (drop i t) row ≡ (get_or t i 0 ∷ []) ++ row_text (drop (i + 1) t) row
unfolding row_text
row_more t row i h e z = rw (z, drop-cons t i 0 h, add-one i, ne_eqb (get_or t i 0) 10 e)

pub row_byte : (p : Page) (t : List ℕ) (row i : ℕ) → i < length t → (get_or t i 0 ≡ 10 → ⊥) → row ≡ 0
    → with_text (with_byte p (get_or t i 0)) (row_text (drop (i + 1) t) row) ≡ with_text p (row_text (drop i t) row)
unfolding row_text with_text
row_byte p t row i h e z = rw (z, drop-cons t i 0 h, add-one i, ne_eqb (get_or t i 0) 10 e)

pub row_past : (t : List ℕ) (row i : ℕ) → i < length t → (get_or t i 0 ≡ 10 → ⊥) → (row ≡ 0 → ⊥) → row_text (drop (i + 1) t) row ≡ row_text (drop i t) row
unfolding row_text
row_past t zero i h e z = absurd (z refl)
row_past t (suc row) i h e z = rw (drop-cons t i 0 h, add-one i, ne_eqb (get_or t i 0) 10 e)
