-- Laws of forms, one byte at a time.
use Rattle.std.specs.Prelude.{ℕ, suc, ◌+◌, ◌-◌, ◌≤◌, ◌<◌, min, ◌≡◌, refl, Bool, true, false, cond, List, [], ◌++◌, length, take, drop, get_or, leb}
use Rattle.std.proofs.Common.{sym, ap, ◌∙◌, add-one, add-zero, arith, drop_of_length-le, length-drop, drop-cons, get_or-drop, drop-drop, take_all, leb-true, leb-false}
use Rattle.text.specs.Page.{Page, with_text}
use Rattle.text.specs.PageLaws.{text_append, text_none}
use Rattle.case_report.specs.Form.{is_hole, shown, filled}

next_numbers : (t : Bool) (k : ℕ) (numbers : List ℕ) → drop (cond t (k + 1) k) numbers ≡ cond t (drop 1 (drop k numbers)) (drop k numbers)
next_numbers true k numbers = sym (drop-drop 1 k numbers)
next_numbers false k numbers = refl

pub fill_more : (form numbers : List ℕ) (i k : ℕ) → i < length form
    → filled (drop i form) (drop k numbers)
    ≡ shown (get_or form i 0) (get_or numbers k 0) ++ filled (drop (i + 1) form) (drop (cond (is_hole (get_or form i 0)) (k + 1) k) numbers)
unfolding filled
fill_more form numbers i k h =
    rw (next_numbers (is_hole (get_or form i 0)) k numbers, add-one i, drop-cons form i 0 h)
    (ap (λ (n : ℕ). shown (get_or form i 0) n ++ filled (drop (suc i) form) (cond (is_hole (get_or form i 0)) (drop 1 (drop k numbers)) (drop k numbers)))
    (get_or-drop k numbers 0 0 ∙ ap (λ (j : ℕ). get_or numbers j 0) (add-zero k)))

pub fill_over : (form numbers : List ℕ) (i : ℕ) → length form ≤ i → filled (drop i form) numbers ≡ []
unfolding filled
fill_over form numbers i h = rw (drop_of_length-le form {i = i} h)

-- The same on a page.
pub fill_step : (p : Page) (form numbers : List ℕ) (i k : ℕ) → i < length form
    → with_text (with_text p (shown (get_or form i 0) (get_or numbers k 0))) (filled (drop (i + 1) form) (drop (cond (is_hole (get_or form i 0)) (k + 1) k) numbers))
    ≡ with_text p (filled (drop i form) (drop k numbers))
unfolding filled
fill_step p form numbers i k h =
    rw (next_numbers (is_hole (get_or form i 0)) k numbers, add-one i, drop-cons form i 0 h)
    (sym (text_append p (shown (get_or form i 0) (get_or numbers k 0)) _)
    ∙ ap (λ (n : ℕ). with_text p (shown (get_or form i 0) n ++ filled (drop (suc i) form) (cond (is_hole (get_or form i 0)) (drop 1 (drop k numbers)) (drop k numbers)))) (sym (get_or-drop k numbers 0 0 ∙ ap (λ (j : ℕ). get_or numbers j 0) (add-zero k))))

pub fill_end : (p : Page) (form numbers : List ℕ) (i : ℕ) → length form ≤ i → p ≡ with_text p (filled (drop i form) numbers)
unfolding filled
fill_end p form numbers i h = rw (drop_of_length-le form {i = i} h) (sym (text_none p))

-- The numbers from an index on, of a list that is n long.
pub from_on : (n first : ℕ) (l : List ℕ) → length l ≡ n → take (length l - min first n) (drop (min first n) l) ≡ drop first l
from_on n first l e = take_all (length l - min first n) (drop (min first n) l) (simp length-drop (omega arith)) ∙ go (leb first n) refl
  where
    go : (t : Bool) → leb first n ≡ t → drop (min first n) l ≡ drop first l
    go true h =
        let p = leb-true first n h in
        let q : min first n ≡ first = omega arith in
        rw q
    go false h =
        let p = leb-false first n h in
        drop_of_length-le l {i = min first n} (omega arith) ∙ sym (drop_of_length-le l {i = first} (omega arith))
