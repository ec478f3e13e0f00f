-- Laws of the lines on what changed, one text at a time.
use Rattle.std.specs.Prelude.{ℕ, suc, ◌+◌, ◌*◌, ◌-◌, ◌≤◌, ◌<◌, min, ◌≡◌, Bool, true, false, ◌&&◌, length, take, drop, get_or, leb, eqb}
use Prim.Native.Char.{code}
use Rattle.std.proofs.Math.Path.{refl, ap}
use Rattle.std.proofs.Common.{sym, ◌∙◌, add-one, arith, length-drop, drop_of_length-le, drop-cons, take_all, leb-true, leb-false}
use mathlib.Core.List.{List, [], ◌∷◌, ◌++◌}
use Rattle.text.specs.declared.page.Page.{Page as Lent}
use Rattle.text.specs.Page.{Page, with_byte, with_text, Puts}
use Rattle.text.specs.PageLaws.{text_append, text_then, text_none, text_byte, puts_none, puts_then}
use Rattle.text.specs.Field.{same_bytes}
use Rattle.text.specs.Number.{decimal_text, byte_text}
use Rattle.case_report.specs.Changes.{texts, byte_texts, word, change_line, change_at}

pub texts_none : (p : Page) (f : ℕ → List ℕ) → p ≡ with_text p (texts 0 f)
unfolding texts
texts_none p f = sym (text_none p)

-- One text more, behind those that are there.
pub texts_more : (p q r : Page) (f : ℕ → List ℕ) (k : ℕ) → q ≡ with_text p (texts k f) → r ≡ with_text q (f k) → r ≡ with_text p (texts (k + 1) f)
unfolding texts
texts_more p q r f k e g = rw add-one (text_then _ _ _ (texts k f) (f k) e g)

pub bytes_step : (p : Page) (s : List ℕ) (i : ℕ) → i < length s → with_text (with_text p (byte_text (get_or s i 0))) (byte_texts (drop (i + 1) s)) ≡ with_text p (byte_texts (drop i s))
unfolding byte_texts
bytes_step p s i h = rw (drop-cons s i 0 h, add-one i) (sym (text_append p (byte_text (get_or s i 0)) (byte_texts (drop (suc i) s))))

pub bytes_end : (p : Page) (s : List ℕ) (i : ℕ) → length s ≤ i → p ≡ with_text p (byte_texts (drop i s))
unfolding byte_texts
bytes_end p s i h = rw (drop_of_length-le s {i = i} h) (sym (text_none p))

-- The same as texts, and on a lent page.
pub bytes_more : (s : List ℕ) (i : ℕ) → i < length s → byte_texts (drop i s) ≡ byte_text (get_or s i 0) ++ byte_texts (drop (i + 1) s)
unfolding byte_texts
bytes_more s i h = rw (drop-cons s i 0 h, add-one i)

pub bytes_over : (s : List ℕ) (i : ℕ) → length s ≤ i → byte_texts (drop i s) ≡ []
unfolding byte_texts
bytes_over s i h = rw (drop_of_length-le s {i = i} h)

pub puts_no_texts : (p : Lent) (f : ℕ → List ℕ) → Puts p p (texts 0 f)
unfolding texts
puts_no_texts p f = puts_none p

pub puts_texts : (p q r : Lent) (f : ℕ → List ℕ) (k : ℕ) → Puts p q (texts k f) → Puts q r (f k) → Puts p r (texts (k + 1) f)
unfolding texts
puts_texts p q r f k g h = rw add-one (puts_then p q r (texts k f) (f k) g h)

-- The part of a memory that word k is.
pub word_part : (n k e : ℕ) (l : List ℕ) → length l ≡ n → 4 * k ≤ n → e ≡ 4 * k + min 4 (n - 4 * k) → take (e - 4 * k) (drop (4 * k) l) ≡ word l k
word_part n k e l q h g = go (leb 4 (n - 4 * k)) refl
  where
    go : (t : Bool) → leb 4 (n - 4 * k) ≡ t → take (e - 4 * k) (drop (4 * k) l) ≡ take 4 (drop (4 * k) l)
    go true t =
        let p = leb-true 4 (n - 4 * k) t in
        let r : e - 4 * k ≡ 4 = omega arith in
        rw r
    go false t =
        let p = leb-false 4 (n - 4 * k) t in
        take_all (e - 4 * k) (drop (4 * k) l) (simp length-drop (omega arith)) ∙ sym (take_all 4 (drop (4 * k) l) (simp length-drop (omega arith)))

-- The parts of a changed word's line, put one after the other.
pub line_parts : (p q r s t u : Page) (label : List ℕ) (address : ℕ) (w : List ℕ) → q ≡ with_text p label → r ≡ with_text q (decimal_text address) → s ≡ with_byte r (code " ")
    → t ≡ with_text s (byte_texts w) → u ≡ with_byte t (code "\n") → u ≡ with_text p (change_line label address w)
unfolding change_line
line_parts p q r s t u label address w a b c d e =
    text_then p q u label _ a (text_then q r u (decimal_text address) _ b
    (text_then r s u (code " " ∷ []) _ (c ∙ sym (text_byte r (code " ")))
    (text_then s t u (byte_texts w) (code "\n" ∷ []) d (e ∙ sym (text_byte t (code "\n"))))))

-- A word of 4 bytes, byte by byte.
four : (l : List ℕ) (n : ℕ) → n + 4 ≤ length l → take 4 (drop n l) ≡ get_or l n 0 ∷ get_or l (n + 1) 0 ∷ get_or l (n + 2) 0 ∷ get_or l (n + 3) 0 ∷ []
four l n h =
    let e : n + 1 + 1 ≡ n + 2 = omega arith in
    let f : n + 2 + 1 ≡ n + 3 = omega arith in
    ap (take 4) (at n (omega arith)) ∙ ap (λ (t : List ℕ). get_or l n 0 ∷ take 3 t) (at (n + 1) (omega arith))
    ∙ ap (λ (m : ℕ). get_or l n 0 ∷ get_or l (n + 1) 0 ∷ take 2 (drop m l)) e ∙ ap (λ (t : List ℕ). get_or l n 0 ∷ get_or l (n + 1) 0 ∷ take 2 t) (at (n + 2) (omega arith))
    ∙ ap (λ (m : ℕ). get_or l n 0 ∷ get_or l (n + 1) 0 ∷ get_or l (n + 2) 0 ∷ take 1 (drop m l)) f
    ∙ ap (λ (t : List ℕ). get_or l n 0 ∷ get_or l (n + 1) 0 ∷ get_or l (n + 2) 0 ∷ take 1 t) (at (n + 3) (omega arith))
  where
    at : (i : ℕ) → i < length l → drop i l ≡ get_or l i 0 ∷ drop (i + 1) l
    at i g = drop-cons l i 0 g ∙ ap (λ (m : ℕ). get_or l i 0 ∷ drop m l) (sym (add-one i))

grouped : (p q r s : Bool) → ((p && q) && (r && s)) ≡ (p && (q && (r && (s && true))))
grouped false q r s = refl
grouped true false r s = refl
grouped true true false s = refl
grouped true true true false = refl
grouped true true true true = refl

pub same_four : (a b : List ℕ) (n : ℕ) → n + 4 ≤ length a → n + 4 ≤ length b
    → ((eqb (get_or a n 0) (get_or b n 0) && eqb (get_or a (n + 1) 0) (get_or b (n + 1) 0)) && (eqb (get_or a (n + 2) 0) (get_or b (n + 2) 0) && eqb (get_or a (n + 3) 0) (get_or b (n + 3) 0)))
    ≡ same_bytes (take 4 (drop n a)) (take 4 (drop n b))
unfolding same_bytes
same_four a b n h g = rw (four a n h, four b n g)
    (grouped (eqb (get_or a n 0) (get_or b n 0)) (eqb (get_or a (n + 1) 0) (get_or b (n + 1) 0)) (eqb (get_or a (n + 2) 0) (get_or b (n + 2) 0)) (eqb (get_or a (n + 3) 0) (get_or b (n + 3) 0)))

-- What is left of a memory, where that is less than a word.
pub last_word : (l : List ℕ) (n k : ℕ) → length l ≡ n → n - 4 * k < 4 → take (n - 4 * k) (drop (4 * k) l) ≡ word l k
last_word l n k e h = take_all (n - 4 * k) (drop (4 * k) l) (simp length-drop (omega arith)) ∙ sym (take_all 4 (drop (4 * k) l) (simp length-drop (omega arith)))

-- The text of a word that changed.
pub changed_text : (label after before : List ℕ) (k e : ℕ) → same_bytes (word after k) (word before k) ≡ false → 4 * k ≤ length after
    → e ≡ 4 * k + min 4 (length after - 4 * k) → change_at label after before k ≡ change_line label (4 * k) (take (e - 4 * k) (drop (4 * k) after))
unfolding change_at
changed_text label after before k e n h g = rw n (ap (λ (w : List ℕ). change_line label (4 * k) w) (sym (word_part (length after) k e after refl h g)))

module _ (p : Page) (label after before : List ℕ) (k : ℕ) (r : Bool) (told : r ≡ same_bytes (word after k) (word before k)) where
  pub unchanged : r ≡ true → p ≡ with_text p (change_at label after before k)
  unfolding change_at
  unchanged y = rw (← told, y) (sym (text_none p))

  pub changed : (q : Page) (e : ℕ) → r ≡ false → 4 * k ≤ length after → e ≡ 4 * k + min 4 (length after - 4 * k)
      → q ≡ with_text p (change_line label (4 * k) (take (e - 4 * k) (drop (4 * k) after))) → q ≡ with_text p (change_at label after before k)
  unfolding change_at
  changed q e y h g z = rw (← told, y) (z ∙ ap (λ (w : List ℕ). with_text p (change_line label (4 * k) w)) (word_part (length after) k e after refl h g))
