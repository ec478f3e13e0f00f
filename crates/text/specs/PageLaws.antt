-- Laws of a page: what it holds where a text fits and where nothing does, and texts put one after the other.
use Rattle.std.specs.Prelude.{ℕ, suc, ◌+◌, ◌≤◌, ◌<◌, ◌≡◌, refl, List, [], ◌∷◌, ◌++◌, length, take, drop, get_or, set}
use Rattle.std.proofs.Common.{sym, ap, ◌∙◌, append_assoc, add-one, arith, add-zero, length-set, drop_of_length-le, take-append-drop, drop-cons, take-suc-set, drop-set-lt, lt-ltb, le-ltb}
use Rattle.std.proofs.Math.Seq.{take-suc}
use Rattle.text.specs.declared.page.Page.{Page as Lent}
use Rattle.text.specs.Page.{Page, page, with_byte, with_text, shown, Puts}

-- A text that fits stands behind what was used, and the rest of the buffer is as it was.
pub text_fits : (used : ℕ) (bytes s : List ℕ) → used + length s ≤ length bytes
    → with_text (page used bytes) s ≡ page (used + length s) (take used bytes ++ (s ++ drop (used + length s) bytes))
unfolding with_text
text_fits used bytes [] h =
    ap (λ (l : List ℕ). page used l) (sym (take-append-drop used bytes)) ∙ ap (λ (k : ℕ). page k (take used bytes ++ drop k bytes)) (sym (add-zero used))
text_fits used bytes (b ∷ s) h =
    let n : used + 1 + length s ≡ used + suc (length s) = omega arith in
    rw (lt-ltb used (length bytes) (omega arith)) (text_fits (used + 1) (set bytes used b) s (rw length-set (omega arith)) ∙ moved n)
  where
    moved : used + 1 + length s ≡ used + suc (length s)
        → page (used + 1 + length s) (take (used + 1) (set bytes used b) ++ (s ++ drop (used + 1 + length s) (set bytes used b)))
        ≡ page (used + suc (length s)) (take used bytes ++ (b ∷ (s ++ drop (used + suc (length s)) bytes)))
    moved n =
        rw (n, drop-set-lt (used + suc (length s)) bytes used b (omega arith), add-one used, take-suc-set bytes used b (omega arith), append_assoc)

-- Into a full buffer nothing is put.
pub text_full : (used : ℕ) (bytes s : List ℕ) → length bytes ≤ used → with_text (page used bytes) s ≡ page used bytes
unfolding with_text
text_full used bytes [] h = refl
text_full used bytes (b ∷ s) h = rw (le-ltb used (length bytes) h) (text_full used bytes s h)

pub text_append : (p : Page) (s t : List ℕ) → with_text p (s ++ t) ≡ with_text (with_text p s) t
unfolding with_text
text_append p [] t = refl
text_append p (b ∷ s) t = text_append (with_byte p b) s t

-- Two texts put one after the other are put as one.
pub text_then : (p q r : Page) (s t : List ℕ) → q ≡ with_text p s → r ≡ with_text q t → r ≡ with_text p (s ++ t)
text_then p q r s t e f = f ∙ ap (λ (x : Page). with_text x t) e ∙ sym (text_append p s t)

pub text_both : (p : Page) (s t : List ℕ) → with_text (with_text p s) t ≡ with_text p (s ++ t)
text_both p s t = sym (text_append p s t)

pub text_none : (p : Page) → with_text p [] ≡ p
unfolding with_text
text_none p = refl

pub text_byte : (p : Page) (b : ℕ) → with_text p (b ∷ []) ≡ with_byte p b
unfolding with_text
text_byte p b = refl

pub text_step : (p : Page) (s : List ℕ) (i : ℕ) → i < length s → with_text (with_byte p (get_or s i 0)) (drop (i + 1) s) ≡ with_text p (drop i s)
unfolding with_text
text_step p s i h = rw (drop-cons s i 0 h, add-one i)

pub text_end : (p : Page) (s : List ℕ) (i : ℕ) → length s ≤ i → p ≡ with_text p (drop i s)
unfolding with_text
text_end p s i h = rw (drop_of_length-le s {i = i} h)

-- What a proof that texts were put on a page one after the other wants: `#[tactic(auto, using(text::specs::PageLaws::texts))]`.
pub ruleset texts = (text_both, text_none)

-- The same of a lent page.
pub puts_none : (p : Lent) → Puts p p []
unfolding with_text
puts_none p = record { same = refl; put = refl }

pub puts_then : (p q r : Lent) (s t : List ℕ) → Puts p q s → Puts q r t → Puts p r (s ++ t)
puts_then p q r s t h k = record { same = k.same ∙ h.same; put = text_then (shown p) (shown q) (shown r) s t h.put k.put }

-- The next byte of a text is put.
pub puts_step : (p q r : Lent) (s : List ℕ) (i : ℕ) → i < length s → Puts p q (take i s) → Puts q r (get_or s i 0 ∷ []) → Puts p r (take (i + 1) s)
puts_step p q r s i h k l = rw (add-one i, take-suc s i 0 h) (puts_then p q r (take i s) (get_or s i 0 ∷ []) k l)

-- What is left to put on a page, of a text that was to be put on it before.
pub record Leaves (before now : Lent) (rest text : List ℕ) : Type 0 where
  pub same : now.out.ghost_name ≡ before.out.ghost_name
  pub left : with_text (shown now) rest ≡ with_text (shown before) text

pub leaves_less : (p q r : Lent) (whole s t rest : List ℕ) → Leaves p q t whole → t ≡ s ++ rest → Puts q r s → Leaves p r rest whole
leaves_less p q r whole s t rest h e k = record {
  same = k.same ∙ h.same;
  left = ap (λ (x : Page). with_text x rest) k.put ∙ sym (text_append (shown q) s rest) ∙ ap (with_text (shown q)) (sym e) ∙ h.left;
}

pub leaves_equal : (p q : Lent) (whole t rest : List ℕ) → Leaves p q t whole → t ≡ rest → Leaves p q rest whole
leaves_equal p q whole t rest h e = rw (← e) h

pub leaves_none : (p q : Lent) (whole t : List ℕ) → Leaves p q t whole → t ≡ [] → Puts p q whole
leaves_none p q whole t h e = record { same = h.same; put = sym (text_none (shown q)) ∙ ap (with_text (shown q)) (sym e) ∙ h.left }
