-- Where sections are found in bytes.
use Prim.Native.Nat.{ℕ, zero, suc, ◌+◌, ◌-◌, ◌*◌, ◌/◌, ◌%◌, ◌<◌, ◌≤◌}
use Rattle.std.specs.Prelude.{Bool, true, false, cond, Some, None, ◌&&◌, ◌≡◌, refl, leb, ltb, get_or, take}
use mathlib.Core.List.{List, [], ◌∷◌}
use Rattle.std.proofs.Math.Path.{sym, ap}
use Rattle.std.proofs.lemmas.Bool.{false≢true}
use Rattle.std.proofs.Common.{◌∙◌, ltb-true, ltb-false, leb-true, leb-false, drop_of_length-le, length-take-le, drop-drop}
use native.Mathlib.Omega.{arith}
use Rattle.std.proofs.Math.ListN.{length, drop, length-drop, get_or-eq_default}
use Rattle.std.proofs.Math.Seq.{take_all, drop-length}
use Rattle.big_endian.specs.Bytes.{word_at}
use Rattle.sections.specs.Words.{words_from, words_in}
use Rattle.sections.specs.WordLaws.{words_length, word_at_lem, word_drop, words_drop, words_take}
use Rattle.sections.specs.Sections.{is_cut, behind, has_first, first_end, words_of_first}
use Rattle.sections.specs.SectionLaws.{behind_none}

-- A part of whole words behind the count.
pub whole_part : (l : List ℕ) (k : ℕ) → 1 ≤ k → 4 * k ≤ length l → length (take (4 * k - 4) (drop 4 l)) % 4 ≡ 0
whole_part l k some p = omega (arith, length-take-le (4 * k - 4) (drop 4 l) (omega (arith, length-drop 4 l, p)), some)

-- A part from an address to the end.
pub tail_part : (l : List ℕ) (a : ℕ) → take (length l - a) (drop a l) ≡ drop a l
tail_part l a = take_all (length l - a) (drop a l) (omega (arith, length-drop a l))

pub tail_length : (l : List ℕ) (a : ℕ) → length (take (length l - a) (drop a l)) ≡ length l - a
tail_length l a = ap length (tail_part l a) ∙ length-drop a l

-- The word that a part begins with, and places past the last word.
pub word_found : (l : List ℕ) (i : ℕ) → i < length l / 4 → word_at (take (length l - 4 * i) (drop (4 * i) l)) 0 ≡ get_or (words_in l) i 0
word_found l i p =
    let e : 4 * i + 0 ≡ 4 * i = omega arith in
    ap (λ (m : List ℕ). word_at m 0) (tail_part l (4 * i)) ∙ word_drop (4 * i) l 0 ∙ ap (word_at l) e ∙ sym (word_at_lem l i (omega (arith, words_length l, p)))

pub word_past : (l : List ℕ) (i : ℕ) → length l / 4 ≤ i → 0 ≡ get_or (words_in l) i 0
word_past l i p = sym (get_or-eq_default (words_in l) 0 (omega (arith, words_length l, p)))

-- Fewer than four bytes have no word; other bytes have a first word, and the others behind it.
pub no_word : (l : List ℕ) → length l < 4 → words_in l ≡ []
unfolding words_in words_from
no_word l p = let e : length l / 4 ≡ 0 = omega (arith, p) in ap (λ (k : ℕ). words_from k l) e

pub first_word : (l : List ℕ) → 4 ≤ length l → words_in l ≡ get_or (words_in l) 0 0 ∷ words_in (drop 4 l)
first_word l p = split (words_in l) (omega (arith, words_length l, p)) ∙ ap (λ (m : List ℕ). get_or (words_in l) 0 0 ∷ m) (sym (words_drop 1 l p))
  where
    split : (w : List ℕ) → 1 ≤ length w → w ≡ get_or w 0 0 ∷ drop 1 w
    split [] q = absurd (omega arith)
    split (n ∷ w) q = refl

pub nothing_left : (l : List ℕ) → words_in (drop (length l) l) ≡ []
nothing_left l = ap words_in (drop-length l) ∙ no_word [] (omega arith)

-- The section at the beginning, whose count is n: whether it is whole, its words, and what is behind it.
module _ (l : List ℕ) (few : length l < 4) where
  pub none_first : has_first (words_in l) ≡ false
  none_first = ap has_first (no_word l few)

  pub none_words : (a : ℕ) → words_in (take 0 (drop a l)) ≡ words_of_first (words_in l)
  none_words a = no_word [] (omega arith) ∙ sym (ap words_of_first (no_word l few))

  pub none_behind : words_in (drop (length l) l) ≡ behind 1 (words_in l)
  unfolding behind
  none_behind = ap words_in (drop-length l) ∙ no_word [] (omega arith) ∙ sym (ap (behind 1) (no_word l few))

module _ (l : List ℕ) (n : ℕ) (some : 4 ≤ length l) (count : n ≡ get_or (words_in l) 0 0) where
  rest : List ℕ
  rest = words_in (drop 4 l)

  here : words_in l ≡ n ∷ rest
  unfolding rest
  here = first_word l some ∙ ap (λ (k : ℕ). k ∷ words_in (drop 4 l)) (sym count)

  rest_length : length rest ≡ length l / 4 - 1
  unfolding rest
  rest_length = words_length (drop 4 l) ∙ omega (arith, length-drop 4 l, some)

  pub first_whole : leb n (length l / 4 - 1) ≡ has_first (words_in l)
  first_whole = ap (leb n) (sym rest_length) ∙ sym (ap has_first here)

  -- One that reaches past the end.
  pub past_words : length l / 4 - 1 < n → words_in (take (4 * (length l / 4) - 4) (drop 4 l)) ≡ words_of_first (words_in l)
  unfolding rest
  past_words p =
      let k = length l / 4 - 1 in
      let e : 4 * (length l / 4) - 4 ≡ 4 * k = omega arith in
      ap (λ (j : ℕ). words_in (take j (drop 4 l))) e
      ∙ words_take k (drop 4 l) (omega (arith, length-drop 4 l, some))
      ∙ take_all k rest (omega (arith, rest_length))
      ∙ sym (take_all n rest (omega (arith, rest_length, p)))
      ∙ sym (ap words_of_first here)

  pub past_behind : length l / 4 - 1 < n → words_in (drop (length l) l) ≡ behind 1 (words_in l)
  unfolding rest behind
  past_behind p =
      ap words_in (drop-length l) ∙ no_word [] (omega arith) ∙ sym (drop_of_length-le rest {i = n} (omega (arith, rest_length, p))) ∙ sym (ap (behind 1) here)

  -- A whole one.
  pub whole_words : n ≤ length l / 4 - 1 → words_in (take (4 * (1 + n) - 4) (drop 4 l)) ≡ words_of_first (words_in l)
  unfolding rest
  whole_words p =
      let e : 4 * (1 + n) - 4 ≡ 4 * n = omega arith in
      ap (λ (k : ℕ). words_in (take k (drop 4 l))) e ∙ words_take n (drop 4 l) (omega (arith, length-drop 4 l, p)) ∙ sym (ap words_of_first here)

  pub whole_behind : n ≤ length l / 4 - 1 → words_in (drop (4 * (1 + n)) l) ≡ behind 1 (words_in l)
  unfolding rest behind
  whole_behind p =
      let e : 1 + n ≡ suc n = omega arith in
      words_drop (1 + n) l (omega (arith, p, some)) ∙ ap (λ (k : ℕ). drop k (words_in l)) e ∙ ap (drop (suc n)) here ∙ sym (ap (behind 1) here)

-- What it says that the section at the beginning ends, or that none is whole there.
some_is : (t : Bool) (a e : ℕ) → Some e ≡ cond t (Some a) None → (t ≡ true) × (e ≡ a)
some_is true a e h = (refl, cc)
some_is false a e h = absurd cc

none_is : (t : Bool) (a : ℕ) → None ≡ cond t (Some a) None → t ≡ false
none_is true a h = absurd cc
none_is false a h = refl

module _ (l : List ℕ) where
  fits : has_first (words_in l) ≡ true → (4 ≤ length l) × (get_or (words_in l) 0 0 ≤ length l / 4 - 1)
  fits h = go (ltb (length l) 4) refl
    where
      go : (t : Bool) → ltb (length l) 4 ≡ t → (4 ≤ length l) × (get_or (words_in l) 0 0 ≤ length l / 4 - 1)
      go true e = absurd (false≢true (sym (none_first l (ltb-true (length l) 4 e)) ∙ h))
      go false e =
          let some = ltb-false (length l) 4 e in
          (some, leb-true _ _ (first_whole l (get_or (words_in l) 0 0) some refl ∙ h))

  module _ (e : ℕ) (is : Some e ≡ first_end (words_in l)) where
    end_is : e ≡ 4 * (1 + get_or (words_in l) 0 0)
    end_is = (some_is (has_first (words_in l)) _ e is).1

    pub end_whole : has_first (words_in l) ≡ true
    end_whole = (some_is (has_first (words_in l)) (4 * (1 + get_or (words_in l) 0 0)) e is).0

    pub end_fits : (4 ≤ e) × (e ≤ length l)
    end_fits = (omega (arith, end_is), omega (arith, end_is, (fits end_whole).0, (fits end_whole).1))

    pub end_words : (words_in (take (e - 4) (drop 4 l)) ≡ words_of_first (words_in l)) × (length (take (e - 4) (drop 4 l)) % 4 ≡ 0)
    end_words =
        let n = get_or (words_in l) 0 0 in
        let f = fits end_whole in
        rw end_is (whole_words l n f.0 refl f.1, whole_part l (1 + n) (omega arith) (omega (arith, f.0, f.1)))

    pub end_behind : words_in (drop e l) ≡ behind 1 (words_in l)
    end_behind =
        let f = fits end_whole in
        rw end_is (whole_behind l (get_or (words_in l) 0 0) f.0 refl f.1)

  module _ (is : None ≡ first_end (words_in l)) where
    pub past_whole : has_first (words_in l) ≡ false
    past_whole = none_is (has_first (words_in l)) (4 * (1 + get_or (words_in l) 0 0)) is

    pub past_fits : 4 ≤ length l → length l / 4 - 1 < get_or (words_in l) 0 0
    past_fits some = leb-false _ _ (first_whole l (get_or (words_in l) 0 0) some refl ∙ past_whole)

    pub past_none : words_in (drop (length l) l) ≡ behind 1 (words_in l)
    past_none = go (ltb (length l) 4) refl
      where
        go : (t : Bool) → ltb (length l) 4 ≡ t → words_in (drop (length l) l) ≡ behind 1 (words_in l)
        go true e = none_behind l (ltb-true (length l) 4 e)
        go false e =
            let some = ltb-false (length l) 4 e in
            past_behind l (get_or (words_in l) 0 0) some refl (past_fits some)

-- One section further, from the part that begins at an address.
pub further_on : (l : List ℕ) (at n : ℕ) (part : List ℕ) → part ≡ take (length l - at) (drop at l) → words_in (drop n part) ≡ behind 1 (words_in part)
    → words_in (drop (at + n) l) ≡ behind 1 (words_in (drop at l))
further_on l at n part e h =
    let p = e ∙ tail_part l at in
    ap words_in (sym (drop-drop n at l)) ∙ ap (λ (q : List ℕ). words_in (drop n q)) (sym p) ∙ h ∙ ap (λ (q : List ℕ). behind 1 (words_in q)) p

-- Sections counted up to k, those left counted down, and the last of them.
pub behind_next : (k i : ℕ) (l : List ℕ) → i < k → behind (k - i) l ≡ behind (k - (i + 1)) (behind 1 l)
unfolding behind
behind_next k i l p = let e : k - i ≡ suc (k - (i + 1)) = omega arith in rw e (go (k - (i + 1)) l)
  where
    go : (j : ℕ) (l : List ℕ) → behind (suc j) l ≡ behind j (behind 1 l)
    go j [] = sym (behind_none j)
    go j (n ∷ l) = refl

pub cut_next : (k i : ℕ) (l : List ℕ) → i < k → is_cut (k - i) l ≡ has_first l && is_cut (k - (i + 1)) (behind 1 l)
unfolding is_cut
cut_next k i l p = let e : k - i ≡ suc (k - (i + 1)) = omega arith in rw e refl

pub cut_end : (k : ℕ) (l : List ℕ) → k ≤ 0 → is_cut k (words_in l) ≡ ltb (length l) 4
unfolding is_cut
cut_end zero l p = go (ltb (length l) 4) refl
  where
    go : (t : Bool) → ltb (length l) 4 ≡ t → is_cut zero (words_in l) ≡ t
    go true e = ap (is_cut zero) (no_word l (ltb-true (length l) 4 e))
    go false e = ap (is_cut zero) (first_word l (ltb-false (length l) 4 e))
cut_end (suc k) l p = absurd (omega arith)

pub behind_end : (k : ℕ) (l : List ℕ) → k ≤ 0 → behind k l ≡ l
unfolding behind
behind_end zero l p = refl
behind_end (suc k) l p = absurd (omega arith)

-- Behind sections of which one is not whole there is nothing.
pub past_all : (k i : ℕ) (l : List ℕ) → i < k → None ≡ first_end (words_in l) → behind (k - i) (words_in l) ≡ []
past_all k i l p is =
    behind_next k i (words_in l) p
    ∙ ap (behind (k - (i + 1))) (sym (past_none l is) ∙ nothing_left l)
    ∙ behind_none (k - (i + 1))

pub first_part : (l : List ℕ) (a : ℕ) → first_end (words_in (take (length l - a) (drop a l))) ≡ first_end (words_in (drop a l))
first_part l a = ap (λ (m : List ℕ). first_end (words_in m)) (tail_part l a)
