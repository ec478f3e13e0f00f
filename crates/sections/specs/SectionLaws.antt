-- Laws of sections: what is joined is cut again into the same, and what can be cut is its own sections joined. One argument serves all
-- sections, whatever they hold.
use Rattle.std.specs.Prelude.{ℕ, zero, suc, ◌+◌, ◌^◌, ◌<◌, Bool, true, false, List, [], ◌∷◌, ◌++◌, ◌≡◌, refl, leb, ltb, length, get_or, take, drop}
use Rattle.std.proofs.lemmas.Bool.{false≢true}
use Rattle.std.proofs.Common.{append_assoc, sym, ap, ◌∙◌, arith, leb-true, le-leb, ltb-true, ltb-false, length-append, length-take, take-append-drop, length-take-le, get_or-take, get_or-drop}
use Rattle.std.proofs.Math.ListN.{get_or-eq_default}
use Rattle.std.proofs.Math.Seq.{take-append_seam, drop-append_seam}
use Rattle.word.specs.BoolLaws.{and_left, and_right}
use Rattle.sections.specs.Words.{AreWords}
use Rattle.sections.specs.Sections.{section, joined, is_cut, behind, words_of_first, section_at}

-- Behind a section more.
pub behind_none : (k : ℕ) → behind k [] ≡ []
unfolding behind
behind_none zero = refl
behind_none (suc k) = refl

behind_suc : (k : ℕ) (l : List ℕ) → behind (suc k) l ≡ behind 1 (behind k l)
unfolding behind
behind_suc zero [] = refl
behind_suc zero (n ∷ l) = refl
behind_suc (suc k) [] = refl
behind_suc (suc k) (n ∷ l) = behind_suc k (drop n l)

-- The k sections from a place on. What is cut into sections is these, joined.
unfoldable pub sections_from : ℕ → ℕ → List ℕ → List (List ℕ)
sections_from at zero l = []
sections_from at (suc k) l = section_at at l ∷ sections_from (suc at) k l

cut_joined : (at k : ℕ) (l m : List ℕ) → behind at l ≡ m → is_cut k m ≡ true → joined (sections_from at k l) ≡ m
unfolding joined is_cut sections_from section_at behind
cut_joined at zero l [] e c = refl
cut_joined at zero l (n ∷ m) e c = absurd (false≢true c)
cut_joined at (suc k) l [] e c = absurd (false≢true c)
cut_joined at (suc k) l (n ∷ m) e c =
    let fits = leb-true n (length m) (and_left (leb n (length m)) (is_cut k (drop n m)) c) in
    let rest = cut_joined (suc at) k l (drop n m) (behind_suc at l ∙ ap (behind 1) e) (and_right (leb n (length m)) (is_cut k (drop n m)) c) in
    ap (λ (b : List ℕ). section (words_of_first b) ++ joined (sections_from (suc at) k l)) e
    ∙ (λ i. length-take-le n m fits i ∷ (take n m ++ rest i))
    ∙ ap (λ (t : List ℕ). n ∷ t) (take-append-drop n m)

pub joined_again : (k : ℕ) (l : List ℕ) → is_cut k l ≡ true → joined (sections_from 0 k l) ≡ l
unfolding behind
joined_again k l c = cut_joined 0 k l l refl c

-- What is joined can be cut, and has its sections at their places.
pub joined_cut : (ws : List (List ℕ)) → is_cut (length ws) (joined ws) ≡ true
unfolding joined is_cut behind
joined_cut [] = refl
joined_cut (w ∷ ws) =
    rw (le-leb (length w) (length (w ++ joined ws)) (omega (arith, length-append w (joined ws))), drop-append_seam w (joined ws)) (joined_cut ws)

pub joined_at : (ws : List (List ℕ)) (k : ℕ) → section_at k (joined ws) ≡ get_or ws k []
unfolding joined behind section_at
joined_at [] k = ap words_of_first (behind_none k)
joined_at (w ∷ ws) zero = take-append_seam w (joined ws)
joined_at (w ∷ ws) (suc k) = ap (λ (l : List ℕ). words_of_first (behind k l)) (drop-append_seam w (joined ws)) ∙ joined_at ws k

-- Of words every section has words.
words_dropped : (n : ℕ) (l : List ℕ) → AreWords l → AreWords (drop n l)
words_dropped n l h i = rw (get_or-drop n l i 0) (h (n + i))

words_taken : (n : ℕ) (l : List ℕ) → AreWords l → AreWords (take n l)
words_taken n l h i = go (ltb i n) refl
  where
    go : (t : Bool) → ltb i n ≡ t → get_or (take n l) i 0 < 2 ^ 32
    go true e = rw (get_or-take n l i 0 (ltb-true i n e)) (h i)
    go false e = rw (get_or-eq_default (take n l) 0 {n = i} (omega (arith, length-take n l, ltb-false i n e))) (omega arith)

pub section_words : (k : ℕ) (l : List ℕ) → AreWords l → AreWords (section_at k l)
unfolding behind section_at
section_words zero [] h = h
section_words zero (n ∷ l) h = words_taken n l (λ i. h (suc i))
section_words (suc k) [] h = h
section_words (suc k) (n ∷ l) h = section_words k (drop n l) (words_dropped n l (λ i. h (suc i)))

-- Sections joined in two goes.
pub joined_append : (xs ys : List (List ℕ)) → joined (xs ++ ys) ≡ joined xs ++ joined ys
unfolding joined
joined_append [] ys = refl
joined_append (x ∷ xs) ys = ap (λ (l : List ℕ). section x ++ l) (joined_append xs ys) ∙ sym (append_assoc (section x) (joined xs) (joined ys))
