-- Sections: lists of words, each after its count of words, one behind the other.
use Rattle.std.specs.Prelude.{ℕ, zero, suc, ◌+◌, ◌*◌, Bool, true, false, cond, ◌&&◌, Option, Some, None, List, [], ◌∷◌, ◌++◌, leb, length, get_or, take, drop}

abbrev pub section : List ℕ → List ℕ
section ws = length ws ∷ ws

unfoldable pub joined : List (List ℕ) → List ℕ
joined [] = []
joined (ws ∷ others) = section ws ++ joined others

-- What stands behind the first k sections, the words of the section at the beginning, and those of the section at a place, the first at 0.
-- Where there is none it has no words.
unfoldable pub behind : ℕ → List ℕ → List ℕ
behind zero l = l
behind (suc k) [] = []
behind (suc k) (n ∷ l) = behind k (drop n l)

abbrev pub words_of_first : List ℕ → List ℕ
words_of_first [] = []
words_of_first (n ∷ l) = take n l

unfoldable pub section_at : ℕ → List ℕ → List ℕ
section_at k l = words_of_first (behind k l)

-- Whether words are k sections with nothing behind them: no count reaches past the end.
abbrev pub has_first : List ℕ → Bool
has_first [] = false
has_first (n ∷ l) = leb n (length l)

-- Where it ends, in bytes, if it is whole.
abbrev pub first_end : List ℕ → Option ℕ
first_end ws = cond (has_first ws) (Some (4 * (1 + get_or ws 0 0))) None

unfoldable pub is_cut : ℕ → List ℕ → Bool
is_cut zero [] = true
is_cut zero (n ∷ l) = false
is_cut (suc k) l = has_first l && is_cut k (behind 1 l)
