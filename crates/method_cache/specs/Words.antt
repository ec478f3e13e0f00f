-- The blocks held as seventeen words: how many there are, then their bases, and behind them 0.
use Rattle.std.specs.Prelude.{ℕ, suc, ◌+◌, ◌/◌, Bool, cond, ◌&&◌, List, [], ◌∷◌, ◌++◌, ◌≡◌, eqb, ltb, length, get_or, take, drop, replicate}
use Rattle.method_cache.specs.declared.Method.{Method}
use Rattle.method_cache.specs.declared.Looked.{Looked}
use Rattle.method_cache.specs.MethodCache.{size_at, is_held, looked}

-- What words say. A count of more than 16 says 16.
unfoldable pub held_in : List ℕ → List ℕ
held_in w = take (get_or w 0 0) (drop 1 w)

-- The words of a list of blocks. Other words say the same, since nothing counts behind the blocks.
unfoldable pub held_words : List ℕ → List ℕ
held_words held = length held ∷ take 16 (held ++ replicate 16 0)

-- Words that are those of what they say.
abbrev pub FixedHeld : List ℕ → Type 0
FixedHeld w = held_words (held_in w) ≡ w

-- The blocks from a place on, and one more if there is one; and the word of a place in them, of the words before.
abbrev pub kept_from : ℕ → Bool → ℕ → List ℕ → List ℕ
kept_from from more base held = drop from held ++ cond more (base ∷ []) []

abbrev pub place_word : List ℕ → ℕ → ℕ → Bool → ℕ → ℕ → ℕ
place_word w from stay more base at = cond (ltb at stay) (get_or w (suc (from + at)) 0) (cond (more && eqb at stay) base 0)

-- The words after a lookup, which are the same where the block is held, and after a sequence of them; and what one counts.
unfoldable pub looked_words : Method → List ℕ → List ℕ → ℕ → List ℕ
looked_words c code w base = cond (is_held base (held_in w)) w (held_words (looked c code (held_in w) base))

unfoldable pub words_after : Method → List ℕ → List ℕ → List ℕ → List ℕ
words_after c code w [] = w
words_after c code w (b ∷ bs) = words_after c code (looked_words c code w b) bs

unfoldable pub looked_count : List ℕ → List ℕ → ℕ → Looked
looked_count code held base = record { misses = cond (is_held base held) 0 1; fetched = cond (is_held base held) 0 (size_at code base / 4) }
