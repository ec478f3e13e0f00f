-- The lines of a report on what an operation changed. Behind each memory, and behind the stack cache, stands what it held before.
use Rattle.std.specs.Prelude.{ℕ, zero, suc, ◌+◌, ◌*◌, ◌/◌, min, cond, List, [], ◌∷◌, ◌++◌, length, take, drop, get_or, eqb}
use Prim.Native.Char.{code}
use Rattle.text.specs.Field.{same_bytes}
use Rattle.text.specs.Number.{decimal_text, byte_text}
use Rattle.case_words.specs.Names.{bytes}
use Rattle.case_kept.specs.Clearing.{COPY, CACHE_COPY}
use Rattle.case_kept.specs.declared.extent.Extents.{Extents}
use Rattle.case_report.specs.Form.{filled}

-- Texts one after the other: what a rule gives for 0, 1, .. up to n.
unfoldable pub texts : ℕ → (ℕ → List ℕ) → List ℕ
texts zero f = []
texts (suc n) f = texts n f ++ f n

-- Bytes, two digits each.
unfoldable pub byte_texts : List ℕ → List ℕ
byte_texts [] = []
byte_texts (b ∷ s) = byte_text b ++ byte_texts s

-- The line of a changed word: the name of its memory, its address, and the bytes that it has now.
unfoldable pub change_line : List ℕ → ℕ → List ℕ → List ℕ
change_line label address word = label ++ (decimal_text address ++ (code " " ∷ (byte_texts word ++ (code "\n" ∷ []))))

-- The bytes of word k. The last word of a memory may be shorter, or empty.
abbrev pub word : List ℕ → ℕ → List ℕ
word memory k = take 4 (drop (4 * k) memory)

-- Word k has a line if its bytes changed.
unfoldable pub change_at : List ℕ → List ℕ → List ℕ → ℕ → List ℕ
change_at label after before k =
    cond (same_bytes (word after k) (word before k)) []
    (change_line label (4 * k) (word after k))

unfoldable pub word_changes : List ℕ → List ℕ → List ℕ → List ℕ
word_changes label after before = texts (length after / 4 + 1) (change_at label after before)

-- The changed words of the first n bytes of a memory.
unfoldable pub memory_changes : List ℕ → List ℕ → ℕ → List ℕ
memory_changes label memory n = word_changes label (take (min n COPY) memory) (take (min n COPY) (drop COPY memory))

abbrev pub cache_line : ℕ → ℕ → List ℕ
cache_line k w = filled (bytes "cache % #\n") (k ∷ w ∷ [])

unfoldable pub cache_change : List ℕ → ℕ → List ℕ
cache_change cache k =
    cond (eqb (get_or cache k 0) (get_or cache (CACHE_COPY + k) 0)) []
    (cache_line k (get_or cache k 0))

-- The changed words of the first n stack cache words.
unfoldable pub cache_changes : List ℕ → ℕ → List ℕ
cache_changes cache n = texts (min n CACHE_COPY) (cache_change cache)

-- Main memory, local memory, stack cache.
unfoldable pub changes_text : List ℕ → List ℕ → List ℕ → Extents → List ℕ
changes_text main local cache e =
    memory_changes (bytes "main ") main e.main
    ++ (memory_changes (bytes "local ") local e.local ++ cache_changes cache e.words)
