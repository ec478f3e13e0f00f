-- The record of a case as bytes, and how words and lengths of what is handed in are told.
use Rattle.std.specs.Prelude.{ℕ, zero, suc, ◌+◌, ◌*◌, min, cond, List}
use Rattle.big_endian.specs.Bytes.{put_word}
use Rattle.case_kept.specs.Indices.{RECORD, RECORD_BYTES}
use Rattle.case_kept.specs.Kept.{kept_number, kept_word}
use Rattle.case_notes.specs.Description.{is_given}
use Rattle.case_notes.specs.Lists.{MOST_WORDS}

-- How many entries the list at an index has.
abbrev pub entries : List ℕ → ℕ → ℕ → ℕ
entries kept first most = min (kept_number kept first) most

abbrev pub record_words : List ℕ → ℕ
record_words kept = entries kept RECORD MOST_WORDS

-- How many bytes are handed in: so many as a line says, or as there are otherwise.
unfoldable pub handed_in : List ℕ → ℕ → ℕ → ℕ → ℕ
handed_in kept index most others = cond (is_given kept index) (min (kept_word kept index) most) others

-- Of the record so many as a line says, or 4 for each word.
abbrev pub record_length : List ℕ → ℕ
record_length kept = handed_in kept RECORD_BYTES 8192 (4 * record_words kept)

-- The n words from an index on, put one after the other at the front of bytes. What stands behind them fills it up.
unfoldable pub laid : ℕ → ℕ → List ℕ → List ℕ → List ℕ
laid first zero kept bytes = bytes
laid first (suc n) kept bytes = put_word (laid first n kept bytes) (4 * n) (kept_word kept (first + n))
