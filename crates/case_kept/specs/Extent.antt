-- How much of the buffers a case has.
use Rattle.std.specs.Prelude.{ℕ, min, List}
use Rattle.case_kept.specs.declared.extent.Extents.{Extents}
use Rattle.case_kept.specs.Indices.{CODE, MAIN, LOCAL, WORDS, LO, HI}
use Rattle.case_kept.specs.Kept.{kept_word}
use Rattle.case_kept.specs.Clearing.{COPY, CACHE_COPY}

-- The bytes of the code or of a memory.
abbrev pub kept_bytes : List ℕ → ℕ → ℕ
kept_bytes kept index = min (kept_word kept index) COPY

-- More than 512 words of stack cache are refused, whatever their number, so 513 stand for all of these.
abbrev pub cache_words : List ℕ → ℕ
cache_words kept = min (kept_word kept WORDS) CACHE_COPY

abbrev pub extents_of : List ℕ → Extents
extents_of kept = record {
  code = kept_bytes kept CODE;
  main = kept_bytes kept MAIN;
  local = kept_bytes kept LOCAL;
  words = cache_words kept;
  lo = kept_word kept LO;
  hi = kept_word kept HI;
}
