-- Whole parts of the buffers. A memory has its copy behind it, and so has the stack cache.
use Rattle.std.specs.Prelude.{ℕ, zero, suc, ◌+◌, min, cond, List, get_or, set, ltb}

abbrev pub COPY : ℕ
COPY = 65536

abbrev pub CACHE_COPY : ℕ
CACHE_COPY = 513

-- Numbers set one after the other from an index on: what a rule gives for 0, 1, .. up to n.
unfoldable pub set_each : ℕ → ℕ → (ℕ → ℕ) → List ℕ → List ℕ
set_each first zero f l = l
set_each first (suc n) f l = set (set_each first n f l) (first + n) (f n)

-- The first n bytes of a memory made zero.
abbrev pub cleared_memory : List ℕ → ℕ → List ℕ
cleared_memory memory n = set_each 0 (min n COPY) (λ i. 0) memory

abbrev pub cleared_cache_copy : List ℕ → List ℕ
cleared_cache_copy cache = set_each CACHE_COPY CACHE_COPY (λ i. 0) cache

-- The first n bytes of a memory copied behind it.
abbrev pub copied_memory : List ℕ → ℕ → List ℕ
copied_memory memory n = set_each COPY (min n COPY) (λ i. get_or memory i 0) memory

-- The first n words of the cache copied behind it.
abbrev pub copied_cache : List ℕ → ℕ → List ℕ
copied_cache cache n = set_each CACHE_COPY (min n CACHE_COPY) (λ i. get_or cache i 0) cache

-- The first n words of the cache taken from its copy.
abbrev pub filled_cache : List ℕ → ℕ → List ℕ
filled_cache cache n = set_each 0 (min n CACHE_COPY) (λ i. get_or cache (CACHE_COPY + i) 0) cache

-- A word that a case puts into the stack cache: it stands in the cache's copy until the case is opened, if there is room for it.
abbrev pub put_in_copy : List ℕ → ℕ → ℕ → List ℕ
put_in_copy cache place w = cond (ltb place CACHE_COPY) (set cache (CACHE_COPY + place) w) cache
