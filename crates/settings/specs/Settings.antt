-- "What the core has": the limits of the settings.
use Rattle.std.specs.Prelude.{ℕ, Bool, ◌&&◌, leb}
use Rattle.word.specs.Word.{is_multiple_of4}
use Rattle.stack_cache.specs.Stack.{is_cache_size}
use Rattle.method_cache.specs.MethodCache.{capacity_ok}
use Rattle.settings.specs.declared.Settings.{Settings}

-- The greatest length of code and of each memory.
abbrev pub greatest_length : ℕ
greatest_length = 65536

-- Code of 4 to 65,536 bytes, a multiple of 4.
abbrev pub code_length_ok : ℕ → Bool
code_length_ok n = (leb 4 n && leb n greatest_length) && is_multiple_of4 n

-- The stack area is a part of main memory from lo to hi, both multiples of 4.
abbrev pub area_ok : ℕ → ℕ → ℕ → Bool
area_ok main lo hi = (is_multiple_of4 lo && is_multiple_of4 hi) && (leb lo hi && leb hi main)

-- Settings inside the limits: where this is false, refusal 1.
unfoldable pub admits : Settings → Bool
admits s =
    ((code_length_ok s.code && (leb s.main greatest_length && leb s.local greatest_length))
    && (is_cache_size s.words && area_ok s.main s.lo s.hi))
    && capacity_ok s.method
