-- The closed forms that the code computes: how many words a stack instruction moves, their range, and ss afterwards.
use Rattle.std.specs.Prelude.{ℕ, ◌+◌, ◌-◌, ◌*◌, ◌/◌, ◌%◌, ◌≤◌, min, max, ◌≡◌, Bool, false, ◌&&◌, ◌||◌, eqb, leb}
use Rattle.stack_cache.specs.declared.StackControl.{StackControl}
use Rattle.stack_cache.specs.declared.StackControl.TheVariants.{Sres, Sens, Sfree, Sspill}
use Rattle.stack_cache.specs.Stack.{bad_window, bad_amount}

-- A stack instruction that is not refused with 7.
abbrev pub Accepted : StackControl → ℕ → ℕ → ℕ → ℕ → Type 0
Accepted c w st ss n = bad_window w st ss || bad_amount c w st n ≡ false

-- What a window that is not bad has.
pub record Window (w st ss : ℕ) : Type 0 where
  pub spill_aligned : ss % 4 ≡ 0
  pub top_aligned : st % 4 ≡ 0
  pub ordered : st ≤ ss
  pub fits : ss - st ≤ 4 * w

-- How many words are spilled, and filled.
unfoldable pub spill_count : StackControl → ℕ → ℕ → ℕ → ℕ → ℕ
spill_count Sres w st ss n = (ss - (st - 4 * n) - 4 * w) / 4
spill_count Sens w st ss n = 0
spill_count Sfree w st ss n = 0
spill_count Sspill w st ss n = min n ((ss - st) / 4)

unfoldable pub fill_count : StackControl → ℕ → ℕ → ℕ → ℕ
fill_count Sres st ss n = 0
fill_count Sens st ss n = n - (ss - st) / 4
fill_count Sfree st ss n = 0
fill_count Sspill st ss n = 0

-- Where ss is afterwards.
unfoldable pub ss_after : StackControl → ℕ → ℕ → ℕ → ℕ → ℕ
ss_after Sres w st ss n = ss - 4 * spill_count Sres w st ss n
ss_after Sens w st ss n = ss + 4 * fill_count Sens st ss n
ss_after Sfree w st ss n = max ss (st + 4 * n)
ss_after Sspill w st ss n = ss - 4 * spill_count Sspill w st ss n

-- The k words from address a up lie from lo to hi, judged by the two ends of their range.
abbrev pub inside : ℕ → ℕ → ℕ → ℕ → Bool
inside lo hi a k = eqb k 0 || (leb lo a && leb (a + 4 * k) hi)
