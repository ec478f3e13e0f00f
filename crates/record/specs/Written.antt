-- A record written over the beginning of a lent buffer.
use Rattle.std.specs.Prelude.{ℕ, ◌+◌, ◌*◌, cond, ◌&&◌, List, ◌≡◌, leb, length}
use Rattle.stack_cache.specs.Stack.{is_cache_size}
use Rattle.sections.specs.Words.{over, put_words}
use Rattle.sections.specs.Sections.{joined}
use Rattle.record_model.specs.Record.{Box, record_of, longest}

-- The longest record's length where W is a cache size, and else 0.
unfoldable pub longest_of : ℕ → ℕ
longest_of w = cond (is_cache_size w) (longest w) 0

-- How many bytes were written, and the buffer then.
pub record Written : Type 0 where
  pub length : ℕ
  pub out : List ℕ

abbrev pub written_of : ℕ → List ℕ → Written
written_of n out = record { length = n; out = out }

-- A box's record is written where its W is a cache size and the buffer has room for the longest one with that W; else the buffer is left as
-- it was.
unfoldable pub writing : Box → List ℕ → Written
writing p out =
    cond (is_cache_size (length p.cache) && leb (longest (length p.cache)) (length out))
    (written_of (length (record_of p)) (over out (record_of p)))
    (written_of 0 out)

-- In contracts of the parts: sections put from an address on, up to the address behind them.
pub record Put (before after : List ℕ) (at end : ℕ) (ws : List (List ℕ)) : Type 0 where
  pub bytes : after ≡ put_words before at (joined ws)
  pub there : end ≡ at + 4 * length (joined ws)
