-- What the length of the longest record tells: whether there is such a cache, and whether there is room.
use Rattle.std.specs.Prelude.{ℕ, ◌%◌, ◌<◌, ◌≤◌, Bool, ◌&&◌, List, ◌≡◌, eqb, length}
use Rattle.std.proofs.Math.Bool.{true, false, cond}
use Rattle.std.proofs.Math.Path.{refl}
use Rattle.std.proofs.Common.{arith}
use borrow.Author.Tests.{leb-true, lt-leb}
use Rattle.std.proofs.Math.Dec.{leb}
use Rattle.word.specs.BoolLaws.{and_left, and_right}
use Rattle.stack_cache.specs.Stack.{is_cache_size}
use Rattle.record_model.specs.Record.{Box, longest}
use Rattle.record.specs.Written.{longest_of, written_of, writing}

module _ (w : ℕ) where
  pub size_none : longest_of w ≡ 0 → is_cache_size w ≡ false
  unfolding longest_of
  size_none e = go (is_cache_size w) refl e
    where
      go : (t : Bool) → is_cache_size w ≡ t → cond t (longest w) 0 ≡ 0 → is_cache_size w ≡ false
      go true f h = absurd (omega (arith, h))
      go false f h = f

  pub size_some : (longest_of w ≡ 0 → ⊥) → is_cache_size w ≡ true
  unfolding longest_of
  size_some n = go (is_cache_size w) refl n
    where
      go : (t : Bool) → is_cache_size w ≡ t → (cond t (longest w) 0 ≡ 0 → ⊥) → is_cache_size w ≡ true
      go true f h = f
      go false f h = absurd (h refl)

  pub size_longest : is_cache_size w ≡ true → longest_of w ≡ longest w
  unfolding longest_of
  size_longest e = rw e

  pub size_small : is_cache_size w ≡ true → w ≤ 512
  unfolding is_cache_size
  size_small e = leb-true w 512 (and_right (leb 4 w) (leb w 512) (and_left (leb 4 w && leb w 512) (eqb (512 % w) 0) e))

-- Where nothing is written.
module _ (p : Box) (out : List ℕ) where
  pub no_cache : is_cache_size (length p.cache) ≡ false → written_of 0 out ≡ writing p out
  unfolding writing
  no_cache e = rw e

  pub no_room : is_cache_size (length p.cache) ≡ true → length out < longest (length p.cache) → written_of 0 out ≡ writing p out
  unfolding writing
  no_room e h = rw (e, lt-leb (longest (length p.cache)) (length out) h)
