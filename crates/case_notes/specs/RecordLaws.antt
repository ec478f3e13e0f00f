-- Laws of laying words, one at a time.
use Rattle.std.specs.Prelude.{ℕ, ◌+◌, ◌*◌, ◌≡◌, refl, List}
use Rattle.std.proofs.Common.{add-one}
use Rattle.big_endian.specs.Bytes.{put_word}
use Rattle.case_kept.specs.Kept.{kept_word}
use Rattle.case_notes.specs.Record.{laid}

pub laid_none : (first : ℕ) (kept bytes : List ℕ) → bytes ≡ laid first 0 kept bytes
unfolding laid
laid_none first kept bytes = refl

pub laid_more : (first i w : ℕ) (kept bytes now : List ℕ) → w ≡ kept_word kept (first + i) → now ≡ laid first i kept bytes → put_word now (4 * i) w ≡ laid first (i + 1) kept bytes
unfolding laid
laid_more first i w kept bytes now q e = rw (e, q, add-one i)
