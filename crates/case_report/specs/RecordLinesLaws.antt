-- Laws of the lines on a record, one byte at a time.
use Rattle.std.specs.Prelude.{ℕ, ◌+◌, ◌≡◌, refl, List, get_or}
use Rattle.std.proofs.Common.{add-one}
use Rattle.case_report.specs.RecordLines.{counted_with, filled_to}

pub filled_none : (s : List ℕ) → 0 ≡ filled_to 0 s
unfolding filled_to
filled_none s = refl

pub filled_more : (n r i : ℕ) (s : List ℕ) → n ≡ filled_to i s → r ≡ counted_with n (get_or s i 0) → r ≡ filled_to (i + 1) s
unfolding filled_to
filled_more n r i s e q = rw (add-one i, ← e) q
