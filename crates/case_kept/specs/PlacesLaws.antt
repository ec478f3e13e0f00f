-- Laws of the notes, one note at a time.
use Rattle.std.specs.Prelude.{ℕ, zero, suc, ◌+◌, ◌-◌, ◌<◌, ◌≤◌, ◌≡◌, refl, cond, Some, None, List, leb}
use Rattle.std.proofs.Common.{sub-one, arith}
use Rattle.case_kept.specs.Kept.{kept_number}
use Rattle.case_kept.specs.Places.{outside_from}

pub outside_none : (n : ℕ) (kept : List ℕ) (at : ℕ) → n ≤ 0 → outside_from n kept at ≡ None
unfolding outside_from
outside_none zero kept at h = refl
outside_none (suc n) kept at h = absurd (omega arith)

pub outside_some : (n : ℕ) (kept : List ℕ) (at : ℕ) → 0 < n → outside_from n kept at
    ≡ cond (leb (kept_number kept (kept_number kept at)) (kept_number kept (at + 1))) (Some (kept_number kept (at + 2))) (outside_from (n - 1) kept (at + 3))
unfolding outside_from
outside_some zero kept at h = absurd (omega arith)
outside_some (suc n) kept at h = rw sub-one
