-- Laws of the entries of a list's line, one at a time.
use Rattle.std.specs.Prelude.{ℕ, zero, suc, ◌-◌, ◌<◌, ◌≤◌, ◌≡◌, refl, List}
use Rattle.std.proofs.Common.{sub-one, arith}
use Rattle.case_notes.specs.declared.Listed.{Listed}
use Rattle.case_notes.specs.Description.{fine}
use Rattle.case_notes.specs.Lists.{entry_of, take_entry, take_from}

pub take_none : (l : Listed) (n : ℕ) (line : List ℕ) (at : ℕ) (kept : List ℕ) → n ≤ 0 → take_from l n line at kept ≡ fine kept
unfolding take_from
take_none l zero line at kept h = refl
take_none l (suc n) line at kept h = absurd (omega arith)

pub take_some : (l : Listed) (n : ℕ) (line : List ℕ) (at : ℕ) (kept : List ℕ) → 0 < n
    → take_from l n line at kept ≡ take_entry l (entry_of l line at) kept (take_from l (n - 1) line)
unfolding take_from
take_some l zero line at kept h = absurd (omega arith)
take_some l (suc n) line at kept h = rw sub-one
