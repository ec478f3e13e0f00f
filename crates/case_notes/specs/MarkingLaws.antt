-- Laws of the items of a private line, one entry at a time.
use Rattle.std.specs.Prelude.{ℕ, zero, suc, ◌-◌, ◌<◌, ◌≤◌, ◌≡◌, refl, List}
use Rattle.std.proofs.Common.{sub-one, arith}
use Rattle.case_file.specs.Arguments.{private_entry}
use Rattle.case_notes.specs.Description.{fine}
use Rattle.case_notes.specs.Marking.{mark_entry, mark_from}

pub mark_none : (n : ℕ) (line : List ℕ) (at : ℕ) (kept : List ℕ) → n ≤ 0 → mark_from n line at kept ≡ fine kept
unfolding mark_from
mark_none zero line at kept h = refl
mark_none (suc n) line at kept h = absurd (omega arith)

pub mark_some : (n : ℕ) (line : List ℕ) (at : ℕ) (kept : List ℕ) → 0 < n → mark_from n line at kept ≡ mark_entry (private_entry line at) kept (mark_from (n - 1) line)
unfolding mark_from
mark_some zero line at kept h = absurd (omega arith)
mark_some (suc n) line at kept h = rw sub-one
