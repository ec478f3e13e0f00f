-- Laws of the entries of a code line, one at a time.
use Rattle.std.specs.Prelude.{ℕ, zero, suc, ◌-◌, ◌<◌, ◌≤◌, ◌≡◌, refl, Ok, List}
use Rattle.std.proofs.Common.{sub-one, arith}
use Rattle.case_file.specs.Arguments.{code_entry}
use Rattle.case_notes.specs.DescriptionLine.{filled, append_entry, append_from}

pub append_none : (n : ℕ) (line : List ℕ) (at : ℕ) (kept code : List ℕ) → n ≤ 0 → append_from n line at kept code ≡ filled (Ok tt) kept code
unfolding append_from
append_none zero line at kept code h = refl
append_none (suc n) line at kept code h = absurd (omega arith)

pub append_some : (n : ℕ) (line : List ℕ) (at : ℕ) (kept code : List ℕ) → 0 < n → append_from n line at kept code ≡ append_entry (code_entry line at) kept code (append_from (n - 1) line)
unfolding append_from
append_some zero line at kept code h = absurd (omega arith)
append_some (suc n) line at kept code h = rw sub-one
