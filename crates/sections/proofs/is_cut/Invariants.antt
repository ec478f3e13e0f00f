use Rattle.std.proofs.Common.{◌≡◌, ◌≤◌, ◌-◌, length, drop}
use Rattle.sections.specs.Words.{words_in}
use Rattle.sections.specs.Sections.{is_cut}
use Rattle.sections.proofs.is_cut.Given as goal

abbrev pub invariant-loop : goal.invariant-loop
invariant-loop l = (l.at ≤ length l.bytes) × (is_cut (l.k - l.counter) (words_in (drop l.at l.bytes)) ≡ is_cut l.k (words_in l.bytes))
