use Rattle.std.proofs.Common.{◌≡◌, ◌≤◌, ◌-◌, length, drop}
use Rattle.sections.specs.Words.{words_in}
use Rattle.sections.specs.Sections.{behind}
use Rattle.sections.proofs.end_of.Given as goal

abbrev pub invariant-loop : goal.invariant-loop
invariant-loop l = (l.at ≤ length l.bytes) × (behind (l.k - l.counter) (words_in (drop l.at l.bytes)) ≡ behind l.k (words_in l.bytes))
