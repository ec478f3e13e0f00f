use mathlib.Core.Path.{◌≡◌}
use Rattle.case_notes.specs.Record.{laid}
use Rattle.case_notes.proofs.record.lay_words.Given as goal

abbrev pub invariant-loop-i : goal.invariant-loop-i
invariant-loop-i l = l.bytes ≡ laid l.first l.i l.kept l.initial.bytes
