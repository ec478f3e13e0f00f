use Prim.Native.Nat.{◌-◌}
use mathlib.Core.Path.{◌≡◌}
use Rattle.case_notes.specs.DescriptionLine.{append_from, code_line}
use Rattle.case_notes.proofs.description_line.code_line.Given as goal

abbrev pub invariant-loop : goal.invariant-loop
invariant-loop l = append_from (l.end - l.counter) l.line l.at l.kept l.code ≡ code_line l.line l.list l.initial.kept l.initial.code
