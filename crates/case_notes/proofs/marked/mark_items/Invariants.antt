use Prim.Native.Nat.{◌-◌}
use mathlib.Core.Path.{◌≡◌}
use Rattle.case_notes.specs.Marking.{mark_from, mark_items}
use Rattle.case_notes.proofs.marked.mark_items.Given as goal

abbrev pub invariant-loop : goal.invariant-loop
invariant-loop l = mark_from (l.end - l.counter) l.line l.at l.kept ≡ mark_items l.line l.list l.initial.kept
