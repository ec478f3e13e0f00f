use Prim.Native.Nat.{◌-◌}
use mathlib.Core.Path.{◌≡◌}
use Rattle.case_notes.specs.Lists.{take_from, taken}
use Rattle.case_notes.proofs.lists.take_list.Given as goal

abbrev pub invariant-loop : goal.invariant-loop
invariant-loop l = take_from l.l (l.end - l.counter) l.line l.at l.kept ≡ taken l.l l.line l.list l.initial.kept
