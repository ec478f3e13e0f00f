use Rattle.std.specs.Prelude.{take}
use Rattle.text.specs.Page.{Puts}
use Rattle.text.proofs.page.Page.put.Given as goal

abbrev pub invariant-loop-b : goal.invariant-loop-b
invariant-loop-b l = Puts l.initial.self l.self (take l.b-index l.s)
