use mathlib.Core.Path.{◌≡◌}
use mathlib.Core.List.{[]}
use lib.ListN.{length, drop}
use Rattle.text.specs.Number.{hex_before}
use Rattle.text.proofs.digits.put_hex.Given as goal

abbrev pub invariant-loop-at : goal.invariant-loop-at
invariant-loop-at l = hex_before l.at l.rest (drop l.at l.out) ≡ hex_before (length l.initial.out) l.n []
