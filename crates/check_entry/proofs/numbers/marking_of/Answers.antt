use Rattle.check_entry.specs.CheckEntry.{marking_of}
use lib.ListN.{get_or}
use mathlib.Core.Bool.{false}
use borrow.Author.Rules.{rules}
use Rattle.check_entry.proofs.numbers.marking_of.Goals as goal

pub returns : goal.returns
unfolding marking_of
returns c =
    let r = c.bits_of-registers.ensures in
    let p = c.predicates_in-predicates.ensures in
    let o = c.predicates_in-o.ensures in
    λ i. record { registers = r i; predicates = p i; sl = get_or (o i) 0 false; sh = get_or (o i) 1 false; main = get_or (o i) 2 false; local = get_or (o i) 3 false; stack = get_or (o i) 4 false }
