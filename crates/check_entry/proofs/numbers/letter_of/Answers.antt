use Rattle.check_entry.specs.CheckEntry.{letter_of}
use Prim.Native.Nat.{◌-◌}
use mathlib.Core.Path.{sym, ap}
use borrow.Author.Rules.{rules}
use Rattle.check_entry.proofs.numbers.letter_of.Goals as goal

pub returns-in-A : goal.returns-in-A
unfolding letter_of
returns-in-A c = sym (ap letter_of c.in-A.is)

pub returns-in-B : goal.returns-in-B
unfolding letter_of
returns-in-B c = sym (ap letter_of c.in-B.is)

pub returns-in-C : goal.returns-in-C
unfolding letter_of
returns-in-C c = sym (ap letter_of c.in-C.is)

pub returns-in-D : goal.returns-in-D
unfolding letter_of
returns-in-D c = sym (ap letter_of c.in-D.is)

pub returns-in-E : goal.returns-in-E
unfolding letter_of
returns-in-E c = sym (ap letter_of c.in-E.is)
