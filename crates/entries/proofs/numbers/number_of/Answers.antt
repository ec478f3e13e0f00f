use Rattle.entries.specs.Entries.{answer_number}
use Rattle.resume.specs.declared.Reply.{Reply}
use Rattle.resume.specs.Resumed.{returned}
use Prim.Native.Nat.{◌-◌}
use mathlib.Core.Path.{sym, ap, ◌∙◌}
use borrow.Author.Rules.{rules}
use Rattle.entries.proofs.numbers.number_of.Goals as goal

pub returns-in-Done : goal.returns-in-Done
unfolding answer_number
returns-in-Done c = sym (ap (λ (a : Reply). answer_number (returned a)) c.in-Done.is)

pub returns-in-Ended : goal.returns-in-Ended
unfolding answer_number
returns-in-Ended c = sym (ap (λ (a : Reply). answer_number (returned a)) c.in-Ended.is)

pub returns-in-Spent : goal.returns-in-Spent
unfolding answer_number
returns-in-Spent c = sym (ap (λ (a : Reply). answer_number (returned a)) c.in-Spent.is)

pub returns-in-Refused : goal.returns-in-Refused
unfolding answer_number
returns-in-Refused c = c.number.ensures ∙ sym (ap (λ (a : Reply). answer_number (returned a)) c.in-Refused.is)
