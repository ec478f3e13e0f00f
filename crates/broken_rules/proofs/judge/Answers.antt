use mathlib.Core.Bool.{true}
use mathlib.Core.Logic.{⊎_elim}
use mathlib.Core.Path.{◌≡◌, subst}
use Rattle.isa.specs.declared.Instruction.{Instruction}
use Rattle.marking_rules.specs.Rules.{instruction_breaks, breaks}
use Rattle.broken_rules.specs.Found.{right}
use Rattle.broken_rules.proofs.judge.Goals as goal

pub returns-in-Undecodable : goal.returns-in-Undecodable
unfolding right breaks
returns-in-Undecodable c = rw c.in-Undecodable.is

pub returns-in-Two : goal.returns-in-Two
returns-in-Two c = rw c.in-Two.is c.pair_rule.ensures

pub returns-in-One : goal.returns-in-One
unfolding breaks
returns-in-One c = ⊎_elim (λ e. rw e c.instruction_rule.ensures) (λ e. rw e c.instruction_rule.ensures) c.in-One.is
