use mathlib.Core.Bool.{true}
use mathlib.Core.Path.{◌≡◌, sym, subst}
use Rattle.isa.specs.declared.Bundle.TheVariants as bundle
use Rattle.std.specs.Prelude.{Option}
use Rattle.marking_rules.specs.declared.Rule.{Rule}
use Rattle.marking_rules.specs.Rules.{breaks}
use Rattle.broken_rules.specs.Found.{right, right_pair}
use Rattle.broken_rules.proofs.pair_rule.Goals as goal

pub returns : goal.returns
returns c = let a = c.args in
    subst (λ (f : Option Rule). right (breaks a.m (bundle.Two a.i a.j)) f ≡ true) (sym c.or.ensures) (right_pair a.m a.i a.j _ _ c.instruction_rule-one.ensures c.slot_two_rule-two.ensures)
