-- What is found of a bundle, in the terms of the check.
use Rattle.std.specs.Prelude.{Bool, true, false, ◌≡◌, refl, Some, None}
use Rattle.std.proofs.lemmas.Bool.{false≢true}
use Rattle.std.proofs.Common.{sym, ◌∙◌}
use Rattle.isa.specs.declared.Bundle.{Bundle}
use Rattle.marking.specs.declared.Marking.{Marking}
use Rattle.marking_rules.specs.declared.Rule.{Rule}
use Rattle.marking_rules.specs.Rules.{breaks, keeps}
use Rattle.marking_rules.specs.RuleLaws.{keeps_each}
use Rattle.broken_rules.specs.Found.{right}

module _ (m : Marking) (b : Bundle) where
  pub found_keeps : right (breaks m b) None ≡ true → keeps m b ≡ true
  unfolding right keeps
  found_keeps e = e

  pub found_breaks : (r : Rule) → right (breaks m b) (Some r) ≡ true → breaks m b r ≡ true
  unfolding right
  found_breaks r e = e

  -- A bundle that breaks a rule does not keep the rules.
  pub breaks_keeps : (r : Rule) → breaks m b r ≡ true → keeps m b ≡ false
  breaks_keeps r e = go (keeps m b) refl
    where
      go : (t : Bool) → keeps m b ≡ t → t ≡ false
      go true k = absurd (false≢true (sym (keeps_each m b k r) ∙ e))
      go false k = refl
