use mathlib.Core.Path.{◌≡◌, subst}
use mathlib.Core.Bool.{true, false, ◌&&◌, ◌||◌}
use Rattle.marking_rules.specs.declared.Asked.{Asked}
use Rattle.marking_rules.specs.Rules.{breaks_a, breaks_b, breaks_c, breaks_d, breaks_e, operation_breaks}
use Rattle.broken_rules.specs.Found.{right}
use Rattle.broken_rules.proofs.first_rule.Goals as goal

pub returns-then-guard-row : goal.returns-then-guard-row
unfolding operation_breaks right breaks_a
returns-then-guard-row c = let g = c.args.guard in λ o e. subst (λ (x : Asked). g && x.control ≡ true) e c.if-guard-row.true

pub returns-then-row-guard : goal.returns-then-row-guard
unfolding operation_breaks right breaks_b
returns-then-row-guard c = let g = c.args.guard in λ o e. subst (λ (x : Asked). x.destination && (g || x.source) ≡ true) e c.if-row-guard.true

pub returns-then-row : goal.returns-then-row
unfolding operation_breaks right breaks_c
returns-then-row c = λ o e. subst (λ (x : Asked). x.base ≡ true) e c.if-row.true

pub returns-then-row-guard-2 : goal.returns-then-row-guard-2
unfolding operation_breaks right breaks_d
returns-then-row-guard-2 c = let g = c.args.guard in λ o e. subst (λ (x : Asked). x.store && (g || x.value) ≡ true) e c.if-row-guard-2.true

pub returns-then-row-2 : goal.returns-then-row-2
unfolding operation_breaks right breaks_e
returns-then-row-2 c = λ o e. subst (λ (x : Asked). x.operand ≡ true) e c.if-row-2.true

pub returns : goal.returns
unfolding operation_breaks right breaks_a breaks_b breaks_c breaks_d breaks_e
returns c = let g = c.args.guard in
    λ o e. rw (subst (λ (x : Asked). g && x.control ≡ false) e c.if-guard-row.false, subst (λ (x : Asked). x.destination && (g || x.source) ≡ false) e c.if-row-guard.false, subst (λ (x : Asked). x.base ≡ false) e c.if-row.false, subst (λ (x : Asked). x.store && (g || x.value) ≡ false) e c.if-row-guard-2.false, subst (λ (x : Asked). x.operand ≡ false) e c.if-row-2.false)
