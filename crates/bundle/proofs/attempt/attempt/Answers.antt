use Rattle.answers.specs.declared.Refusal.{Refusal}
use borrow.Enum.Refused.{opened}
use mathlib.Core.Path.{refl, sym, ap, subst, ◌∙◌}
use borrow.Author.Rules.{rules}
use Rattle.method_cache.specs.Words.{held_in, FixedHeld}
use Rattle.settings.specs.Setup.{given_setup_of}
use Rattle.core_state.specs.Core.{Canonical}
use Rattle.bundle_model.specs.declared.Bundled.{Bundled}
use Rattle.bundle.specs.AttemptLaws.{enters_refused, enters_going, handed_entry, handed_undone, held_again, handed_taken, handed_plain, entry_fits, not_done, canonical_kept}
use Rattle.bundle.proofs.attempt.attempt.Goals as goal

pub bundle-r-requires : goal.bundle-r-requires
bundle-r-requires c = let p = c.requires in (p.0, p.1, p.2, p.3)

pub returns-then-due : goal.returns-then-due
returns-then-due c =
    let a = c.args in
    let x = given_setup_of a.given.now a.g in
    let en = enters_going _ _ _ c.in-Ok.is (c.enter.ensures a.registers.now a.predicates.now) in
    let r = c.bundle-r in
    record {
      given = handed_undone a.g x a.registers.now a.predicates.now a.core a.held.now a.counts.now _ _ _ _ _ _ en _ _ _ _ r.result _ r.ensures.given (not_done r.result.answer (opened c.in_default.in_default-own.keys2)) _ _ (ap held_in (en.kept c.if-due.true)) refl;
      canonical = λ k. k;
      held = subst FixedHeld (sym (en.kept c.if-due.true));
    }

pub returns-in_default : goal.returns-in_default
returns-in_default c =
    let a = c.args in
    let x = given_setup_of a.given.now a.g in
    let en = enters_going _ _ _ c.in-Ok.is (c.enter.ensures a.registers.now a.predicates.now) in
    let r = c.bundle-r in
    let no = not_done r.result.answer (opened c.in_default.in_default-own.keys2) in
    record {
      given = handed_undone a.g x a.registers.now a.predicates.now a.core a.held.now a.counts.now _ _ _ _ _ _ en _ _ _ _ r.result _ r.ensures.given no _ _ (held_again a.g x a.registers.now a.predicates.now a.core a.held.now a.counts.now _ _ _ _ _ _ en _ _ _ _ r.result _ r.ensures.given no c.if-due.false) refl;
      canonical = λ k. k;
      held = λ f. r.ensures.held (en.fixed f);
    }

pub add_looked-requires : goal.add_looked-requires
add_looked-requires c =
    let a = c.args in
    let x = given_setup_of a.given.now a.g in
    let en = enters_going _ _ _ c.in-Ok.is (c.enter.ensures a.registers.now a.predicates.now) in
    let r = c.bundle-r in
    let p = c.requires in
    entry_fits a.g x a.registers.now a.predicates.now a.core a.held.now a.counts.now _ _ _ _ _ _ en _ _ _ _ r.result _ r.ensures.given p.0 refl p.3 c.if-due-2.true

pub returns-then-due-2 : goal.returns-then-due-2
returns-then-due-2 c =
    let a = c.args in
    let x = given_setup_of a.given.now a.g in
    let en = enters_going _ _ _ c.in-Ok.is (c.enter.ensures a.registers.now a.predicates.now) in
    let r = c.bundle-r in
    let n = c.count.ensures in
    record {
      given = handed_taken a.g x a.registers.now a.predicates.now a.core a.held.now a.counts.now _ _ _ _ _ _ en _ _ _ _ r.result _ r.ensures.given _ _ _ c.if-due-2.true c.in-Done.is (n.state _ _) c.add_looked.ensures c.done.ensures;
      canonical = λ k. subst Canonical (sym (ap (λ (y : Bundled Refusal). y.core) c.done.ensures)) (canonical_kept _ _ n.transfer n.load n.products (r.ensures.canonical (en.canonical k)));
      held = λ f. r.ensures.held (en.fixed f);
    }

pub returns-in-Err : goal.returns-in-Err
returns-in-Err c =
    let a = c.args in
    let x = given_setup_of a.given.now a.g in
    let en = enters_refused x a.registers.now a.predicates.now a.core a.held.now _ _ _ _ c.in-Err.is (c.enter.ensures a.registers.now a.predicates.now) in
    record {
      given = rw en.1 (handed_entry a.g x a.registers.now a.predicates.now a.core a.held.now a.counts.now _ _ _ en.0 c.refused.ensures);
      canonical = subst Canonical (sym (ap (λ (y : Bundled Refusal). y.core) c.refused.ensures));
      held = subst FixedHeld (sym en.1);
    }

pub returns-else-due-2 : goal.returns-else-due-2
returns-else-due-2 c =
    let a = c.args in
    let x = given_setup_of a.given.now a.g in
    let en = enters_going _ _ _ c.in-Ok.is (c.enter.ensures a.registers.now a.predicates.now) in
    let r = c.bundle-r in
    let n = c.count-in-Ok.ensures in
    record {
      given = handed_plain a.g x a.registers.now a.predicates.now a.core a.held.now a.counts.now _ _ _ _ _ _ en _ _ _ _ r.result _ r.ensures.given _ _ c.if-due-2.false c.in-Done.is (n.state _ _) c.done-in-Ok.ensures;
      canonical = λ k. subst Canonical (sym (ap (λ (y : Bundled Refusal). y.core) c.done-in-Ok.ensures)) (canonical_kept _ _ n.transfer n.load n.products (r.ensures.canonical (en.canonical k)));
      held = λ f. r.ensures.held (en.fixed f);
    }
