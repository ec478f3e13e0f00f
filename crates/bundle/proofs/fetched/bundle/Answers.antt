use Rattle.answers.specs.declared.Refusal.{Refusal}
use mathlib.Core.Path.{sym, ap, subst, ◌∙◌}
use native.Mathlib.Omega.{arith}
use Rattle.settings.specs.Setup.{given_setup_of, setup_of}
use Rattle.settings.specs.SettingsLaws.{code_small}
use Rattle.fetch.specs.FetchLaws.{found_inside}
use Rattle.core_state.specs.Core.{Canonical}
use Rattle.bundle_model.specs.declared.Bundled.{Bundled}
use Rattle.bundle_model.specs.Counts.{counts_in}
use Rattle.bundle_model.specs.Bundle.{counted}
use Rattle.bundle_model.proofs.ExecuteLaws.{executed_replay}
use Rattle.bundle_model.proofs.HandedLaws.{handed_unread, handed_read}
use borrow.Author.Rules.{rules}
use Rattle.bundle.proofs.fetched.bundle.Goals as goal

pub overflow_cast-following : goal.overflow_cast-following
overflow_cast-following c =
    let a = c in
    omega (arith, found_inside a.args.given.now.code.now a.args.core.fetch _ (sym c.fetch.ensures ∙ c.in-Ok.is), code_small a.args.g a.requires.0, a.requires.2)

pub returns-in-Err : goal.returns-in-Err
returns-in-Err c =
    let a = c.args in
    record {
      given = handed_unread a.g (given_setup_of a.given.now a.g) a.registers.now a.predicates.now a.core a.held.now a.counts.now _ _ _ (sym c.fetch.ensures ∙ c.in-Err.is) c.refused.ensures;
      canonical = subst Canonical (sym (ap (λ (y : Bundled Refusal). y.core) c.refused.ensures));
      held = λ f. f;
    }

pub returns-in-Ok : goal.returns-in-Ok
returns-in-Ok c =
    let a = c.args in
    let e = c.execute.ensures in
    let x = setup_of a.given.now.code.now a.g in
    record {
      given = handed_read a.g (given_setup_of a.given.now a.g) a.registers.now a.predicates.now a.core a.held.now a.counts.now _ _ _ _ _ (sym c.fetch.ensures ∙ c.in-Ok.is) c.slot_one-one.ensures (c.slot_two-two.ensures a.core.specials a.core.fetch a.given.now.table.now)
          (e.given ∙ ap (counted (counts_in a.counts.now)) (executed_replay a.given.now.list.now a.given.now.table.now a.g x _ _ _ _ _));
      canonical = e.canonical;
      held = e.held;
    }
