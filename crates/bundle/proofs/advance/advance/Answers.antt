use mathlib.Core.Path.{refl, sym, ap, ◌∙◌}
use Rattle.method_cache.specs.Words.{held_in}
use Rattle.settings.specs.declared.Settings.{Settings}
use Rattle.settings.specs.Setup.{buffers, lent, given_setup, given_setup_of}
use Rattle.answers.specs.Refusal.{number}
use Rattle.answers.specs.Answer.{ended, refused}
use Rattle.core_state.specs.State.{with_held}
use Rattle.core_state.specs.Core.{joined}
use Rattle.bundle_model.specs.declared.Counts.{Counts}
use Rattle.bundle_model.specs.declared.Readiness.{Readiness}
use Rattle.bundle_model.specs.Bundle.{outcome, readiness, ready_or}
use Rattle.bundle_model.proofs.BundleLaws.{ready_admits}
use Rattle.bundle_model.proofs.HandedLaws.{counts_as}
use Rattle.run_model.specs.Loop.{goes_on}
use borrow.Author.Rules.{rules}
use Rattle.bundle.proofs.advance.advance.Goals as goal

pub bundles-r-requires : goal.bundles-r-requires
bundles-r-requires c =
    let a = c.args in
    let b = buffers a.main.now a.local.now a.cache.now in
    let s = with_held (joined a.registers.now a.predicates.now a.core) (held_in a.held.now) in
    let e = c.settings-g.ensures in
    (ready_admits _ _ s (sym c.readiness.ensures ∙ c.in-Ready.is), e ∙ sym (ap (λ (y : Settings). lent (given_setup_of a.given.now y) b) e), refl)

pub returns-in-Refused : goal.returns-in-Refused
returns-in-Refused c =
    let a = c.args in
    let x = given_setup a.given.now in
    let b = buffers a.main.now a.local.now a.cache.now in
    let s = with_held (joined a.registers.now a.predicates.now a.core) (held_in a.held.now) in
    let q = ap (λ (y : Settings). readiness y (given_setup_of a.given.now y) s) (sym c.settings-g.ensures) ∙ sym c.readiness.ensures ∙ c.in-Refused.is in
    let ready = sym (ap (λ (r : Readiness). ready_or r s b (goes_on x a.budget s b)) q) in
    record { given = ap (λ (n : Counts). outcome (refused (number c.in-Refused.refusal)) s n b) c.no_counts.ensures ∙ ready; canonical = λ k. k; held = λ f. f }

pub returns-in-Ended : goal.returns-in-Ended
returns-in-Ended c =
    let a = c.args in
    let x = given_setup a.given.now in
    let b = buffers a.main.now a.local.now a.cache.now in
    let s = with_held (joined a.registers.now a.predicates.now a.core) (held_in a.held.now) in
    let q = ap (λ (y : Settings). readiness y (given_setup_of a.given.now y) s) (sym c.settings-g.ensures) ∙ sym c.readiness.ensures ∙ c.in-Ended.is in
    let ready = sym (ap (λ (r : Readiness). ready_or r s b (goes_on x a.budget s b)) q) in
    record { given = ap (λ (n : Counts). outcome ended s n b) c.no_counts-in-Ended.ensures ∙ ready; canonical = λ k. k; held = λ f. f }

pub returns-in-Ready : goal.returns-in-Ready
returns-in-Ready c =
    let a = c.args in
    let x = given_setup a.given.now in
    let b = buffers a.main.now a.local.now a.cache.now in
    let s = with_held (joined a.registers.now a.predicates.now a.core) (held_in a.held.now) in
    let q = ap (λ (y : Settings). readiness y (given_setup_of a.given.now y) s) (sym c.settings-g.ensures) ∙ sym c.readiness.ensures ∙ c.in-Ready.is in
    let ready = sym (ap (λ (r : Readiness). ready_or r s b (goes_on x a.budget s b)) q) in
    let r = c.bundles-r in
    record {
      given = counts_as _ _ _ _ _ _ c.counts_in.ensures (r.ensures.given ∙ ap (λ (y : Settings). goes_on (given_setup_of a.given.now y) a.budget s b) c.settings-g.ensures ∙ ready);
      canonical = r.ensures.canonical;
      held = r.ensures.held;
    }
