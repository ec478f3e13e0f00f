use Rattle.answers.specs.declared.Refusal.{Refusal}
use mathlib.Core.Path.{refl, sym, ap, subst}
use mathlib.Core.List.{[]}
use Rattle.settings.specs.Setup.{setup_of}
use Rattle.core_state.specs.Core.{joined, Canonical}
use Rattle.bundle_model.specs.declared.Bundled.{Bundled}
use Rattle.bundle_model.proofs.HandedLaws.{handed_refused, handed_done}
use Rattle.step_laws.proofs.CountLaws.{one_more_fits}
use Rattle.bundle_writes.specs.Words.{written_canonical}
use borrow.Author.Rules.{rules}
use Rattle.bundle.proofs.execute.execute.Goals as goal

pub add-requires : goal.add-requires
add-requires c =
    let a = c.args in
    let h = c.requires in
    let e = c.carry_out.ensures [] [] in
    one_more_fits a.g (setup_of a.code.now a.g) (joined [] [] a.core) a.one _ _ _ _ _ a.held.now _ a.counts.now _ h.0 refl c.in-Ok.is e.0 e.1 h.2

pub returns-in-Err : goal.returns-in-Err
returns-in-Err c =
    let a = c.args in
    let e = c.carry_out.ensures a.registers.now a.predicates.now in
    record {
      given = handed_refused a.g (setup_of a.code.now a.g) a.registers.now a.predicates.now a.core a.held.now a.one a.two a.following _ _ _ a.counts.now _ _ _ c.in-Err.is e.0 e.1 c.refused.ensures;
      canonical = subst Canonical (sym (ap (λ (y : Bundled Refusal). y.core) c.refused.ensures));
      held = e.1.fixed;
    }

pub shape_of-main-in-Ok : goal.shape_of-main-in-Ok
shape_of-main-in-Ok c = search (rules, c.carry_out.auto)

pub shape_of-local-in-Ok : goal.shape_of-local-in-Ok
shape_of-local-in-Ok c = search (rules, c.carry_out.auto)

pub returns-in-Ok : goal.returns-in-Ok
returns-in-Ok c =
    let a = c.args in
    let e = c.carry_out.ensures a.registers.now a.predicates.now in
    let w = c.write-next.ensures in
    record {
      given = handed_done a.g (setup_of a.code.now a.g) a.registers.now a.predicates.now a.core a.held.now a.one a.two a.following _ _ _ a.counts.now _ _ _ _ _ _ _ _ c.add.new.counts c.in-Ok.is e.0 e.1 w.state c.add.ensures c.done.ensures;
      canonical = λ k. subst Canonical (sym (ap (λ (y : Bundled Refusal). y.core) c.done.ensures)) (written_canonical a.one _ a.core _ w.transfer w.load w.products k);
      held = e.1.fixed;
    }
