use mathlib.Core.Path.{refl, sym, ◌∙◌}
use Rattle.std.proofs.lemmas.Result.{err_from_is_err_and}
use borrow.Author.Tests.{not-true, not-false}
use Rattle.settings.specs.SettingsLaws.{capacity_ok_lem}
use Rattle.bundle.specs.AttemptLaws.{Enters, due_told, not_entered, entry_judged, has_entered}
use borrow.Author.Rules.{rules}
use Rattle.bundle.proofs.attempt.enter.Goals as goal

pub returns-then-not-due : goal.returns-then-not-due
unfolding Enters
returns-then-not-due c =
    let a = c.args in
    λ rs ps. not_entered a.given.now.list.now a.given.now.table.now a.given.now.code.now a.g rs ps a.core a.held.now _ _ (due_told a.given.now.list.now a.given.now.table.now a.given.now.code.now a.g rs ps a.core a.held.now c.is_due.result c.none_waits.result c.is_due.ensures c.none_waits.ensures) (c.if-not-due.true)

pub returns-in_err-judge_entry : goal.returns-in_err-judge_entry
unfolding Enters
returns-in_err-judge_entry c =
    let a = c.args in
    let p = err_from_is_err_and c.from_residual.result c.from_residual.ensures.1 in
    rw (p.1, p.2)
    (λ rs ps. (
      entry_judged a.given.now.list.now a.given.now.table.now a.given.now.code.now a.g rs ps a.core a.held.now _ c.handler_of-handler.ensures _ (due_told a.given.now.list.now a.given.now.table.now a.given.now.code.now a.g rs ps a.core a.held.now c.is_due.result c.none_waits.result c.is_due.ensures c.none_waits.ensures) (c.if-not-due.false)
          ∙ sym c.judge_entry.ensures ∙ c.in_err-judge_entry.was,
      refl,
    ))

pub returns : goal.returns
unfolding Enters
returns c =
    let a = c.args in
    let p = c.requires in
    λ rs ps.
    let t = due_told a.given.now.list.now a.given.now.table.now a.given.now.code.now a.g rs ps a.core a.held.now c.is_due.result c.none_waits.result c.is_due.ensures c.none_waits.ensures in
    let is = c.if-not-due.false in
    let f = entry_judged a.given.now.list.now a.given.now.table.now a.given.now.code.now a.g rs ps a.core a.held.now _ c.handler_of-handler.ensures _ t is ∙ sym c.judge_entry.ensures ∙ c.in_ok-judge_entry.was in
    has_entered a.given.now.list.now a.given.now.table.now a.given.now.code.now a.g rs ps a.core a.held.now _ c.handler_of-handler.ensures _ t is _ _ _ _ f (capacity_ok_lem a.g p) c.look_up_transfer-looked.ensures c.take.ensures refl
