use Rattle.std.specs.Prelude.{Ok, Err}
use mathlib.Core.Bool.{Bool, cond}
use mathlib.Core.Path.{sym, ap, ◌∙◌}
use Rattle.answers.specs.declared.Refusal.TheVariants as refusal
use Rattle.answers.specs.Test.{verdict}
use Rattle.bundle_model.specs.Refusal.{no_handler}
use Rattle.bundle_writes.proofs.slot_one.judge_trap.Goals as goal

pub returns-then-core : goal.returns-then-core
unfolding verdict
returns-then-core c =
    let a = c.args in
    sym (ap (λ (t : Bool). cond t (Err refusal.HandlerActive) (cond (no_handler a.vector a.handler) (Err refusal.NoHandler) (Ok tt))) c.if-core.true)

pub returns-then-vector-handler : goal.returns-then-vector-handler
unfolding verdict
returns-then-vector-handler c =
    let a = c.args in
    sym (ap (λ (t : Bool). cond t (Err refusal.HandlerActive) (cond (no_handler a.vector a.handler) (Err refusal.NoHandler) (Ok tt))) c.if-core.false
    ∙ ap (λ (t : Bool). cond t (Err refusal.NoHandler) (Ok tt)) c.if-vector-handler.true)

pub returns : goal.returns
unfolding verdict
returns c =
    let a = c.args in
    sym (ap (λ (t : Bool). cond t (Err refusal.HandlerActive) (cond (no_handler a.vector a.handler) (Err refusal.NoHandler) (Ok tt))) c.if-core.false
    ∙ ap (λ (t : Bool). cond t (Err refusal.NoHandler) (Ok tt)) c.if-vector-handler.false)
