use mathlib.Core.Path.{sym, ◌∙◌}
use Rattle.std.proofs.lemmas.Result.{err_from_is_err_and}
use Rattle.method_cache.specs.Words.{held_in}
use Rattle.settings.specs.Setup.{setup_of}
use Rattle.core_state.specs.State.{with_held}
use Rattle.core_state.specs.Core.{joined}
use Rattle.bundle_model.specs.TallyLaws.{tallied_refused}
use Rattle.bundle_writes.specs.Transfers.{trap_refused, trap_carried}
use borrow.Author.Rules.{rules}
use Rattle.bundle.proofs.transfers.do_trap.Goals as goal

pub returns-in_err-judge_trap : goal.returns-in_err-judge_trap
returns-in_err-judge_trap c =
    let a = c.args in
    let p = err_from_is_err_and c.from_residual.result c.from_residual.ensures.1 in
    rw (p.1, p.2)
    (λ rs ps b. (
      trap_refused a.g (setup_of a.code.now a.g) (with_held (joined rs ps a.core) (held_in a.held.now)) a.vector a.handler b _ (sym c.judge_trap.ensures ∙ c.in_err-judge_trap.was),
      tallied_refused _ a.g (setup_of a.code.now a.g) (joined rs ps a.core) a.held.now a.counts.now _,
    ))

pub returns : goal.returns
returns c =
    let a = c.args in
    λ rs ps b.
    let r = c.do_transfer.ensures rs ps b in (
      r.0
          ∙ trap_carried a.g (setup_of a.code.now a.g) (with_held (joined rs ps a.core) (held_in a.held.now)) a.vector a.handler b (sym c.judge_trap.ensures ∙ c.in_ok-judge_trap.was),
      record { held = r.1.held; counts = r.1.counts; fixed = r.1.fixed },
    )
