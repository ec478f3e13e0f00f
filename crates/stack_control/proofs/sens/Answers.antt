use borrow.Author.Tests.{lt-ltb}
use native.Mathlib.Omega.{arith}
use mathlib.Core.Path.{refl, sym, ◌∙◌}
use Rattle.stack_cache.specs.declared.StackControl.TheVariants.{Sens}
use Rattle.stack_cache.specs.Stack.{bad_amount, planned, top_after}
use Rattle.stack_cache.specs.Count.{spill_count, fill_count, ss_after}
use Rattle.stack_control.specs.PlanLaws.{window_good, accept_sens, planned_moves, planned_outside}
use Rattle.stack_cache.specs.RangeLaws.{inside_end}
use Rattle.stack_control.proofs.sens.Goals as goal

pub returns-then-w-n : goal.returns-then-w-n
unfolding planned bad_amount
returns-then-w-n c = rw (window_good c.args.w c.args.st c.args.ss c.requires, lt-ltb _ _ c.if-w-n.true)

pub overflow_mul-result : goal.overflow_mul-result
overflow_mul-result c =
    omega (arith, inside_end c.args.lo c.args.hi c.args.ss c.saturating_sub-filled.result (sym c.inside.ensures ∙ c.if-inside.true) c.ranges.ss.fits c.ranges.hi.fits)

pub overflow_add-result : goal.overflow_add-result
overflow_add-result c =
    omega (arith, inside_end c.args.lo c.args.hi c.args.ss c.saturating_sub-filled.result (sym c.inside.ensures ∙ c.if-inside.true) c.ranges.ss.fits c.ranges.hi.fits)

pub returns-then-inside : goal.returns-then-inside
unfolding spill_count fill_count ss_after top_after
returns-then-inside c =
    let a = c.args in
    let g = accept_sens a.w a.st a.ss a.n c.requires c.if-w-n.false in
    let r = c.saturating_sub-filled.ensures in
    let f = rw r at (sym c.inside.ensures ∙ c.if-inside.true) in
    rw r (sym (planned_moves Sens a.w a.lo a.hi a.st a.ss a.n g c.ranges.ss.fits c.ranges.hi.fits refl f))

pub returns : goal.returns
unfolding spill_count fill_count ss_after top_after
returns c =
    let a = c.args in
    let g = accept_sens a.w a.st a.ss a.n c.requires c.if-w-n.false in
    let r = c.saturating_sub-filled.ensures in
    let f = rw r at (sym c.inside.ensures ∙ c.if-inside.false) in
    sym (planned_outside Sens a.w a.lo a.hi a.st a.ss a.n g c.ranges.ss.fits c.ranges.hi.fits (rw f))
