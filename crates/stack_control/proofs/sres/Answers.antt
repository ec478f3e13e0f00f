use borrow.Author.Tests.{lt-ltb, le-ltb}
use mathlib.Core.Path.{refl, sym, ◌∙◌}
use Rattle.stack_cache.specs.declared.StackControl.TheVariants.{Sres}
use Rattle.stack_cache.specs.Stack.{bad_amount, planned, top_after}
use Rattle.stack_cache.specs.Count.{spill_count, fill_count, ss_after}
use Rattle.stack_control.specs.PlanLaws.{window_good, accept_sres, planned_moves, planned_outside}
use Rattle.stack_control.proofs.sres.Goals as goal

pub returns-then-w-n : goal.returns-then-w-n
unfolding planned bad_amount
returns-then-w-n c = rw (window_good c.args.w c.args.st c.args.ss c.requires, lt-ltb _ _ c.if-w-n.true)

pub returns-then-st-n : goal.returns-then-st-n
unfolding planned bad_amount
returns-then-st-n c = rw (window_good c.args.w c.args.st c.args.ss c.requires, le-ltb _ _ c.if-w-n.false, lt-ltb _ _ c.if-st-n.true)

pub returns-then-inside : goal.returns-then-inside
unfolding spill_count fill_count ss_after top_after
returns-then-inside c =
    let a = c.args in
    let g = accept_sres a.w a.st a.ss a.n c.requires c.if-w-n.false c.if-st-n.false in
    let r = c.saturating_sub.ensures in
    let f = rw r at (sym c.inside.ensures ∙ c.if-inside.true) in
    rw r (sym (planned_moves Sres a.w a.lo a.hi a.st a.ss a.n g c.ranges.ss.fits c.ranges.hi.fits f refl))

pub returns : goal.returns
unfolding spill_count fill_count ss_after top_after
returns c =
    let a = c.args in
    let g = accept_sres a.w a.st a.ss a.n c.requires c.if-w-n.false c.if-st-n.false in
    let r = c.saturating_sub.ensures in
    let f = rw r at (sym c.inside.ensures ∙ c.if-inside.false) in
    sym (planned_outside Sres a.w a.lo a.hi a.st a.ss a.n g c.ranges.ss.fits c.ranges.hi.fits (rw f))
