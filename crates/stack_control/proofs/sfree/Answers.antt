use borrow.Author.Tests.{le-leb}
use mathlib.Core.Path.{refl, sym}
use Rattle.stack_cache.specs.declared.StackControl.TheVariants.{Sfree}
use native.Mathlib.Nat.{le_of_lt, max-eq_left, max-eq_right}
use Rattle.stack_cache.specs.Stack.{bad_amount, planned, top_after}
use Rattle.stack_cache.specs.Count.{spill_count, fill_count, ss_after}
use Rattle.stack_control.specs.PlanLaws.{window_good, accept_sfree, planned_moves}
use Rattle.stack_control.proofs.sfree.Goals as goal

pub returns-then-sum-ge4294967296 : goal.returns-then-sum-ge4294967296
unfolding planned bad_amount
returns-then-sum-ge4294967296 c = rw (window_good c.args.w c.args.st c.args.ss c.requires, le-leb _ _ c.if-sum-ge4294967296.true)

pub returns-then-ss-top : goal.returns-then-ss-top
unfolding spill_count fill_count ss_after top_after
returns-then-ss-top c =
    let a = c.args in
    let g = accept_sfree a.w a.st a.ss a.n c.requires c.if-sum-ge4294967296.false in
    rw (max-eq_right (le_of_lt c.if-ss-top.true)) at (sym (planned_moves Sfree a.w a.lo a.hi a.st a.ss a.n g c.ranges.ss.fits c.ranges.hi.fits refl refl))

pub returns : goal.returns
unfolding spill_count fill_count ss_after top_after
returns c =
    let a = c.args in
    let g = accept_sfree a.w a.st a.ss a.n c.requires c.if-sum-ge4294967296.false in
    rw (max-eq_left c.if-ss-top.false) at (sym (planned_moves Sfree a.w a.lo a.hi a.st a.ss a.n g c.ranges.ss.fits c.ranges.hi.fits refl refl))
