use mathlib.Core.Path.{refl, sym, ◌∙◌}
use Rattle.stack_cache.specs.declared.StackControl.TheVariants.{Sspill}
use Rattle.stack_cache.specs.Stack.{top_after}
use Rattle.stack_cache.specs.Count.{spill_count, fill_count, ss_after}
use Rattle.stack_control.specs.PlanLaws.{accept_sspill, planned_moves, planned_outside}
use Rattle.stack_control.proofs.sspill.Goals as goal

pub returns-then-inside : goal.returns-then-inside
unfolding spill_count fill_count ss_after top_after
returns-then-inside c =
    let a = c.args in
    let g = accept_sspill a.w a.st a.ss a.n c.requires in
    let r = c.min-spilled.ensures in
    let f = rw r at (sym c.inside.ensures ∙ c.if-inside.true) in
    rw r (sym (planned_moves Sspill a.w a.lo a.hi a.st a.ss a.n g c.ranges.ss.fits c.ranges.hi.fits f refl))

pub returns : goal.returns
unfolding spill_count fill_count ss_after top_after
returns c =
    let a = c.args in
    let g = accept_sspill a.w a.st a.ss a.n c.requires in
    let r = c.min-spilled.ensures in
    let f = rw r at (sym c.inside.ensures ∙ c.if-inside.false) in
    sym (planned_outside Sspill a.w a.lo a.hi a.st a.ss a.n g c.ranges.ss.fits c.ranges.hi.fits (rw f))
