use mathlib.Core.Path.{sym, ◌∙◌}
use Rattle.stack_cache.specs.Stack.{planned}
use Rattle.stack_control.specs.PlanLaws.{window}
use Rattle.stack_control.proofs.plan.Goals as goal

pub returns-then-bad_window : goal.returns-then-bad_window
unfolding planned
returns-then-bad_window c = rw (sym c.bad_window.ensures ∙ c.if-bad_window.true)

pub sres-requires : goal.sres-requires
sres-requires c = let a = c.args in
    window a.stack.words a.st a.ss (sym c.bad_window.ensures ∙ c.if-bad_window.false)

pub sens-requires : goal.sens-requires
sens-requires c = let a = c.args in
    window a.stack.words a.st a.ss (sym c.bad_window.ensures ∙ c.if-bad_window.false)

pub sfree-requires : goal.sfree-requires
sfree-requires c = let a = c.args in
    window a.stack.words a.st a.ss (sym c.bad_window.ensures ∙ c.if-bad_window.false)

pub sspill-requires : goal.sspill-requires
sspill-requires c = let a = c.args in
    window a.stack.words a.st a.ss (sym c.bad_window.ensures ∙ c.if-bad_window.false)

pub returns-in-Sres : goal.returns-in-Sres
returns-in-Sres c = rw c.in-Sres.is c.sres.ensures

pub returns-in-Sens : goal.returns-in-Sens
returns-in-Sens c = rw c.in-Sens.is c.sens.ensures

pub returns-in-Sfree : goal.returns-in-Sfree
returns-in-Sfree c = rw c.in-Sfree.is c.sfree.ensures

pub returns-in-Sspill : goal.returns-in-Sspill
returns-in-Sspill c = rw c.in-Sspill.is c.sspill.ensures
