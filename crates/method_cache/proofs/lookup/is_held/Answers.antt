use mathlib.Core.Path.{refl, sym, ap, ◌∙◌}
use native.Mathlib.Omega.{arith}
use borrow.Author.Tests.{eq-eqb, ne_eqb}
use Rattle.method_cache.specs.MethodCache.{is_held}
use Rattle.method_cache.specs.Words.{held_in}
use Rattle.method_cache.specs.LoopLaws.{held_step, past_end}
use Rattle.method_cache.proofs.lookup.is_held.Goals as goal

pub loop-i-init : goal.loop-i-init
loop-i-init c = refl

pub returns-then-base-held_base : goal.returns-then-base-held_base
returns-then-base-held_base c =
    let l = c.loop-i in
    let h = held_in c.args.held.now in
    let p = c.loop-i-test.true in
    (sym (sym l.invariant ∙ held_step h l.i _ refl (omega (arith, p, c.held_count-n.ensures.0)) _ ∙ rw (eq-eqb _ _ (c.if-base-held_base.true ∙ c.held_base.ensures)) refl), c.held_count-n.ensures.1)

pub loop-i-preserved : goal.loop-i-preserved
loop-i-preserved c =
    let l = c.loop-i in
    let h = held_in c.args.held.now in
    let p = c.loop-i-test.true in
    sym (held_step h l.i _ refl (omega (arith, p, c.held_count-n.ensures.0)) _ ∙ rw (ne_eqb _ _ (λ z. c.if-base-held_base.false (z ∙ sym c.held_base.ensures))) refl) ∙ l.invariant

pub returns : goal.returns
unfolding is_held
returns c =
    let l = c.loop-i in
    let h = held_in c.args.held.now in
    (sym (sym l.invariant ∙ ap (is_held _) (past_end h l.i (omega (arith, c.loop-i-test.false, c.held_count-n.ensures.0)))), c.held_count-n.ensures.1)
