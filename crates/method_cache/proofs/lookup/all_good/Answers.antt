use mathlib.Core.Path.{refl, sym, ap, ◌∙◌}
use native.Mathlib.Omega.{arith}
use Prim.Native.Nat.{◌+◌}
use Rattle.method_cache.specs.MethodCache.{held_good}
use Rattle.method_cache.specs.Words.{held_in}
use Rattle.method_cache.specs.LoopLaws.{good_bad, good_next, past_end}
use Rattle.method_cache.proofs.lookup.all_good.Goals as goal

pub loop-i-init : goal.loop-i-init
loop-i-init c = refl

pub overflow_add-i : goal.overflow_add-i
overflow_add-i c = omega (arith, c.loop-i-test.true)

pub returns-then-is_bad-is_held : goal.returns-then-is_bad-is_held
returns-then-is_bad-is_held c =
    let l = c.loop-i in
    let a = c.args in
    let h = held_in a.held.now in
    let n = c.held_count-n.ensures.0 in
    let p = c.loop-i-test.true in
    sym (sym l.invariant ∙ good_bad h l.i (l.i + 1) refl (omega (arith, p, n)) a.method a.code.now _ _ _ c.held_base-base.ensures c.is_bad.ensures c.is_held.ensures.0 c.if-is_bad-is_held.true)

pub loop-i-preserved : goal.loop-i-preserved
loop-i-preserved c =
    let l = c.loop-i in
    let a = c.args in
    let h = held_in a.held.now in
    let n = c.held_count-n.ensures.0 in
    let p = c.loop-i-test.true in
    sym (good_next h l.i (l.i + 1) refl (omega (arith, p, n)) a.method a.code.now _ _ _ c.held_base-base.ensures c.is_bad.ensures c.is_held.ensures.0 c.if-is_bad-is_held.false) ∙ l.invariant

pub returns : goal.returns
unfolding held_good
returns c =
    let l = c.loop-i in
    let a = c.args in
    let h = held_in a.held.now in
    sym (sym l.invariant ∙ ap (held_good a.method a.code.now) (past_end h l.i (omega (arith, c.loop-i-test.false, c.held_count-n.ensures.0))))
