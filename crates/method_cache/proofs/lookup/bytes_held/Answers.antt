use Rattle.method_cache.proofs.WordLaws.{held_few}
use mathlib.Core.Path.{refl, ap, ◌∙◌}
use native.Mathlib.Omega.{arith}
use Prim.Native.Nat.{◌+◌}
use Rattle.method_cache.specs.MethodCache.{size_at, bytes_held}
use Rattle.method_cache.specs.Words.{held_in}
use Rattle.method_cache.specs.LoopLaws.{bytes_step, past_end}
use Rattle.method_cache.proofs.lookup.bytes_held.Goals as goal

pub loop-i-init : goal.loop-i-init
loop-i-init c = (omega arith, omega arith)

pub loop-i-preserved : goal.loop-i-preserved
loop-i-preserved c =
    let l = c.loop-i in
    let h = held_in c.args.held.now in
    let code = c.args.code.now in
    let step = bytes_step h l.i (l.i + 1) refl (omega (arith, c.loop-i-test.true, c.held_count-n.ensures.0)) code in
    let size = c.size_at-size.ensures ∙ ap (size_at code) c.held_base.ensures in
    (omega (arith, l.invariant.0, step, size), omega (arith, l.invariant.1, c.size_at-size.type_inv))

pub returns : goal.returns
unfolding bytes_held
returns c =
    let l = c.loop-i in
    let h = held_in c.args.held.now in
    let n = c.held_count-n.ensures in
    let none = ap (bytes_held c.args.code.now) (past_end h l.i (omega (arith, c.loop-i-test.false, n.0))) in
    (omega (arith, l.invariant.0, none), omega (arith, l.invariant.1, c.loop-i.auto.i-end, n.0, held_few c.args.held.now n.1))
