use mathlib.Core.Path.{◌≡◌, refl, sym, ap, ◌∙◌}
use mathlib.Core.Bool.{Bool, cond}
use native.Mathlib.Omega.{arith}
use Prim.Native.Nat.{◌+◌}
use lib.ListN.{drop}
use borrow.Author.Rules.{rules}
use Rattle.method_cache.specs.MethodCache.{size_at, room_for}
use Rattle.method_cache.specs.Words.{held_in}
use Rattle.method_cache.specs.LoopLaws.{bytes_step, room_step, room_judged, past_end}
use Rattle.method_cache.proofs.WordLaws.{held_few}
use Rattle.method_cache.proofs.lookup.evicted.Goals as goal

pub loop-k-init : goal.loop-k-init
loop-k-init c = (omega arith, c.bytes_held-bytes.ensures.0, c.bytes_held-bytes.ensures.1, refl)

pub overflow_sub-n : goal.overflow_sub-n
overflow_sub-n c = omega (arith, c.loop-k-test.true)

pub overflow_add-n : goal.overflow_add-n
overflow_add-n c = omega (arith, c.held_count-n.ensures.0, held_few c.args.held.now c.held_count-n.ensures.1)

pub overflow_add-bytes : goal.overflow_add-bytes
overflow_add-bytes c = search (rules, c.loop-k.invariant.2)

pub returns-then-n-k : goal.returns-then-n-k
returns-then-n-k c =
    let l = c.loop-k in
    let a = c.args in
    let h = held_in a.held.now in
    let n = c.held_count-n.ensures.0 in
    let p = c.loop-k-test.true in
    let t = sym (room_judged a.method a.code.now a.size h l.k _ l.bytes n l.invariant.1) ∙ c.if-n-k.true in
    (sym l.invariant.3 ∙ room_step h l.k (l.k + 1) refl (omega (arith, p, n)) a.method a.code.now a.size ∙ rw t refl, l.invariant.0)

pub overflow_sub-bytes : goal.overflow_sub-bytes
overflow_sub-bytes c =
    let l = c.loop-k in
    let a = c.args in
    let h = held_in a.held.now in
    let n = c.held_count-n.ensures.0 in
    let p = c.loop-k-test.true in
    let size = c.size_at-gone.ensures ∙ ap (size_at a.code.now) c.held_base.ensures in
    omega (arith, l.invariant.1, size, bytes_step h l.k (l.k + 1) refl (omega (arith, p, n)) a.code.now)

pub loop-k-preserved : goal.loop-k-preserved
loop-k-preserved c =
    let l = c.loop-k in
    let a = c.args in
    let h = held_in a.held.now in
    let n = c.held_count-n.ensures.0 in
    let p = c.loop-k-test.true in
    let size = c.size_at-gone.ensures ∙ ap (size_at a.code.now) c.held_base.ensures in
    let t = sym (room_judged a.method a.code.now a.size h l.k _ l.bytes n l.invariant.1) ∙ c.if-n-k.false in
    let step : room_for a.method a.code.now a.size (drop l.k h) ≡ room_for a.method a.code.now a.size (drop (l.k + 1) h) = room_step h l.k (l.k + 1) refl (omega (arith, p, n)) a.method a.code.now a.size ∙ ap (λ (u : Bool). cond u (drop l.k h) (room_for a.method a.code.now a.size (drop (l.k + 1) h))) t in
    (omega (arith, p, n), omega (arith, l.invariant.1, size, bytes_step h l.k (l.k + 1) refl (omega (arith, p, n)) a.code.now), omega (arith, l.invariant.2), sym step ∙ l.invariant.3)

pub returns : goal.returns
unfolding room_for
returns c =
    let l = c.loop-k in
    let a = c.args in
    let h = held_in a.held.now in
    let n = c.held_count-n.ensures.0 in
    let z = past_end h l.k (omega (arith, c.loop-k-test.false, n)) in
    let all = past_end h c.held_count-n.result (omega (arith, n)) in
    (sym l.invariant.3 ∙ ap (room_for a.method a.code.now a.size) z ∙ sym all, omega (arith, n))
