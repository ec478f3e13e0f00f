use mathlib.Core.Path.{refl, sym}
use native.Mathlib.Omega.{arith}
use native.Mathlib.Nat.{add-zero}
use Rattle.method_cache.proofs.WordLaws.{held_few, settling_none, settling_more, settling_all}
use Rattle.method_cache.proofs.words.settle.Goals as goal

pub overflow_sub-stay : goal.overflow_sub-stay
overflow_sub-stay c = omega (arith, c.held_count.ensures.0, c.before.requires)

pub loop-i-init : goal.loop-i-init
loop-i-init c = (omega (arith, c.held_count.ensures.0, c.before.requires), settling_none _ _ _ _ _ _ c.held_count.ensures.1)

pub word_at-w-requires : goal.word_at-w-requires
word_at-w-requires c = omega (arith, c.loop-i.invariant.0, held_few c.before.before.args.held.now c.held_count.ensures.1)

pub bounds-held-i : goal.bounds-held-i
bounds-held-i c = omega (arith, c.loop-i-test.true)

pub loop-i-preserved : goal.loop-i-preserved
loop-i-preserved c = let l = c.loop-i in (l.invariant.0, settling_more _ _ _ _ _ l.invariant.0 l.held l.i _ _ l.invariant.1 c.loop-i-test.true refl c.word_at-w.ensures)

pub overflow_add-held-then-more : goal.overflow_add-held-then-more
overflow_add-held-then-more c = omega (arith, held_few c.before.args.held.now c.held_count.ensures.1, c.held_count.ensures.0)

pub bounds-held-0 : goal.bounds-held-0
bounds-held-0 c = omega arith

pub returns-then-more : goal.returns-then-more
returns-then-more c = let l = c.loop-i in (settling_all _ _ _ _ _ l.invariant.0 l.held l.i _ l.invariant.1 c.loop-i-test.false (rw c.if-more.true refl), c.held_count.ensures.1)

pub bounds-held-0-2 : goal.bounds-held-0-2
bounds-held-0-2 c = omega arith

pub returns : goal.returns
returns c = let l = c.loop-i in (settling_all _ _ _ _ _ l.invariant.0 l.held l.i _ l.invariant.1 c.loop-i-test.false (rw c.if-more.false (sym (add-zero _))), c.held_count.ensures.1)
