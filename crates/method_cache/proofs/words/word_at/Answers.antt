use mathlib.Core.Path.{refl, ap}
use native.Mathlib.Omega.{arith}
use native.Mathlib.Numerals.{add-one}
use Prim.Native.Nat.{ℕ, ◌+◌}
use lib.ListN.{get_or}
use borrow.Author.Tests.{lt-ltb, le-ltb}
use Rattle.method_cache.proofs.words.word_at.Goals as goal

pub overflow_add-result : goal.overflow_add-result
overflow_add-result c = omega (arith, c.if-at-stay.true, c.requires)

pub bounds-held-from : goal.bounds-held-from
bounds-held-from c = omega (arith, c.if-at-stay.true, c.requires)

pub returns-then-at-stay : goal.returns-then-at-stay
returns-then-at-stay c = let a = c.args in rw (lt-ltb _ _ c.if-at-stay.true) (ap (λ (i : ℕ). get_or a.held.now i 0) (add-one (a.from + a.at)))

pub returns-then-more-at : goal.returns-then-more-at
returns-then-more-at c = rw (le-ltb _ _ c.if-at-stay.false, c.if-more-at.true) refl

pub returns : goal.returns
returns c = rw (le-ltb _ _ c.if-at-stay.false, c.if-more-at.false) refl
