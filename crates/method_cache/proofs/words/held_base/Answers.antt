use Rattle.method_cache.proofs.WordLaws.{held_at, held_few}
use mathlib.Core.Path.{sym, ap, ◌∙◌}
use native.Mathlib.Omega.{arith}
use native.Mathlib.Numerals.{add-one}
use Prim.Native.Nat.{ℕ}
use lib.ListN.{get_or, get_or-eq_default}
use Rattle.method_cache.specs.Words.{held_in}
use Rattle.method_cache.proofs.words.held_base.Goals as goal

pub returns-then-n-at : goal.returns-then-n-at
returns-then-n-at c = sym (get_or-eq_default (held_in c.args.held.now) 0 (omega (arith, c.held_count-n.ensures.0, c.if-n-at.true)))

pub bounds-held-at : goal.bounds-held-at
bounds-held-at c = omega (arith, c.held_count-n.ensures.0, held_few c.args.held.now c.held_count-n.ensures.1, c.if-n-at.false)

pub returns : goal.returns
returns c = let a = c.args in ap (λ (i : ℕ). get_or a.held.now i 0) (add-one a.at) ∙ sym (held_at a.held.now a.at (omega (arith, c.held_count-n.ensures.0, c.if-n-at.false)))
