use mathlib.Core.Path.{refl, sym}
use Prim.Native.Nat.{◌-◌}
use borrow.Rule.Slice.PartMut.{Post-is, put_same}
use Rattle.stack_cache.specs.Stack.{below, above, spilled, filled}
use borrow.Author.Rules.{rules}
use Rattle.bundle.proofs.stack_moves.move_words.Goals as goal

pub shape_of-cache-then-filled-eq0 : goal.shape_of-cache-then-filled-eq0
shape_of-cache-then-filled-eq0 c = refl

pub returns-then-filled-eq0 : goal.returns-then-filled-eq0
unfolding below above spilled filled
returns-then-filled-eq0 c = let a = c.before in record { memory = rw (c.spill.ensures, Post-is a.args.lo a.args.hi a.args.main.now a.requires.0); words = rw c.if-filled-eq0.true }

pub shape_of-main : goal.shape_of-main
shape_of-main c = refl

pub returns : goal.returns
unfolding below above spilled filled
returns c = let a = c.before in let z = a.requires.2 c.if-filled-eq0.false in record { memory = rw (z, ← Post-is a.args.lo a.args.hi a.args.main.now a.requires.0) (sym (put_same a.args.lo (a.args.hi - a.args.lo) a.args.main.now)); words = c.fill.ensures }
