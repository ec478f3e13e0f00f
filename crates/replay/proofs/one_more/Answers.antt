use Prim.Native.Nat.{◌+◌}
use mathlib.Core.Bool.{Bool, cond}
use mathlib.Core.Path.{sym, ap}
use borrow.Author.Tests.{lt-ltb, le-ltb}
use Rattle.replay.specs.Replay.{one_more}
use Rattle.replay.proofs.one_more.Goals as goal

pub returns-then-done-lt4294967295 : goal.returns-then-done-lt4294967295
unfolding one_more
returns-then-done-lt4294967295 c = sym (ap (λ (t : Bool). cond t (c.args.done + 1) c.args.done) (lt-ltb _ _ c.if-done-lt4294967295.true))

pub returns : goal.returns
unfolding one_more
returns c = sym (ap (λ (t : Bool). cond t (c.args.done + 1) c.args.done) (le-ltb _ _ c.if-done-lt4294967295.false))
