use native.Mathlib.Omega.{arith}
use Rattle.method_cache.proofs.WordLaws.{held_length}
use Rattle.method_cache.proofs.words.held_count.Goals as goal

pub returns-then-n-gt16 : goal.returns-then-n-gt16
returns-then-n-gt16 c = let e = c.seventeen.ensures in (omega (arith, held_length c.args.held.now e, c.if-n-gt16.true), e)

pub returns : goal.returns
returns c = let e = c.seventeen.ensures in (omega (arith, held_length c.args.held.now e, c.if-n-gt16.false), e)
