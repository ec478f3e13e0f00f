use native.Mathlib.Omega.{arith}
use Prim.Native.Nat.{◌-◌}
use mathlib.Core.Path.{◌≡◌, ap, ◌∙◌}
use Rattle.big_endian.specs.Bytes.{word_at}
use Rattle.method_cache.specs.MethodCache.{size_at}
use Rattle.method_cache.proofs.lookup.size_at.Goals as goal

pub returns-then-base-lt4 : goal.returns-then-base-lt4
unfolding size_at
returns-then-base-lt4 c = let z : 0 ≡ c.args.base - 4 = omega (arith, c.if-base-lt4.true) in c.read_word.ensures ∙ ap (word_at c.args.code.now) z

pub returns : goal.returns
unfolding size_at
returns c = c.read_word-2.ensures
