use mathlib.Core.Path.{◌≡◌}
use lib.ListN.{drop}
use Rattle.method_cache.specs.MethodCache.{is_held}
use Rattle.method_cache.specs.Words.{held_in}
use Rattle.method_cache.proofs.lookup.is_held.Given as goal

abbrev pub invariant-loop-i : goal.invariant-loop-i
invariant-loop-i l = is_held l.base (drop l.i (held_in l.held)) ≡ is_held l.base (drop l.from (held_in l.held))
