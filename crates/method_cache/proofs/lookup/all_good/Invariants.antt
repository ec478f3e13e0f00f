use mathlib.Core.Path.{◌≡◌}
use lib.ListN.{drop}
use Rattle.method_cache.specs.MethodCache.{held_good}
use Rattle.method_cache.specs.Words.{held_in}
use Rattle.method_cache.proofs.lookup.all_good.Given as goal

abbrev pub invariant-loop-i : goal.invariant-loop-i
invariant-loop-i l = held_good l.method l.code (drop l.i (held_in l.held)) ≡ held_good l.method l.code (held_in l.held)
