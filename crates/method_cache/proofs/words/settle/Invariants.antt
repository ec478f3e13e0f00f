use mathlib.Core.Path.{◌≡◌}
use Prim.Native.Nat.{◌+◌}
use lib.ListN.{length}
use Rattle.method_cache.specs.Words.{held_in}
use Rattle.method_cache.proofs.WordLaws.{Settling}
use Rattle.method_cache.proofs.words.settle.Given as goal

abbrev pub invariant-loop-i : goal.invariant-loop-i
invariant-loop-i l = (all : l.from + l.stay ≡ length (held_in l.initial.held)) × Settling l.initial.held l.from l.stay l.more l.base all l.held l.i
