use mathlib.Core.Path.{◌≡◌}
use Prim.Native.Nat.{◌+◌, ◌*◌, ◌≤◌}
use lib.ListN.{drop}
use Rattle.method_cache.specs.MethodCache.{bytes_held}
use Rattle.method_cache.specs.Words.{held_in}
use Rattle.method_cache.proofs.lookup.bytes_held.Given as goal

abbrev pub invariant-loop-i : goal.invariant-loop-i
invariant-loop-i l = (l.sum + bytes_held l.code (drop l.i (held_in l.held)) ≡ bytes_held l.code (held_in l.held)) × (l.sum ≤ l.i * 4294967295)
