use mathlib.Core.Path.{◌≡◌}
use Prim.Native.Nat.{◌≤◌}
use lib.ListN.{length, drop}
use Rattle.method_cache.specs.MethodCache.{bytes_held, room_for}
use Rattle.method_cache.specs.Words.{held_in}
use Rattle.method_cache.proofs.lookup.evicted.Given as goal

abbrev pub invariant-loop-k : goal.invariant-loop-k
invariant-loop-k l = (l.k ≤ length (held_in l.held)) × (l.bytes ≡ bytes_held l.code (drop l.k (held_in l.held))) × (l.bytes ≤ 68719476720) × (room_for l.method l.code l.size (drop l.k (held_in l.held)) ≡ room_for l.method l.code l.size (held_in l.held))
