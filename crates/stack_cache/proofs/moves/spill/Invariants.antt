use Prim.Native.Nat.{◌-◌}
use mathlib.Core.Path.{◌≡◌}
use lib.ListN.{length}
use Rattle.stack_cache.specs.Stack.{below, spilled}
use Rattle.stack_cache.proofs.moves.spill.Given as goal

abbrev pub invariant-loop : goal.invariant-loop
invariant-loop l = (length l.area ≡ length l.initial.area) × (spilled l.cache l.lo l.area (below (l.words - l.counter) l.end) ≡ spilled l.cache l.lo l.initial.area (below l.words l.ss))
