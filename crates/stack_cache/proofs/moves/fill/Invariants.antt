use Prim.Native.Nat.{◌-◌}
use mathlib.Core.Path.{◌≡◌}
use lib.ListN.{length}
use Rattle.stack_cache.specs.Stack.{above, filled}
use Rattle.stack_cache.proofs.moves.fill.Given as goal

abbrev pub invariant-loop : goal.invariant-loop
invariant-loop l = (length l.cache ≡ length l.initial.cache) × (filled l.area l.lo l.cache (above (l.words - l.counter) l.a) ≡ filled l.area l.lo l.initial.cache (above l.words l.ss))
