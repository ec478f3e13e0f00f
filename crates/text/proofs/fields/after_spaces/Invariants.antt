use Prim.Native.Nat.{◌≤◌, ◌+◌}
use mathlib.Core.Path.{◌≡◌}
use lib.ListN.{length, drop}
use Rattle.text.specs.Field.{spaces}
use Rattle.text.proofs.fields.after_spaces.Given as goal

abbrev pub invariant-loop-i : goal.invariant-loop-i
invariant-loop-i l = (l.a ≤ l.i) × (l.i ≤ length l.line) × (l.i + spaces (drop l.i l.line) ≡ l.a + spaces (drop l.a l.line))
