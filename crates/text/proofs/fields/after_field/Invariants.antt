use Prim.Native.Nat.{◌≤◌, ◌+◌}
use mathlib.Core.Path.{◌≡◌}
use lib.ListN.{length, drop}
use Rattle.text.specs.Field.{field_length}
use Rattle.text.proofs.fields.after_field.Given as goal

abbrev pub invariant-loop-i : goal.invariant-loop-i
invariant-loop-i l = (l.a ≤ l.i) × (l.i ≤ length l.line) × (l.i + field_length (drop l.i l.line) ≡ l.a + field_length (drop l.a l.line))
