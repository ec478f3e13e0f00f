use Prim.Native.Nat.{◌≤◌}
use lib.ListN.{length}
use mathlib.Core.Path.{◌≡◌}
use Rattle.case_report.specs.RecordLines.{filled_to}
use Rattle.case_report.proofs.record_lines.filled.Given as goal

abbrev pub invariant-loop-b : goal.invariant-loop-b
invariant-loop-b l = (l.n ≤ l.b-index) × (l.b-index ≤ length l.bytes) × (l.n ≡ filled_to l.b-index l.bytes)
