use Prim.Native.Nat.{ℕ}
use lib.ListN.{length}
use native.Mathlib.Omega.{arith}
use mathlib.Core.Path.{◌≡◌, ap, ◌∙◌}
use Rattle.case_report.specs.RecordLines.{filled_to}
use Rattle.case_report.specs.RecordLinesLaws.{filled_none, filled_more}
use Rattle.case_report.proofs.record_lines.filled.Goals as goal

pub loop-b-init : goal.loop-b-init
loop-b-init c = (omega arith, omega arith, filled_none _)

pub counted_with-n-requires : goal.counted_with-n-requires
counted_with-n-requires c = omega (arith, c.loop-b.invariant.0)

pub loop-b-preserved : goal.loop-b-preserved
loop-b-preserved c = let l = c.loop-b in
    (omega (arith, c.counted_with-n.ensures.1, l.invariant.0), omega arith, filled_more _ _ l.b-index _ l.invariant.2 c.counted_with-n.ensures.0)

pub returns : goal.returns
returns c = let l = c.loop-b in
    let s = c.args.bytes.now in
    let e : l.b-index ≡ length s = omega arith in
    l.invariant.2 ∙ ap (λ (k : ℕ). filled_to k s) e
