use Prim.Native.Nat.{◌+◌, ◌*◌, ◌-◌}
use mathlib.Core.Path.{◌≡◌}
use native.Mathlib.Omega.{arith}
use Rattle.text.specs.PageLaws.{puts_then}
use Rattle.case_report.specs.RecordLines.{record_word}
use Rattle.case_report.proofs.record_lines.put_record_word.Goals as goal

pub returns : goal.returns
unfolding record_word
returns c = let k = c.args.k in
    let e : 4 * k + 4 - 4 * k ≡ 4 = omega arith in
    puts_then _ _ _ _ _ c.put_lead.ensures (rw e at c.put_bytes.ensures)
