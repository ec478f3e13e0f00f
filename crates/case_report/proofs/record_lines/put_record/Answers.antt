use Rattle.std.specs.Prelude.{◌≡◌, ◌/◌, length}
use Rattle.std.proofs.Common.{arith, ne_eqb}
use Rattle.text.specs.PageLaws.{puts_then}
use Rattle.case_report.specs.ChangesLaws.{puts_no_texts, puts_texts}
use Rattle.case_report.specs.RecordLines.{record_text}
use Rattle.case_report.proofs.record_lines.put_record.Goals as goal

pub loop-k-init : goal.loop-k-init
loop-k-init c = puts_no_texts _ _

pub loop-k-preserved : goal.loop-k-preserved
loop-k-preserved c = let l = c.loop-k in puts_texts _ _ _ _ l.k l.invariant c.put_record_word.ensures

pub returns : goal.returns
unfolding record_text
returns c = let l = c.loop-k in
    let e : l.k ≡ length c.args.bytes.now / 4 = omega arith in
    rw (ne_eqb _ _ c.if-words-eq0.false, ← e) (puts_then _ _ _ _ _ l.invariant c.put_byte.ensures)
