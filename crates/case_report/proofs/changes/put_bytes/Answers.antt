use Rattle.text.specs.PageLaws.{leaves_less, leaves_none}
use Rattle.case_report.specs.ChangesLaws.{bytes_more, bytes_over}
use Rattle.case_report.proofs.changes.put_bytes.Goals as goal

pub loop-b-preserved : goal.loop-b-preserved
loop-b-preserved c = let l = c.loop-b in
    leaves_less _ _ _ _ _ _ _ l.invariant (bytes_more _ l.b-index c.loop-b-test.true) c.put_two_digits.ensures

pub returns : goal.returns
returns c = let l = c.loop-b in leaves_none _ _ _ _ l.invariant (bytes_over _ l.b-index c.loop-b-test.false)
