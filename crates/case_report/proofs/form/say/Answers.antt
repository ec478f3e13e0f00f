use Rattle.std.proofs.Common.{arith}
use Rattle.text.specs.PageLaws.{leaves_less, leaves_none}
use Rattle.case_report.specs.FormLaws.{fill_more, fill_over}
use Rattle.case_report.proofs.form.say.Goals as goal

pub loop-b-preserved : goal.loop-b-preserved
loop-b-preserved c = let l = c.loop-b in record {
  near = omega (arith, l.invariant.near, c.next_number-k.ensures.1);
  left = leaves_less _ _ _ _ _ _ _ l.invariant.left (rw (c.nth.ensures, c.next_number-k.ensures.0) (fill_more _ _ l.b-index l.k c.loop-b-test.true)) c.put_shown.ensures;
}

pub returns : goal.returns
returns c = let l = c.loop-b in leaves_none _ _ _ _ l.invariant.left (fill_over _ _ l.b-index c.loop-b-test.false)
