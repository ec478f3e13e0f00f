use Rattle.std.proofs.Common.{sym}
use Rattle.text.specs.PageLaws.{leaves_less, leaves_equal, leaves_none}
use Rattle.text.specs.TableLaws.{row_over, row_ends, row_next, row_more, row_past}
use Rattle.text.proofs.page.Page.put_row.Goals as goal
use Rattle.text.proofs.page.Page.put_row.Goals.{then-b-eq10+else-left-eq0, else-b-eq10+then-left-eq0-2, else-b-eq10+else-left-eq0-2}

pub returns-then-left-eq0 : goal.returns-then-left-eq0
returns-then-left-eq0 c = let l = c.loop-b in
    leaves_none _ _ _ _ l.invariant (row_ends _ l.left l.b-index c.loop-b-test.true c.if-b-eq10.true c.if-left-eq0.true)

pub loop-b-preserved : goal.loop-b-preserved
loop-b-preserved c = let l = c.loop-b in
    let h = c.loop-b-test.true in
    elim c.if-b-eq10.branch [
      | then-b-eq10+else-left-eq0 w ↦ rw (w.self-is, w.left-is) (leaves_equal _ _ _ _ _ l.invariant (sym (row_next _ l.left l.b-index h w.if-b-eq10.true w.if-left-eq0.false)))
      | else-b-eq10+then-left-eq0-2 w ↦ rw (w.self-is, w.left-is) (leaves_less _ _ _ _ _ _ _ l.invariant (row_more _ l.left l.b-index h w.if-b-eq10.false w.if-left-eq0-2.true) w.put_byte.ensures)
      | else-b-eq10+else-left-eq0-2 w ↦ rw (w.self-is, w.left-is) (leaves_equal _ _ _ _ _ l.invariant (sym (row_past _ l.left l.b-index h w.if-b-eq10.false w.if-left-eq0-2.false)))
    ]

pub returns : goal.returns
returns c = let l = c.loop-b in leaves_none _ _ _ _ l.invariant (row_over _ l.left l.b-index c.loop-b-test.false)
