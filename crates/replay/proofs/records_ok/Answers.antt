use mathlib.Core.Path.{sym, ◌∙◌}
use Rattle.replay.specs.ReplayLaws.{records_wrong, records_right, records_end, records_all}
use Rattle.replay.proofs.records_ok.Goals as goal

pub loop-i-init : goal.loop-i-init
loop-i-init c = records_all _ _

pub returns-then-vector-number : goal.returns-then-vector-number
returns-then-vector-number c =
    let l = c.loop-i in
    sym (sym l.invariant ∙ records_wrong _ _ l.i l.least _ _ c.word_at-number.ensures c.word_at-vector.ensures c.loop-i-test.true c.if-vector-number.true)

pub loop-i-preserved : goal.loop-i-preserved
loop-i-preserved c =
    let l = c.loop-i in
    sym (records_right _ _ l.i l.least _ _ c.word_at-number.ensures c.word_at-vector.ensures c.loop-i-test.true c.if-vector-number.false) ∙ l.invariant

pub returns : goal.returns
returns c =
    let l = c.loop-i in
    sym (sym l.invariant ∙ records_end _ _ l.i l.least c.loop-i-test.false)
