use Rattle.std.proofs.Common.{◌≡◌, length, arith, refl, ◌∙◌}
use Rattle.case_kept.specs.KeptLaws.{put_none, put_more}
use Rattle.case_state.proofs.keep_words.Goals as goal

pub loop-i-init : goal.loop-i-init
loop-i-init c = put_none _ _ _

pub loop-i-preserved : goal.loop-i-preserved
loop-i-preserved c = let l = c.loop-i in c.keep_after.ensures ∙ put_more _ l.i _ _ _ _ l.kept refl c.from.ensures l.invariant

pub returns : goal.returns
returns c = let l = c.loop-i in
    let e : l.i ≡ length c.args.words.now = omega arith in
    rw e at l.invariant
