use Rattle.case_kept.specs.KeptLaws.{put_none, put_more}
use mathlib.Core.Path.{refl, ◌∙◌}
use Rattle.case_state.proofs.keep_predicates.Goals as goal

pub loop-i-init : goal.loop-i-init
loop-i-init c = put_none _ _ _

pub loop-i-preserved : goal.loop-i-preserved
loop-i-preserved c = let l = c.loop-i in c.keep_flag.ensures ∙ put_more 56 l.i _ _ _ _ l.kept refl refl l.invariant
