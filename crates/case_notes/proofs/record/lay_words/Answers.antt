use Rattle.case_notes.specs.RecordLaws.{laid_none, laid_more}
use mathlib.Core.Path.{◌∙◌}
use Rattle.case_notes.proofs.record.lay_words.Goals as goal

pub loop-i-init : goal.loop-i-init
loop-i-init c = laid_none _ _ _

pub loop-i-preserved : goal.loop-i-preserved
loop-i-preserved c = let l = c.loop-i in c.write_word.ensures ∙ laid_more _ l.i _ _ _ _ c.word.ensures l.invariant
