use Rattle.std.specs.Prelude.{◌≡◌, ◌+◌, ◌/◌, length}
use Rattle.std.proofs.Common.{arith}
use Rattle.case_report.specs.Changes.{word_changes}
use Rattle.case_report.specs.ChangesLaws.{puts_no_texts, puts_texts}
use Rattle.case_report.proofs.changes.put_words.Goals as goal

pub loop-k-init : goal.loop-k-init
loop-k-init c = puts_no_texts _ _

pub loop-k-preserved : goal.loop-k-preserved
loop-k-preserved c = let l = c.loop-k in puts_texts _ _ _ _ l.k l.invariant c.put_if_changed.ensures

pub returns : goal.returns
unfolding word_changes
returns c = let l = c.loop-k in
    let e : l.k ≡ length c.args.after.now / 4 + 1 = omega arith in
    rw e at l.invariant
