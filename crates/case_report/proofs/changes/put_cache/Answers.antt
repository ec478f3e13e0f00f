use Rattle.std.specs.Prelude.{◌≡◌, min}
use Rattle.std.proofs.Common.{arith}
use Rattle.case_report.specs.Changes.{cache_changes}
use Rattle.case_report.specs.ChangesLaws.{puts_no_texts, puts_texts}
use Rattle.case_report.proofs.changes.put_cache.Goals as goal

pub loop-k-init : goal.loop-k-init
loop-k-init c = puts_no_texts _ _

pub loop-k-preserved : goal.loop-k-preserved
loop-k-preserved c = let l = c.loop-k in puts_texts _ _ _ _ l.k l.invariant c.put_cache_word.ensures

pub returns : goal.returns
unfolding cache_changes
returns c = let l = c.loop-k in
    let e : l.k ≡ min c.args.n 513 = omega arith in
    rw e at l.invariant
