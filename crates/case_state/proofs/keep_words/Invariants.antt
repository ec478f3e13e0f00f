use Rattle.std.proofs.Common.{◌≡◌, get_or}
use Rattle.case_kept.specs.Kept.{put_each}
use Rattle.case_state.proofs.keep_words.Given as goal

abbrev pub invariant-loop-i : goal.invariant-loop-i
invariant-loop-i l = l.kept ≡ put_each l.first l.i (λ j. get_or l.words j 0) l.initial.kept
