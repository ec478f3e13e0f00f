use Rattle.std.proofs.Common.{◌≡◌, length, take}
use Rattle.case_kept.specs.Kept.{kept_words}
use Rattle.case_state.proofs.words_of.Given as goal

abbrev pub invariant-loop-i : goal.invariant-loop-i
invariant-loop-i g l = (length l.words ≡ g.row.N) × (take l.i l.words ≡ kept_words l.i l.kept l.first)
