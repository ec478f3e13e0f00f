use Rattle.std.proofs.Common.{◌≡◌, false, get_or}
use Rattle.case_kept.specs.Kept.{flag, put_each}
use Rattle.case_state.proofs.keep_predicates.Given as goal

abbrev pub invariant-loop-i : goal.invariant-loop-i
invariant-loop-i l = l.kept ≡ put_each 56 l.i (λ j. flag (get_or l.predicates j false)) l.initial.kept
