use native.Mathlib.Omega.{arith}
use mathlib.Core.Path.{ap, ◌∙◌}
use lib.ListN.{get_or}
use Rattle.case_kept.specs.Clearing.{set_each}
use Rattle.case_kept.specs.ClearingLaws.{copied_behind}
use Rattle.case_kept.proofs.clearing.copy_memory.Goals as goal

pub returns : goal.returns
returns c = let s = c.split_at_mut-memory.ensures in
    let m = c.args.memory.now in
    rw (c.copy_from_slice.ensures.after, s.front, s.back) (copied_behind 65536 c.min-end.result m (omega arith) (omega arith) ∙ ap (λ k. set_each 65536 k (λ i. get_or c.args.memory.now i 0) m) c.min-end.ensures)
