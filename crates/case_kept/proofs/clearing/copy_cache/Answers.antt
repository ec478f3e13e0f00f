use native.Mathlib.Omega.{arith}
use mathlib.Core.Path.{ap, ◌∙◌}
use lib.ListN.{get_or}
use Rattle.case_kept.specs.Clearing.{set_each}
use Rattle.case_kept.specs.ClearingLaws.{copied_behind}
use Rattle.case_kept.proofs.clearing.copy_cache.Goals as goal

pub returns : goal.returns
returns c = let s = c.split_at_mut-cache.ensures in
    let m = c.args.cache.now in
    rw (c.copy_from_slice.ensures.after, s.front, s.back) (copied_behind 513 c.min-end.result m (omega arith) (omega arith) ∙ ap (λ k. set_each 513 k (λ i. get_or c.args.cache.now i 0) m) c.min-end.ensures)
