use native.Mathlib.Omega.{arith}
use Prim.Native.Nat.{◌+◌}
use mathlib.Core.Path.{ap, ◌∙◌}
use lib.ListN.{get_or}
use Rattle.case_kept.specs.Clearing.{set_each}
use Rattle.case_kept.specs.ClearingLaws.{copied_in_front}
use Rattle.case_kept.proofs.clearing.fill_cache.Goals as goal

pub returns : goal.returns
returns c = let s = c.split_at_mut-cache.ensures in
    let m = c.args.cache.now in
    rw (c.copy_from_slice.ensures.after, s.front, s.back) (copied_in_front 513 c.min-end.result m (omega arith) (omega arith) ∙ ap (λ k. set_each 0 k (λ i. get_or c.args.cache.now (513 + i) 0) m) c.min-end.ensures)
