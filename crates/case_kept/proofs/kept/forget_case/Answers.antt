use Rattle.std.proofs.Common.{rules}
use Rattle.std.proofs.lemmas.Grind.{common_steps}
use native.Mathlib.Omega.{arith}
use mathlib.Core.Path.{ap, ◌∙◌}
use lib.ListN.{set, replicate}
use Rattle.case_kept.specs.Kept.{forgotten}
use Rattle.case_kept.specs.KeptLaws.{put_each_set}
use Rattle.case_kept.specs.ClearingLaws.{zeros_in_front}
use Rattle.case_kept.proofs.kept.forget_case.Goals as goal

pub returns : goal.returns
unfolding forgotten
returns c =
    let zeros = c.fill.ensures.after (λ y p. search rules) ∙ ap (λ k. replicate k 0) {y = 301} (grind (arith, common_steps)) in
    ap (λ m. set (set (set m 3 16) 56 1) 152400 0) (zeros_in_front 301 c.args.kept.now c.fill.new.self (omega arith) zeros ∙ put_each_set 0 301 (λ i. 0) c.args.kept.now (omega arith))
