use Rattle.std.proofs.lemmas.Grind.{common_steps}
use Rattle.std.proofs.Common.{rules}
use lib.ListN.{replicate}
use mathlib.Core.Path.{ap, ◌∙◌}
use native.Mathlib.Omega.{arith}
use Rattle.case_kept.specs.ClearingLaws.{zeros_behind}
use Rattle.case_kept.proofs.clearing.clear_cache_copy.Goals as goal

pub returns : goal.returns
returns c = zeros_behind 513 513 c.args.cache.now c.fill.new.self (omega arith) (c.fill.ensures.after (λ y p. search rules) ∙ ap (λ k. replicate k 0) {y = 513} (grind (arith, common_steps)))
