use mathlib.Core.Path.{ap, ◌∙◌}
use mathlib.Core.List.{append-nil}
use native.Mathlib.Omega.{arith}
use Rattle.method_cache.specs.Words.{held_in, held_words}
use Rattle.method_cache.proofs.words.tidy.Goals as goal

pub settle-requires : goal.settle-requires
settle-requires c = omega arith

pub returns : goal.returns
returns c = (c.settle.ensures.0 ∙ ap held_words (append-nil (held_in c.args.held.now)), c.settle.ensures.1)
