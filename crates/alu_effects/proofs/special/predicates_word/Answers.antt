use Rattle.alu_effects.specs.AluEffectLaws.{word_of_eight}
use mathlib.Core.Path.{◌≡◌}
use lib.ListN.{length}
use borrow.Author.Rules.{rules}
use Rattle.alu_effects.proofs.special.predicates_word.Goals as goal

pub returns : goal.returns
returns c = let p = c.args.p in let n : length p ≡ 8 = search rules in rw (word_of_eight p n, c.bit-5.ensures.0, c.bit-6.ensures.0, c.bit-7.ensures.0, c.bit-8.ensures.0, c.bit.ensures.0, c.bit-2.ensures.0, c.bit-3.ensures.0, c.bit-4.ensures.0)
