use Rattle.decoder.specs.Decode.{bundle_words}
use Rattle.decoder.specs.DecodeLaws.{words_two}
use native.Mathlib.Omega.{arith}
use borrow.Author.Rules.{rules}
use Rattle.fetch.proofs.words_of.Goals as goal

pub returns : goal.returns
unfolding bundle_words
returns c = (rw (words_two c.args.first (rw c.bundle_words.ensures at c.if-bundle_words-eq1.false)), omega arith)
