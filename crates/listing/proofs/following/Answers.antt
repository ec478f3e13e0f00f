use native.Mathlib.Omega.{arith}
use Rattle.decoder.specs.Decode.{bundle_words}
use Rattle.decoder.specs.DecodeLaws.{words_two}
use Rattle.listing.proofs.following.Goals as goal

pub returns-then-bundle_words-eq1 : goal.returns-then-bundle_words-eq1
returns-then-bundle_words-eq1 c = (rw (← c.read_word.ensures, ← c.bundle_words.ensures, c.if-bundle_words-eq1.true), omega arith)

pub returns : goal.returns
unfolding bundle_words
returns c = (rw (← c.read_word.ensures, words_two c.read_word.result (rw c.bundle_words.ensures at c.if-bundle_words-eq1.false)), omega arith)
