use Rattle.listing.specs.Listing.{has_second}
use Rattle.listing.proofs.has_second.Goals as goal

pub returns : goal.returns
unfolding has_second
returns c = rw (← c.read_word.ensures, ← c.bundle_words.ensures)
