use Rattle.word.specs.WordLaws.{product_double_word}
use Rattle.fields.specs.GrowLaws.{grown_fits}
use Rattle.fields.proofs.place.grow.Goals as goal

pub overflow_mul-result : goal.overflow_mul-result
overflow_mul-result c = record { fits = product_double_word _ _ c.ranges.n.fits c.ranges.place.fits }

pub overflow_add-result : goal.overflow_add-result
overflow_add-result c = record { fits = grown_fits _ _ _ c.ranges.w.fits c.ranges.n.fits c.ranges.place.fits }
