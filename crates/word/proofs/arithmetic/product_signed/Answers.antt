use Rattle.std.proofs.Common.{w64}
use mir.ValLaws.{to_z-of_z}
use Rattle.word.specs.Word.{product_signed}
use Rattle.word.specs.WordLaws.{product_fits}
use Rattle.word.proofs.Signs.{widened}
use Rattle.word.proofs.arithmetic.product_signed.Goals as goal

pub returns : goal.returns
unfolding product_signed
returns c = let x = c.signed in
    let y = c.signed-2 in
    let fits = product_fits x.result y.result x.type_inv y.type_inv in
    rw (c.cast_unsigned.ensures, c.from.ensures, c.from-2.ensures, widened x.result x.type_inv, widened y.result y.type_inv, to_z-of_z w64 _ fits, x.ensures, y.ensures)
