use mathlib.Core.Path.{refl}
use Rattle.text.specs.Field.{is_name_byte}
use Rattle.text.proofs.fields.is_name_byte.Goals as goal

pub returns : goal.returns
unfolding is_name_byte
returns c = refl
