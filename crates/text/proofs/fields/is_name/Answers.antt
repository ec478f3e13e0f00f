use Rattle.text.specs.Field.{is_name}
use Rattle.text.proofs.fields.is_name.Goals as goal

pub returns : goal.returns
unfolding is_name
returns c = rw (← c.are_name_bytes.ensures)
