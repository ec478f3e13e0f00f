use Rattle.text.specs.Field.{field_from}
use Rattle.text.proofs.fields.next_field.Goals as goal

pub returns : goal.returns
unfolding field_from
returns c = (rw (← c.min.ensures, ← c.after_spaces-start.ensures.0, ← c.after_field-end.ensures.0), c.after_field-end.ensures.1, c.after_field-end.ensures.2)
