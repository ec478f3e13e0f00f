use borrow.Author.Tests.{ne_eqb}
use mathlib.Core.Path.{◌≡◌, sym, ap, ◌∙◌}
use mathlib.Core.Bool.{true, false}
use Rattle.text.specs.Field.{same_bytes}
use Rattle.text.specs.FieldLaws.{same_pointwise}
use Rattle.case_words.specs.Names.{bytes}
use Rattle.case_file.specs.Arguments.{bytes_of}
use Rattle.assembler.specs.Reading.{after_first}
use Rattle.assembler.proofs.reading.after_first.Goals as goal

pub returns-then-eq : goal.returns-then-eq
unfolding after_first
returns-then-eq c =
    let told : same_bytes (bytes_of c.args.line.now c.next_field-f.result) (bytes ";") ≡ true = ap (same_bytes (bytes_of c.args.line.now c.next_field-f.result)) (sym c.as_slice.ensures) ∙ sym (same_pointwise _ _) ∙ sym c.eq.ensures ∙ c.if-eq.true in
    rw (← c.next_field-f.ensures.0, ne_eqb _ _ c.if-start-end.false, told) c.second_read.ensures

pub returns : goal.returns
unfolding after_first
returns c =
    let told : same_bytes (bytes_of c.args.line.now c.next_field-f.result) (bytes ";") ≡ false = ap (same_bytes (bytes_of c.args.line.now c.next_field-f.result)) (sym c.as_slice.ensures) ∙ sym (same_pointwise _ _) ∙ sym c.eq.ensures ∙ c.if-eq.false in
    rw (← c.next_field-f.ensures.0, ne_eqb _ _ c.if-start-end.false, told)
