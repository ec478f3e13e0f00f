-- The fields of a line after its first word, read one after the other.
use Rattle.std.specs.Prelude.{ℕ, ◌-◌, Option, Some, None, Result, Ok, Err, Bool, cond, List, take, drop, eqb}
use Rattle.text.specs.declared.Field.{Field}
use Rattle.text.specs.Field.{field_from}
use Rattle.text.specs.Number.{decimal_of, word_of}
use Rattle.case_file.specs.declared.Reason.{Reason}
use Rattle.case_file.specs.declared.Reason.TheVariants.{FieldMissing, NotANumber, NotAWord, NoSuchItem}
use Rattle.case_words.specs.Names.{item_of}
use Rattle.case_words.specs.declared.Item.{Item}

abbrev pub is_empty : Field → Bool
is_empty f = eqb f.start f.end

-- The bytes of a field.
abbrev pub bytes_of : List ℕ → Field → List ℕ
bytes_of line f = take (f.end - f.start) (drop f.start line)

-- Whether no field is left from a position on.
unfoldable pub is_end : List ℕ → ℕ → Bool
is_end line at = is_empty (field_from line at)

abbrev pub value_or : {A : Type 0} → Reason → Option A → ℕ → Result (A × ℕ) Reason
value_or reason (Some n) next = Ok (n, next)
value_or reason None next = Err reason

-- The next field from a position on, read as a number, and the position after it; or why it is a mistake.
unfoldable pub argument_at : (List ℕ → Option ℕ) → Reason → List ℕ → ℕ → Result (ℕ × ℕ) Reason
argument_at read reason line at =
    let f = field_from line at in
    cond (is_empty f) (Err FieldMissing) (value_or reason (read (bytes_of line f)) f.end)

abbrev pub number_field : List ℕ → ℕ → Result (ℕ × ℕ) Reason
number_field = argument_at decimal_of NotANumber

abbrev pub word_field : List ℕ → ℕ → Result (ℕ × ℕ) Reason
word_field = argument_at word_of NotAWord

abbrev pub some_entry : {A : Type 0} → Result (A × ℕ) Reason → Result (Option (A × ℕ)) Reason
some_entry (Ok entry) = Ok (Some entry)
some_entry (Err r) = Err r

-- The next entry of a code line: nothing at its end.
unfoldable pub code_entry : List ℕ → ℕ → Result (Option (ℕ × ℕ)) Reason
code_entry line at = cond (is_end line at) (Ok None) (some_entry (word_field line at))

-- The next entry of a held line: its bases are numbers.
unfoldable pub held_entry : List ℕ → ℕ → Result (Option (ℕ × ℕ)) Reason
held_entry line at = cond (is_end line at) (Ok None) (some_entry (number_field line at))

-- The next entry of a private line.
unfoldable pub private_entry : List ℕ → ℕ → Result (Option (Item × ℕ)) Reason
private_entry line at =
    let f = field_from line at in
    cond (is_empty f) (Ok None) (some_entry (value_or NoSuchItem (item_of (bytes_of line f)) f.end))
