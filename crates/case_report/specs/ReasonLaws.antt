-- The law of the table of reasons.
use Rattle.std.specs.Prelude.{◌≡◌, refl}
use Rattle.text.specs.Table.{table, row_text}
use Rattle.case_file.specs.declared.Reason.{Reason}
use Rattle.case_report.specs.Mistake.{in_words, reason_text}
use Rattle.case_report.specs.Reasons.{number_of, reasons, texts}

-- Each reason's row has its words.
pub reason_row : (r : Reason) → row_text (table (texts reasons)) (number_of r) ≡ reason_text r
unfolding in_words reason_text row_text table texts reasons
reason_row Reason.UnknownWord = refl
reason_row Reason.FieldMissing = refl
reason_row Reason.FieldTooMany = refl
reason_row Reason.NotANumber = refl
reason_row Reason.NotAWord = refl
reason_row Reason.NotAName = refl
reason_row Reason.NotABit = refl
reason_row Reason.NoSuchRegister = refl
reason_row Reason.NoSuchPredicate = refl
reason_row Reason.NoSuchSpecial = refl
reason_row Reason.NoSuchTransfer = refl
reason_row Reason.NoSuchItem = refl
reason_row Reason.LineTooLong = refl
reason_row Reason.BeforeFirstCase = refl
reason_row Reason.AfterOperation = refl
reason_row Reason.Repeated = refl
reason_row Reason.TooMuchCode = refl
reason_row Reason.TooMuchMemory = refl
reason_row Reason.PlaceOutside = refl
reason_row Reason.UnseenByte = refl
reason_row Reason.NoSuchInstruction = refl
reason_row Reason.NotARegister = refl
reason_row Reason.NotAPredicate = refl
reason_row Reason.NotASpecial = refl
reason_row Reason.NotAnOffset = refl
reason_row Reason.TooManyProducts = refl
reason_row Reason.TooManyHeld = refl
reason_row Reason.TooMuchRecord = refl
reason_row Reason.NoSuchVector = refl
reason_row Reason.TooManyInterrupts = refl
reason_row Reason.TooMuchReplay = refl
