-- The reasons as a table with a row for each.
use Rattle.std.specs.Prelude.{ℕ, List, [], ◌∷◌}
use Rattle.case_file.specs.declared.Reason.{Reason}
use Rattle.case_report.specs.Mistake.{reason_text}

-- The row of a reason.
abbrev pub number_of : Reason → ℕ
number_of Reason.UnknownWord = 0
number_of Reason.FieldMissing = 1
number_of Reason.FieldTooMany = 2
number_of Reason.NotANumber = 3
number_of Reason.NotAWord = 4
number_of Reason.NotAName = 5
number_of Reason.NotABit = 6
number_of Reason.NoSuchRegister = 7
number_of Reason.NoSuchPredicate = 8
number_of Reason.NoSuchSpecial = 9
number_of Reason.NoSuchTransfer = 10
number_of Reason.NoSuchItem = 11
number_of Reason.LineTooLong = 12
number_of Reason.BeforeFirstCase = 13
number_of Reason.AfterOperation = 14
number_of Reason.Repeated = 15
number_of Reason.TooMuchCode = 16
number_of Reason.TooMuchMemory = 17
number_of Reason.PlaceOutside = 18
number_of Reason.UnseenByte = 19
number_of Reason.NoSuchInstruction = 20
number_of Reason.NotARegister = 21
number_of Reason.NotAPredicate = 22
number_of Reason.NotASpecial = 23
number_of Reason.NotAnOffset = 24
number_of Reason.TooManyProducts = 25
number_of Reason.TooManyHeld = 26
number_of Reason.TooMuchRecord = 27
number_of Reason.NoSuchVector = 28
number_of Reason.TooManyInterrupts = 29
number_of Reason.TooMuchReplay = 30

-- All reasons, in the order of their rows.
unfoldable pub reasons : List Reason
reasons =
    Reason.UnknownWord
    ∷ Reason.FieldMissing
    ∷ Reason.FieldTooMany
    ∷ Reason.NotANumber
    ∷ Reason.NotAWord
    ∷ Reason.NotAName
    ∷ Reason.NotABit
    ∷ Reason.NoSuchRegister
    ∷ Reason.NoSuchPredicate
    ∷ Reason.NoSuchSpecial
    ∷ Reason.NoSuchTransfer
    ∷ Reason.NoSuchItem
    ∷ Reason.LineTooLong
    ∷ Reason.BeforeFirstCase
    ∷ Reason.AfterOperation
    ∷ Reason.Repeated
    ∷ Reason.TooMuchCode
    ∷ Reason.TooMuchMemory
    ∷ Reason.PlaceOutside
    ∷ Reason.UnseenByte
    ∷ Reason.NoSuchInstruction
    ∷ Reason.NotARegister
    ∷ Reason.NotAPredicate
    ∷ Reason.NotASpecial
    ∷ Reason.NotAnOffset
    ∷ Reason.TooManyProducts
    ∷ Reason.TooManyHeld
    ∷ Reason.TooMuchRecord
    ∷ Reason.NoSuchVector
    ∷ Reason.TooManyInterrupts
    ∷ Reason.TooMuchReplay
    ∷ []

unfoldable pub texts : List Reason → List (List ℕ)
texts [] = []
texts (r ∷ rs) = reason_text r ∷ texts rs
