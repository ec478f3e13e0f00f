-- The last line of a report whose file has a mistake.
use Rattle.std.specs.Prelude.{ℕ, List, [], ◌∷◌, ◌++◌}
use Prim.Native.Char.{code}
use Prim.Native.String.{String}
use Rattle.case_words.specs.Names.{bytes}
use Rattle.case_file.specs.declared.Reason.{Reason}
use Rattle.case_report.specs.Form.{filled}

-- Why a line is a mistake, in words.
unfoldable pub in_words : Reason → String
in_words Reason.UnknownWord = "the first word is unknown"
in_words Reason.FieldMissing = "a field is missing"
in_words Reason.FieldTooMany = "a field too many"
in_words Reason.NotANumber = "a decimal number of 32 bits is expected"
in_words Reason.NotAWord = "a word of eight hexadecimal digits is expected"
in_words Reason.NotAName = "a name has 1 to 60 letters, digits, '-', '_' or '.'"
in_words Reason.NotABit = "a predicate is 0 or 1"
in_words Reason.NoSuchRegister = "registers are 0 to 31"
in_words Reason.NoSuchPredicate = "predicates are 0 to 7"
in_words Reason.NoSuchSpecial = "specials are sl, sh, ss, st, srb, sro, sxb and sxo"
in_words Reason.NoSuchTransfer = "transfers are br, call, block and xret"
in_words Reason.NoSuchItem = "items are r0 to r31, p0 to p7, sl, sh, main, local and stack"
in_words Reason.LineTooLong = "the line is longer than 4000 bytes"
in_words Reason.BeforeFirstCase = "no case has started"
in_words Reason.AfterOperation = "a description line after the case's first operation"
in_words Reason.Repeated = "this line may stand only once in a case"
in_words Reason.TooMuchCode = "code is at most 65536 bytes long"
in_words Reason.TooMuchMemory = "a memory is at most 65536 bytes long"
in_words Reason.PlaceOutside = "a place is a multiple of 4 inside the memory, with its whole word, or a cache place below W"
in_words Reason.UnseenByte = "fields stand apart by spaces: tabs and carriage returns are not allowed"
in_words Reason.NoSuchInstruction = "no instruction has this name"
in_words Reason.NotARegister = "a register is expected, as r3"
in_words Reason.NotAPredicate = "a predicate is expected, as p3, or !p3 where its negation may stand"
in_words Reason.NotASpecial = "a special register is expected: s0, sl, sh, ss, st, srb, sro, sxb or sxo"
in_words Reason.NotAnOffset = "a decimal number from -2147483648 to 2147483647 is expected"
in_words Reason.TooManyProducts = "a case has at most two product lines"
in_words Reason.TooManyHeld = "a case has at most 16 held blocks"
in_words Reason.TooMuchRecord = "a record and the room for one are at most 8192 bytes long"
in_words Reason.NoSuchVector = "vectors of handlers are 0 to 31"
in_words Reason.TooManyInterrupts = "a case has at most 4096 interrupts"
in_words Reason.TooMuchReplay = "a list is at most 65536 bytes long, and a table 256"

unfoldable pub reason_text : Reason → List ℕ
reason_text r = bytes (in_words r)

-- Line n is a mistake for a reason.
unfoldable pub error_text : ℕ → Reason → List ℕ
error_text n r = filled (bytes "error line %: ") (n ∷ []) ++ (reason_text r ++ (code "\n" ∷ []))
