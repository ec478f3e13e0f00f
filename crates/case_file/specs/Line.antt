-- What a line of a case file says. Where several things are wrong with a line, the reason given is the first that is met here.
use Rattle.std.specs.Prelude.{ℕ, Option, Some, None, Result, Ok, Err, Bool, true, cond, List, leb, ltb, eqb, is_some}
use Rattle.text.specs.declared.Field.{Field}
use Rattle.text.specs.Field.{field_from, is_name}
use Rattle.case_words.specs.declared.Keyword.{Keyword}
use Rattle.case_words.specs.declared.OneNumber.{OneNumber}
use Rattle.case_words.specs.declared.NumberAndWord.{NumberAndWord}
use Rattle.case_words.specs.declared.TransferKind.{TransferKind}
use Rattle.case_file.specs.declared.Line.{Line}
use Rattle.case_file.specs.declared.Resumption.{Resumption}
use Rattle.case_file.specs.declared.Reason.{Reason}
use Rattle.case_file.specs.declared.ReplayLine.TheVariants as ReplayLine
use Rattle.case_file.specs.declared.ThreeNumbers.{ThreeNumbers}
use Rattle.case_file.specs.declared.TwoNumbers.{TwoNumbers}
use Rattle.case_words.specs.Names.{keyword_of, transfer_kind_of, special_name_of}
use Rattle.case_file.specs.Arguments.{is_empty, bytes_of, is_end, number_field, word_field}

-- What a line says, or why it is a mistake.
abbrev pub Read : Type 0
Read = Result Line Reason

-- The line goes on after a field, with what was read and the position after it; a mistake ends it.
abbrev pub go_on : Result (ℕ × ℕ) Reason → (ℕ → ℕ → Read) → Read
go_on (Ok read) rest = rest read.0 read.1
go_on (Err r) rest = Err r

-- The same with the meaning of a word, if it has one.
abbrev pub known : {A : Type 0} → Reason → Option A → (A → Read) → Read
known reason (Some meaning) rest = rest meaning
known reason None rest = Err reason

-- The next field from a position on, as a number, as a word, or as it is written.
abbrev pub number : List ℕ → ℕ → (ℕ → ℕ → Read) → Read
number line at = go_on (number_field line at)

abbrev pub word : List ℕ → ℕ → (ℕ → ℕ → Read) → Read
word line at = go_on (word_field line at)

abbrev pub field : List ℕ → ℕ → (Field → Read) → Read
field line at rest =
    let f = field_from line at in
    cond (is_empty f) (Err Reason.FieldMissing) (rest f)

-- What the line says if no field is left.
abbrev pub end : List ℕ → ℕ → Read → Read
end line at said = cond (is_end line at) said (Err Reason.FieldTooMany)

-- What the line says if a field is left: the entries of its list are read later.
abbrev pub list : List ℕ → ℕ → Line → Read
list line at said = cond (is_end line at) (Err Reason.FieldMissing) (Ok said)

-- Two numbers, or three, and nothing after them.
abbrev pub two_numbers : List ℕ → ℕ → (ℕ → ℕ → Read) → Read
two_numbers line at said = number line at (λ a at. number line at (λ b at. end line at (said a b)))

abbrev pub three_numbers : List ℕ → ℕ → (ℕ → ℕ → ℕ → Line) → Read
three_numbers line at said = number line at (λ a at. number line at (λ b at. number line at (λ c at. end line at (Ok (said a b c)))))

-- There are 32 registers. Only `reg` is held to that here: a load that waits for another one is refused by the machine.
unfoldable pub reg : ℕ → ℕ → Read
reg n w = cond (leb n 31) (Ok (Line.Reg n w)) (Err Reason.NoSuchRegister)

-- There are 8 predicates, and a bit is 0 or 1.
unfoldable pub pred : ℕ → ℕ → Read
pred n bit =
    cond (ltb 7 n) (Err Reason.NoSuchPredicate)
    (cond (ltb 1 bit) (Err Reason.NotABit)
    (Ok (Line.Pred n (eqb bit 1))))

-- What is handed in of a record, and what one is written into, has at most 8,192 bytes.
abbrev pub record_room : ℕ → Line → Read
record_room n said = cond (leb n 8192) (Ok said) (Err Reason.TooMuchRecord)

unfoldable pub record_bytes : ℕ → Read
record_bytes n = record_room n (Line.RecordBytes n)

unfoldable pub with_room : Resumption → ℕ → Read
with_room asked n = record_room n (Line.Resume asked (Some n))

-- What goes on from a record, with the room for the one that it leaves, which may be left out.
abbrev pub room_after : List ℕ → ℕ → Resumption → Read
room_after line at asked = cond (is_end line at) (Ok (Line.Resume asked None)) (number line at (λ n at. end line at (with_room asked n)))

-- What a line says whose number has a greatest value. There are 32 vectors; only `handler` is held to that here, since a list with
-- another one is refused by the machine. What is handed in of the list has at most 65,536 bytes, and of the table 256.
abbrev pub within : ℕ → ℕ → Reason → Line → Read
within most n otherwise said = cond (leb n most) (Ok said) (Err otherwise)

-- The lines of one number.
abbrev pub of_number : OneNumber → ℕ → Read
of_number OneNumber.Main bytes = Ok (Line.Main bytes)
of_number OneNumber.Local bytes = Ok (Line.Local bytes)
of_number OneNumber.Entry address = Ok (Line.Entry address)
of_number OneNumber.Fetch address = Ok (Line.Fetch address)
of_number OneNumber.Base address = Ok (Line.Base address)
of_number OneNumber.Run budget = Ok (Line.Run budget)
of_number OneNumber.RecordBytes n = record_bytes n
of_number OneNumber.ListBytes n = within 65536 n Reason.TooMuchReplay (Line.Replay (ReplayLine.ListBytes n))
of_number OneNumber.TableBytes n = within 256 n Reason.TooMuchReplay (Line.Replay (ReplayLine.TableBytes n))
of_number OneNumber.Place n = Ok (Line.Replay (ReplayLine.Place n))
of_number OneNumber.Replayed n = Ok (Line.Replay (ReplayLine.Done n))

-- The lines of a number and a word. Whether a place is inside its memory is judged at the case's first operation.
abbrev pub of_word : NumberAndWord → ℕ → ℕ → Read
of_word NumberAndWord.Reg n w = reg n w
of_word NumberAndWord.Load n w = Ok (Line.Load n w)
of_word NumberAndWord.MainWord address w = Ok (Line.MainWord address w)
of_word NumberAndWord.LocalWord address w = Ok (Line.LocalWord address w)
of_word NumberAndWord.CacheWord place w = Ok (Line.CacheWord place w)

-- The lines of two numbers.
abbrev pub of_two : TwoNumbers → ℕ → ℕ → Read
of_two TwoNumbers.Pred n bit = pred n bit
of_two TwoNumbers.Br target wait = Ok (Line.Br target wait)
of_two TwoNumbers.Call target wait = Ok (Line.Call target wait)
of_two TwoNumbers.Method blocks bytes = Ok (Line.Method blocks bytes)
of_two TwoNumbers.Interrupt n vector = Ok (Line.Replay (ReplayLine.Interrupt n vector))
of_two TwoNumbers.Handler vector address = within 31 vector Reason.NoSuchVector (Line.Replay (ReplayLine.Handler vector address))

-- The lines of three numbers.
abbrev pub of_three : ThreeNumbers → ℕ → ℕ → ℕ → Line
of_three ThreeNumbers.Stack words lo hi = Line.Stack words lo hi
of_three ThreeNumbers.Block target base wait = Line.Block target base wait
of_three ThreeNumbers.Xret target base wait = Line.Xret target base wait

-- The waiting transfer, by its kind: TARGET and WAIT, or TARGET, BASE and WAIT.
unfoldable pub transfer : List ℕ → ℕ → TransferKind → Read
transfer line at TransferKind.Br = two_numbers line at (of_two TwoNumbers.Br)
transfer line at TransferKind.Call = two_numbers line at (of_two TwoNumbers.Call)
transfer line at TransferKind.Block = three_numbers line at Line.Block
transfer line at TransferKind.Xret = three_numbers line at Line.Xret

-- What a line says by the fields after its keyword.
unfoldable pub line_after : List ℕ → ℕ → Keyword → Read
line_after line at Keyword.Case =
    field line at (λ f. cond (is_name (bytes_of line f)) (end line f.end (Ok (Line.Case f.start))) (Err Reason.NotAName))
line_after line at Keyword.Code = list line at (Line.Code at)
line_after line at (Keyword.OneNumber k) = number line at (λ n at. end line at (of_number k n))
line_after line at Keyword.Stack = three_numbers line at Line.Stack
line_after line at Keyword.Private = list line at (Line.Private at)
line_after line at (Keyword.NumberAndWord k) = number line at (λ n at. word line at (λ w at. end line at (of_word k n w)))
line_after line at Keyword.Pred = two_numbers line at (of_two TwoNumbers.Pred)
line_after line at Keyword.Special =
    field line at (λ f.
    known Reason.NoSuchSpecial (special_name_of (bytes_of line f)) (λ name.
    word line f.end (λ w at. end line at (Ok (Line.Special (Some name) w)))))
line_after line at Keyword.Transfer =
    field line at (λ f. known Reason.NoSuchTransfer (transfer_kind_of (bytes_of line f)) (transfer line f.end))
line_after line at Keyword.Step = end line at (Ok Line.Step)
line_after line at Keyword.Check = end line at (Ok Line.Check)
line_after line at Keyword.Write = list line at (Line.Write at)
line_after line at Keyword.Listing = end line at (Ok Line.Listing)
line_after line at Keyword.Product =
    number line at (λ wait at. word line at (λ low at. word line at (λ high at. end line at (Ok (Line.Product wait low high)))))
line_after line at Keyword.Method = two_numbers line at (of_two TwoNumbers.Method)
line_after line at Keyword.Held = list line at (Line.Held at)
line_after line at Keyword.Record = list line at (Line.Record at)
line_after line at Keyword.Save = end line at (Ok Line.Save)
line_after line at Keyword.Resume = number line at (λ budget at. room_after line at (Resumption.Run budget))
line_after line at Keyword.Restep = room_after line at Resumption.Step
line_after line at Keyword.Interrupt = two_numbers line at (of_two TwoNumbers.Interrupt)
line_after line at Keyword.Handler = two_numbers line at (of_two TwoNumbers.Handler)
line_after line at Keyword.Active = end line at (Ok (Line.Replay ReplayLine.Active))

-- What a line says: nothing, or by its first field.
unfoldable pub line_of : List ℕ → Read
line_of line =
    let f = field_from line 0 in
    cond (is_empty f) (Ok Line.Empty) (known Reason.UnknownWord (keyword_of (bytes_of line f)) (line_after line f.end))

-- Whether what a line was read as has the name of a special register, if it is a special line. What `line_of` says has it, of every line (`line_named`).
abbrev pub is_named : Read → Bool
is_named (Ok (Line.Special name w)) = is_some name
is_named other = true
