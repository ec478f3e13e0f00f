-- A line that is read as a special line has the name of a special register, whatever its bytes are.
use Rattle.std.specs.Prelude.{ℕ, Option, Some, None, Result, Ok, Err, Bool, true, false, cond, List, ◌≡◌, refl, leb, ltb, eqb}
use Rattle.text.specs.declared.Field.{Field}
use Rattle.text.specs.Field.{field_from, is_name}
use Rattle.case_words.specs.declared.Keyword.{Keyword}
use Rattle.case_words.specs.declared.OneNumber.{OneNumber}
use Rattle.case_words.specs.declared.NumberAndWord.{NumberAndWord}
use Rattle.case_words.specs.declared.TransferKind.{TransferKind}
use Rattle.case_words.specs.Names.{keyword_of, transfer_kind_of, special_name_of}
use Rattle.case_file.specs.declared.Line.{Line}
use Rattle.case_file.specs.declared.Reason.{Reason}
use Rattle.case_file.specs.declared.Resumption.{Resumption}
use Rattle.case_file.specs.declared.ReplayLine.TheVariants as ReplayLine
use Rattle.case_file.specs.declared.TwoNumbers.{TwoNumbers}
use Rattle.case_file.specs.Arguments.{is_empty, bytes_of, is_end, number_field, word_field}
use Rattle.case_file.specs.Line.{Read, go_on, known, number, field, end, list, two_numbers, three_numbers, reg, pred, record_bytes, with_room, room_after, within, of_number, of_word, of_two, transfer, line_after, line_of, is_named}

abbrev IsNamed : Read → Type 0
IsNamed r = is_named r ≡ true

-- A test, the fields that are read and the end of a line keep it.
either : (b : Bool) (x y : Read) → IsNamed x → IsNamed y → IsNamed (cond b x y)
either true x y p q = p
either false x y p q = q

of_fields : (r : Result (ℕ × ℕ) Reason) (rest : ℕ → ℕ → Read) → ((n at : ℕ) → IsNamed (rest n at)) → IsNamed (go_on r rest)
of_fields (Ok read) rest h = h read.0 read.1
of_fields (Err r) rest h = refl

meant : {A : Type 0} (reason : Reason) (meaning : Option A) (rest : A → Read) → ((a : A) → IsNamed (rest a)) → IsNamed (known reason meaning rest)
meant reason (Some a) rest h = h a
meant reason None rest h = refl

ended : (line : List ℕ) (at : ℕ) (said : Read) → IsNamed said → IsNamed (end line at said)
ended line at said h = either (is_end line at) said (Err Reason.FieldTooMany) h refl

listed : (line : List ℕ) (at : ℕ) (said : Line) → IsNamed (Ok said) → IsNamed (list line at said)
listed line at said h = either (is_end line at) (Err Reason.FieldMissing) (Ok said) refl h

of_field : (line : List ℕ) (at : ℕ) (rest : Field → Read) → ((f : Field) → IsNamed (rest f)) → IsNamed (field line at rest)
of_field line at rest h = either (is_empty (field_from line at)) (Err Reason.FieldMissing) (rest (field_from line at)) refl (h (field_from line at))

of_two_numbers : (line : List ℕ) (at : ℕ) (said : ℕ → ℕ → Read) → ((a b : ℕ) → IsNamed (said a b)) → IsNamed (two_numbers line at said)
of_two_numbers line at said h =
    of_fields (number_field line at) _ (λ a at. of_fields (number_field line at) _ (λ b at. ended line at (said a b) (h a b)))

of_three_numbers : (line : List ℕ) (at : ℕ) (said : ℕ → ℕ → ℕ → Line) → ((a b c : ℕ) → IsNamed (Ok (said a b c))) → IsNamed (three_numbers line at said)
of_three_numbers line at said h =
    of_fields (number_field line at) _ (λ a at. of_fields (number_field line at) _ (λ b at. of_fields (number_field line at) _ (λ c at. ended line at (Ok (said a b c)) (h a b c))))

few : (most n : ℕ) (otherwise : Reason) (said : Line) → IsNamed (Ok said) → IsNamed (within most n otherwise said)
few most n otherwise said h = either (leb n most) (Ok said) (Err otherwise) h refl

-- The lines of one number, of a number and a word, of two numbers, of a record's room, and of a waiting transfer.
number_named : (k : OneNumber) (n : ℕ) → IsNamed (of_number k n)
unfolding record_bytes
number_named OneNumber.RecordBytes n = few 8192 n Reason.TooMuchRecord (Line.RecordBytes n) refl
number_named OneNumber.ListBytes n = few 65536 n Reason.TooMuchReplay (Line.Replay (ReplayLine.ListBytes n)) refl
number_named OneNumber.TableBytes n = few 256 n Reason.TooMuchReplay (Line.Replay (ReplayLine.TableBytes n)) refl
number_named other n = refl

word_named : (k : NumberAndWord) (n w : ℕ) → IsNamed (of_word k n w)
unfolding reg
word_named NumberAndWord.Reg n w = few 31 n Reason.NoSuchRegister (Line.Reg n w) refl
word_named other n w = refl

two_named : (k : TwoNumbers) (a b : ℕ) → IsNamed (of_two k a b)
unfolding pred
two_named TwoNumbers.Pred n bit =
    either (ltb 7 n) (Err Reason.NoSuchPredicate) _ refl (either (ltb 1 bit) (Err Reason.NotABit) (Ok (Line.Pred n (eqb bit 1))) refl refl)
two_named TwoNumbers.Handler vector address = few 31 vector Reason.NoSuchVector (Line.Replay (ReplayLine.Handler vector address)) refl
two_named other a b = refl

room_named : (line : List ℕ) (at : ℕ) (asked : Resumption) → IsNamed (room_after line at asked)
unfolding with_room
room_named line at asked =
    either (is_end line at) (Ok (Line.Resume asked None)) (number line at (λ n at. end line at (with_room asked n))) refl
    (of_fields (number_field line at) _ (λ n at. ended line at (with_room asked n) (few 8192 n Reason.TooMuchRecord (Line.Resume asked (Some n)) refl)))

transfer_named : (line : List ℕ) (at : ℕ) (k : TransferKind) → IsNamed (transfer line at k)
unfolding transfer
transfer_named line at TransferKind.Br = of_two_numbers line at (of_two TwoNumbers.Br) (two_named TwoNumbers.Br)
transfer_named line at TransferKind.Call = of_two_numbers line at (of_two TwoNumbers.Call) (two_named TwoNumbers.Call)
transfer_named line at TransferKind.Block = of_three_numbers line at Line.Block (λ a b c. refl)
transfer_named line at TransferKind.Xret = of_three_numbers line at Line.Xret (λ a b c. refl)

-- By the keyword.
after_named : (line : List ℕ) (at : ℕ) (k : Keyword) → IsNamed (line_after line at k)
unfolding line_after
after_named line at Keyword.Case =
    of_field line at _ (λ f.
    either (is_name (bytes_of line f)) (end line f.end (Ok (Line.Case f.start))) (Err Reason.NotAName) (ended line f.end (Ok (Line.Case f.start)) refl) refl)
after_named line at Keyword.Code = listed line at (Line.Code at) refl
after_named line at (Keyword.OneNumber k) = of_fields (number_field line at) _ (λ n at. ended line at (of_number k n) (number_named k n))
after_named line at Keyword.Stack = of_three_numbers line at Line.Stack (λ a b c. refl)
after_named line at Keyword.Private = listed line at (Line.Private at) refl
after_named line at (Keyword.NumberAndWord k) =
    of_fields (number_field line at) _ (λ n at. of_fields (word_field line at) _ (λ w at. ended line at (of_word k n w) (word_named k n w)))
after_named line at Keyword.Pred = of_two_numbers line at (of_two TwoNumbers.Pred) (two_named TwoNumbers.Pred)
after_named line at Keyword.Special =
    of_field line at _ (λ f.
    meant Reason.NoSuchSpecial (special_name_of (bytes_of line f)) _ (λ name.
    of_fields (word_field line f.end) _ (λ w at. ended line at (Ok (Line.Special (Some name) w)) refl)))
after_named line at Keyword.Transfer =
    of_field line at _ (λ f.
    meant Reason.NoSuchTransfer (transfer_kind_of (bytes_of line f)) (transfer line f.end) (transfer_named line f.end))
after_named line at Keyword.Step = ended line at (Ok Line.Step) refl
after_named line at Keyword.Check = ended line at (Ok Line.Check) refl
after_named line at Keyword.Write = listed line at (Line.Write at) refl
after_named line at Keyword.Listing = ended line at (Ok Line.Listing) refl
after_named line at Keyword.Product =
    of_fields (number_field line at) _ (λ wait at.
    of_fields (word_field line at) _ (λ low at.
    of_fields (word_field line at) _ (λ high at. ended line at (Ok (Line.Product wait low high)) refl)))
after_named line at Keyword.Method = of_two_numbers line at (of_two TwoNumbers.Method) (two_named TwoNumbers.Method)
after_named line at Keyword.Held = listed line at (Line.Held at) refl
after_named line at Keyword.Record = listed line at (Line.Record at) refl
after_named line at Keyword.Save = ended line at (Ok Line.Save) refl
after_named line at Keyword.Resume = of_fields (number_field line at) _ (λ budget at. room_named line at (Resumption.Run budget))
after_named line at Keyword.Restep = room_named line at Resumption.Step
after_named line at Keyword.Interrupt = of_two_numbers line at (of_two TwoNumbers.Interrupt) (two_named TwoNumbers.Interrupt)
after_named line at Keyword.Handler = of_two_numbers line at (of_two TwoNumbers.Handler) (two_named TwoNumbers.Handler)
after_named line at Keyword.Active = ended line at (Ok (Line.Replay ReplayLine.Active)) refl

pub line_named : (line : List ℕ) → is_named (line_of line) ≡ true
unfolding line_of
line_named line =
    let f = field_from line 0 in
    either (is_empty f) (Ok Line.Empty) (known Reason.UnknownWord (keyword_of (bytes_of line f)) (line_after line f.end)) refl
    (meant Reason.UnknownWord (keyword_of (bytes_of line f)) (line_after line f.end) (after_named line f.end))
