-- A line for each row of the format, and lines that are mistakes, with what they say.
use Rattle.std.specs.Prelude.{Ok, Err, true, false, List, [], ◌∷◌, ◌≡◌, refl, None, Some}
use Prim.Native.String as Text
use Rattle.case_file.specs.declared.Line.TheVariants.{Empty, Case, Code, Private, Main, Local, Stack, Entry, Fetch, Base, Reg, Pred, Special, Br, Call, Block, Load, MainWord, LocalWord, CacheWord, Run, Step, Check, Write, Listing, Product, Method, Held, Record, RecordBytes, Save, Resume, Xret, Replay}
use Rattle.case_words.specs.declared.SpecialName.TheVariants.{Sro}
use Rattle.case_file.specs.declared.Resumption.TheVariants as Resumption
use Rattle.case_file.specs.declared.ReplayLine.TheVariants as ReplayLine
use Rattle.case_file.specs.declared.Reason.TheVariants as Reason
use Rattle.text.specs.Field.{spaces, field_length, field_from, same_bytes, is_name_byte, are_name_bytes, is_name}
use Rattle.text.specs.Number.{digit, number_from, decimal_of, word_of}
use Rattle.case_words.specs.Names.{bytes, look_up, keywords, transfer_kinds, special_names}
use Rattle.case_file.specs.Arguments.{is_end, argument_at}
use Rattle.case_file.specs.Line.{Read, reg, pred, record_bytes, with_room, transfer, line_after, line_of}

-- What each line is read as.
abbrev pub says_of : List (Text.String × Read) → List Read
says_of [] = []
says_of ((w, l) ∷ rows) = line_of (bytes w) ∷ says_of rows

abbrev pub expected : List (Text.String × Read) → List Read
expected [] = []
expected ((w, l) ∷ rows) = l ∷ expected rows

-- The rows in the order of the format. The numbers of a case, code, private, held or record line are positions in the line.
unfoldable pub rows : List (Text.String × Read)
rows =
    ("case bunch-split.2", Ok (Case 5))
    ∷ ("code 00000000 87C20000", Ok (Code 4))
    ∷ ("main 65536", Ok (Main 65536))
    ∷ ("local 0", Ok (Local 0))
    ∷ ("stack 16 0 4096", Ok (Stack 16 0 4096))
    ∷ ("private r3 p2 sl main", Ok (Private 7))
    ∷ ("entry 8", Ok (Entry 8))
    ∷ ("fetch 4294967295", Ok (Fetch 4294967295))
    ∷ ("base 12", Ok (Base 12))
    ∷ ("reg 31 0000000A", Ok (Reg 31 10))
    ∷ ("reg 0 0000000a", Ok (Reg 0 10))
    ∷ ("pred 7 1", Ok (Pred 7 true))
    ∷ ("pred 0 0", Ok (Pred 0 false))
    ∷ ("special sro FFFFFFFF", Ok (Special (Some Sro) 4294967295))
    ∷ ("transfer br 16 2", Ok (Br 16 2))
    ∷ ("transfer call 16 3", Ok (Call 16 3))
    ∷ ("transfer block 16 8 3", Ok (Block 16 8 3))
    ∷ ("load 32 00000001", Ok (Load 32 1))
    ∷ ("mainword 4 00000100", Ok (MainWord 4 256))
    ∷ ("localword 4 00000100", Ok (LocalWord 4 256))
    ∷ ("cacheword 15 00000100", Ok (CacheWord 15 256))
    ∷ ("run 4294967295", Ok (Run 4294967295))
    ∷ ("step", Ok Step)
    ∷ ("check", Ok Check)
    ∷ ("write add r1 r2 r3 ; nor r4 r5 r6", Ok (Write 5))
    ∷ ("list", Ok Listing)
    ∷ ("product 2 0000002A FFFFFFFF", Ok (Product 2 42 4294967295))
    ∷ ("method 16 4294967295", Ok (Method 16 4294967295))
    ∷ ("held 8 64", Ok (Held 4))
    ∷ ("record 00000002 00000000", Ok (Record 6))
    ∷ ("recordbytes 8192", Ok (RecordBytes 8192))
    ∷ ("save", Ok Save)
    ∷ ("resume 5", Ok (Resume (Resumption.Run 5) None))
    ∷ ("resume 4294967295 388", Ok (Resume (Resumption.Run 4294967295) (Some 388)))
    ∷ ("restep", Ok (Resume Resumption.Step None))
    ∷ ("restep 0", Ok (Resume Resumption.Step (Some 0)))
    ∷ ("transfer xret 16 8 3", Ok (Xret 16 8 3))
    ∷ ("interrupt 4294967295 32", Ok (Replay (ReplayLine.Interrupt 4294967295 32)))
    ∷ ("handler 31 20", Ok (Replay (ReplayLine.Handler 31 20)))
    ∷ ("listbytes 65536", Ok (Replay (ReplayLine.ListBytes 65536)))
    ∷ ("tablebytes 256", Ok (Replay (ReplayLine.TableBytes 256)))
    ∷ ("active", Ok (Replay ReplayLine.Active))
    ∷ ("place 4294967295", Ok (Replay (ReplayLine.Place 4294967295)))
    ∷ ("replayed 7", Ok (Replay (ReplayLine.Done 7)))
    ∷ []

-- Spaces, comments, and what has no meaning.
unfoldable pub others : List (Text.String × Read)
others =
    ("", Ok Empty)
    ∷ ("   # step", Ok Empty)
    ∷ ("  run  007   # seven", Ok (Run 7))
    ∷ ("step#", Ok Step)
    ∷ ("steps", Err Reason.UnknownWord)
    ∷ ("Step", Err Reason.UnknownWord)
    ∷ ("step 1", Err Reason.FieldTooMany)
    ∷ ("run", Err Reason.FieldMissing)
    ∷ ("run -1", Err Reason.NotANumber)
    ∷ ("run 4294967296", Err Reason.NotANumber)
    ∷ ("reg 1 A", Err Reason.NotAWord)
    ∷ ("reg 1 000000000", Err Reason.NotAWord)
    ∷ ("reg 32 00000000", Err Reason.NoSuchRegister)
    ∷ ("pred 8 1", Err Reason.NoSuchPredicate)
    ∷ ("pred 1 2", Err Reason.NotABit)
    ∷ ("special s0 00000000", Err Reason.NoSuchSpecial)
    ∷ ("transfer ret 0 1", Err Reason.NoSuchTransfer)
    ∷ ("case a/b", Err Reason.NotAName)
    ∷ ("code", Err Reason.FieldMissing)
    ∷ ("write", Err Reason.FieldMissing)
    ∷ ("list 0", Err Reason.FieldTooMany)
    ∷ ("method 16", Err Reason.FieldMissing)
    ∷ ("held", Err Reason.FieldMissing)
    ∷ ("record", Err Reason.FieldMissing)
    ∷ ("recordbytes 8193", Err Reason.TooMuchRecord)
    ∷ ("resume", Err Reason.FieldMissing)
    ∷ ("resume 5 8193", Err Reason.TooMuchRecord)
    ∷ ("restep 388 5", Err Reason.FieldTooMany)
    ∷ ("transfer xret 16 3", Err Reason.FieldMissing)
    ∷ ("handler 32 20", Err Reason.NoSuchVector)
    ∷ ("listbytes 65537", Err Reason.TooMuchReplay)
    ∷ ("tablebytes 257", Err Reason.TooMuchReplay)
    ∷ ("active 1", Err Reason.FieldTooMany)
    ∷ []

pub rows_read : says_of rows ≡ expected rows
unfolding rows spaces field_length field_from same_bytes is_name_byte are_name_bytes is_name digit number_from decimal_of word_of look_up keywords transfer_kinds special_names is_end argument_at reg pred record_bytes with_room transfer line_after line_of
rows_read = refl

pub others_read : says_of others ≡ expected others
unfolding others spaces field_length field_from same_bytes is_name_byte are_name_bytes is_name digit number_from decimal_of word_of look_up keywords transfer_kinds special_names is_end argument_at reg pred record_bytes with_room transfer line_after line_of
others_read = refl
