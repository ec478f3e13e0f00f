-- What the description lines of a case say of its numbers. They come in any order, and some kinds at most once.
use Rattle.std.specs.Prelude.{ℕ, ◌+◌, Option, Some, None, Result, Ok, Err, Bool, cond, List, eqb, leb, ltb}
use Rattle.case_file.specs.declared.Line.{Line}
use Rattle.case_file.specs.declared.Reason.{Reason}
use Rattle.case_words.specs.declared.SpecialName.{SpecialName}
use Rattle.case_kept.specs.Indices.{MAIN, LOCAL, WORDS, LO, HI, ENTRY, FETCH, BASE, SPECIALS, TRANSFER, BR, CALL, BLOCK, XRET, LOAD, REGISTERS, PREDICATES, GIVEN, PRODUCTS, PRODUCT, METHOD, BLOCKS, BYTES, RECORD_BYTES}
use Rattle.case_kept.specs.Kept.{kept_number, is_set, put, flag}
use Rattle.case_notes.specs.Waiting.{with_transfer, with_load, with_product}

-- Whether a line was taken, or why it is a mistake.
abbrev pub Judged : Type 0
Judged = Result (Unit {0}) Reason

-- What a line leaves: whether it is a mistake, and the kept numbers.
pub record Noted : Type 0 where
  pub judged : Judged
  pub kept : List ℕ

abbrev pub noted : Judged → List ℕ → Noted
noted judged kept = record { judged = judged; kept = kept }

abbrev pub fine : List ℕ → Noted
fine kept = noted (Ok tt) kept

-- Whether a line gave the number at an index.
abbrev pub is_given : List ℕ → ℕ → Bool
is_given kept index = is_set kept (GIVEN + index)

abbrev pub mark_given : List ℕ → ℕ → List ℕ
mark_given kept index = put kept (GIVEN + index) 1

-- A number, and that a line gave it.
abbrev pub give : List ℕ → ℕ → ℕ → List ℕ
give kept index n = put (mark_given kept index) index n

-- A line that may stand once and comes again is a mistake. It is known by the index of its first number.
abbrev pub once : List ℕ → ℕ → Noted → Noted
once kept index rest = cond (is_given kept index) (noted (Err Reason.Repeated) kept) rest

abbrev pub number_once : List ℕ → ℕ → ℕ → Noted
number_once kept index n = once kept index (fine (give kept index n))

-- The greatest length of the code and of each memory, in bytes.
abbrev pub GREATEST : ℕ
GREATEST = 65536

-- The length of a memory; one above 65,536 bytes is a mistake.
abbrev pub length_once : List ℕ → ℕ → ℕ → Noted
length_once kept index n = once kept index (cond (ltb GREATEST n) (noted (Err Reason.TooMuchMemory) kept) (fine (give kept index n)))

abbrev pub transfer_once : List ℕ → ℕ → ℕ → ℕ → ℕ → Noted
transfer_once kept kind a b c = once kept TRANSFER (fine (with_transfer (mark_given kept TRANSFER) kind a b c))

-- The order of the special registers.
abbrev pub special_index : SpecialName → ℕ
special_index SpecialName.Sl = 0
special_index SpecialName.Sh = 1
special_index SpecialName.Ss = 2
special_index SpecialName.St = 3
special_index SpecialName.Srb = 4
special_index SpecialName.Sro = 5
special_index SpecialName.Sxb = 6
special_index SpecialName.Sxo = 7

-- Lines that may come again: for one number the last one counts.
abbrev pub one_of32 : List ℕ → ℕ → ℕ → ℕ → Noted
one_of32 kept first n w = fine (cond (ltb n 32) (put kept (first + n) w) kept)

abbrev pub predicate : List ℕ → ℕ → Bool → Noted
predicate kept p v = fine (cond (ltb p 8) (put kept (PREDICATES + p) (flag v)) kept)

-- A name that is none of the special registers changes nothing.
abbrev pub special : List ℕ → Option SpecialName → ℕ → Noted
special kept (Some name) w = fine (give kept (SPECIALS + special_index name) w)
special kept None w = fine kept

-- Products under way, by rising wait: one that waits as long as the one before stands behind it. A third is a mistake.
abbrev pub before_first : List ℕ → ℕ → ℕ → ℕ → List ℕ
before_first kept wait low high =
    with_product (with_product kept (PRODUCT + 3) (kept_number kept PRODUCT) (kept_number kept (PRODUCT + 1)) (kept_number kept (PRODUCT + 2))) PRODUCT wait low high

unfoldable pub product_more : List ℕ → ℕ → ℕ → ℕ → Noted
product_more kept wait low high =
    cond (eqb (kept_number kept PRODUCTS) 0) (fine (with_product (put kept PRODUCTS 1) PRODUCT wait low high))
    (cond (eqb (kept_number kept PRODUCTS) 1)
    (fine (put (cond (leb (kept_number kept PRODUCT) wait) (with_product kept (PRODUCT + 3) wait low high) (before_first kept wait low high)) PRODUCTS 2))
    (noted (Err Reason.TooManyProducts) kept))

-- The method cache's capacity. Its line may stand once.
unfoldable pub method_once : List ℕ → ℕ → ℕ → Noted
method_once kept blocks bytes =
    cond (is_set kept METHOD) (noted (Err Reason.Repeated) kept) (fine (put (put (put kept METHOD 1) BLOCKS blocks) BYTES bytes))

-- The lines that need nothing but their own numbers, by the table of the description lines. Every other line leaves the numbers alone.
unfoldable pub given : Line → List ℕ → Noted
given (Line.Main bytes) kept = length_once kept MAIN bytes
given (Line.Local bytes) kept = length_once kept LOCAL bytes
given (Line.Stack words lo hi) kept = once kept WORDS (fine (put (put (give kept WORDS words) LO lo) HI hi))
given (Line.Entry address) kept = number_once kept ENTRY address
given (Line.Fetch address) kept = number_once kept FETCH address
given (Line.Base address) kept = number_once kept BASE address
given (Line.Reg r w) kept = one_of32 kept REGISTERS r w
given (Line.Pred p v) kept = predicate kept p v
given (Line.Special name w) kept = special kept name w
given (Line.Br target wait) kept = transfer_once kept BR target wait 0
given (Line.Call target wait) kept = transfer_once kept CALL target wait 0
given (Line.Block target base wait) kept = transfer_once kept BLOCK target base wait
given (Line.Load r w) kept = once kept LOAD (fine (with_load (mark_given kept LOAD) r w))
given Line.Empty kept = fine kept
given (Line.Case name) kept = fine kept
given (Line.Code list) kept = fine kept
given (Line.Private list) kept = fine kept
given (Line.MainWord address w) kept = fine kept
given (Line.LocalWord address w) kept = fine kept
given (Line.CacheWord place w) kept = fine kept
given (Line.Run budget) kept = fine kept
given Line.Step kept = fine kept
given Line.Check kept = fine kept
given (Line.Write text) kept = fine kept
given Line.Listing kept = fine kept
given (Line.Product wait low high) kept = product_more kept wait low high
given (Line.Method blocks bytes) kept = method_once kept blocks bytes
given (Line.Held list) kept = fine kept
given (Line.Record list) kept = fine kept
given (Line.RecordBytes n) kept = number_once kept RECORD_BYTES n
given Line.Save kept = fine kept
given (Line.Resume asked room) kept = fine kept
given (Line.Xret target base wait) kept = transfer_once kept XRET target base wait
given (Line.Replay r) kept = fine kept

-- The same of what a line was read as: one that is a mistake leaves the numbers alone.
abbrev pub given_read : Result Line Reason → List ℕ → Noted
given_read (Ok said) kept = given said kept
given_read (Err r) kept = fine kept
