-- The text of an operand, by the letter of its kind, read and written.
use Rattle.std.specs.Prelude.{ℕ, ◌-◌, ◌%◌, ◌^◌, Option, Some, None, Result, Ok, Err, Bool, true, false, cond, List, [], ◌∷◌, ◌++◌, leb, ltb, eqb}
use Prim.Native.Char.{code}
use Rattle.text.specs.Number.{decimal_of, word_of, decimal_text, word_text}
use Rattle.text.specs.Table.{table, row_text, row_of}
use Rattle.text.specs.Field.{field_from}
use Rattle.case_words.specs.Names.{bytes, numbered}
use Rattle.case_file.specs.Arguments.{is_empty, bytes_of}
use Rattle.case_file.specs.declared.Reason.{Reason}
use Rattle.assembly.specs.Forms.{texts}
use Rattle.assembly.specs.declared.Operand.{Operand}

abbrev pub plain : ℕ → Operand
plain n = record { negated = false; number = n }

abbrev pub negation : ℕ → Operand
negation n = record { negated = true; number = n }

-- The special registers by the numbers of their fields.
abbrev pub special_rows : List (List ℕ)
special_rows = texts ("s0" ∷ "" ∷ "sl" ∷ "sh" ∷ "" ∷ "ss" ∷ "st" ∷ "srb" ∷ "sro" ∷ "sxb" ∷ "sxo" ∷ [])

unfoldable pub specials : List ℕ
specials = table special_rows

abbrev pub special_number : List ℕ → Option ℕ
special_number s = cond (ltb (row_of specials s) 11) (Some (row_of specials s)) None

-- A number with a sign in 32 bits, as its two's complement.
abbrev pub up_to : ℕ → Option ℕ → Option ℕ
up_to greatest (Some n) = cond (leb n greatest) (Some n) None
up_to greatest None = None

abbrev pub opposite : Option ℕ → Option ℕ
opposite (Some n) = Some ((2 ^ 32 - n) % 2 ^ 32)
opposite None = None

unfoldable pub signed_number : List ℕ → Option ℕ
signed_number [] = None
signed_number (c ∷ s) = cond (eqb c (code "-")) (opposite (up_to (2 ^ 31) (decimal_of s))) (up_to (2 ^ 31 - 1) (decimal_of (c ∷ s)))

-- An operand and the position after it, or why there is none.
abbrev pub OperandRead : Type 0
OperandRead = Result (Operand × ℕ) Reason

abbrev pub or_why : Reason → (ℕ → Operand) → Option ℕ → ℕ → OperandRead
or_why why o (Some n) next = Ok (o n, next)
or_why why o None next = Err why

-- A letter and a number of 32 bits.
abbrev pub lettered : ℕ → List ℕ → Option ℕ
lettered c s = numbered c 4294967295 s

-- A predicate, with `!` in front where its negation is meant.
unfoldable pub predicate_read : List ℕ → ℕ → OperandRead
predicate_read [] next = Err Reason.NotAPredicate
predicate_read (c ∷ s) next =
    cond (eqb c (code "!"))
    (or_why Reason.NotAPredicate negation (lettered (code "p") s) next)
    (or_why Reason.NotAPredicate plain (lettered (code "p") (c ∷ s)) next)

-- A field as an operand of a kind.
unfoldable pub operand_of : ℕ → List ℕ → ℕ → OperandRead
operand_of k s next =
    cond (eqb k (code "r")) (or_why Reason.NotARegister plain (lettered (code "r") s) next)
    (cond (eqb k (code "p")) (or_why Reason.NotAPredicate plain (lettered (code "p") s) next)
    (cond (eqb k (code "q")) (predicate_read s next)
    (cond (eqb k (code "s")) (or_why Reason.NotASpecial plain (special_number s) next)
    (cond (eqb k (code "n")) (or_why Reason.NotANumber plain (decimal_of s) next)
    (cond (eqb k (code "i")) (or_why Reason.NotAnOffset plain (signed_number s) next)
    (or_why Reason.NotAWord plain (word_of s) next))))))

-- The next field of a line as an operand. A space is the kind of no operand, and takes no field.
unfoldable pub operand_at : List ℕ → ℕ → ℕ → OperandRead
operand_at line at k =
    let f = field_from line at in
    cond (eqb k (code " ")) (Ok (plain 0, at))
    (cond (is_empty f) (Err Reason.FieldMissing) (operand_of k (bytes_of line f) f.end))

-- The text of an operand, and with the space before it.
abbrev pub predicate_text : Bool → ℕ → List ℕ
predicate_text negated n = cond negated (bytes "!p") (bytes "p") ++ decimal_text n

unfoldable pub signed_text : ℕ → List ℕ
signed_text n = cond (ltb n (2 ^ 31)) (decimal_text n) (code "-" ∷ decimal_text (2 ^ 32 - n))

unfoldable pub value_text : ℕ → Operand → List ℕ
value_text k o =
    cond (eqb k (code "r")) (code "r" ∷ decimal_text o.number)
    (cond (eqb k (code "p")) (code "p" ∷ decimal_text o.number)
    (cond (eqb k (code "q")) (predicate_text o.negated o.number)
    (cond (eqb k (code "s")) (row_text specials o.number)
    (cond (eqb k (code "n")) (decimal_text o.number)
    (cond (eqb k (code "i")) (signed_text o.number)
    (word_text o.number))))))

unfoldable pub operand_text : ℕ → Operand → List ℕ
operand_text k o = cond (eqb k (code " ")) [] (code " " ∷ value_text k o)
