-- Texts with the bundle that each is read as and the text that the bundle has, and texts that are mistakes.
use Rattle.std.specs.Prelude.{Ok, Err, ℕ, ◌≡◌, refl, true, false, List, [], ◌∷◌, negsuc}
use Prim.Native.String as Text
use Rattle.word.specs.Word.{signed}
use Rattle.text.specs.Field.{spaces, field_length, field_from, same_bytes}
use Rattle.text.specs.Number.{digit, number_from, decimal_of, word_of, glyph, decimal_before, hex_before}
use Rattle.text.specs.Table.{table, row_text}
use Rattle.case_words.specs.Names.{bytes, numbered}
use Rattle.case_file.specs.Arguments.{is_end}
use Rattle.case_file.specs.declared.Reason.{Reason}
use Rattle.case_file.specs.declared.Reason.TheVariants.{FieldMissing, FieldTooMany, NotANumber, NotAWord, NoSuchInstruction, NotARegister, NotAPredicate, NotASpecial, NotAnOffset}
use Rattle.encoder.specs.Encode.{single, pair}
use Rattle.assembly.specs.Forms.{forms, mnemonics, sizes, mnemonic_from, start_of, letters, made}
use Rattle.assembly.specs.Operands.{specials, signed_number, predicate_read, operand_of, operand_at, signed_text, value_text, operand_text}
use Rattle.assembly.specs.RowLaws.{place, mnemonic_place, special_place}
use Rattle.disassembler.specs.Shown.{shown}
use Rattle.assembly.specs.Forms.{name_of}
use Rattle.assembler.specs.Reading.{operands_at, named_at, instruction_at, after_first, bundle_read}
use Rattle.disassembler.specs.Text.{shown_text, guard_text, bundle_text}
use Rattle.isa.specs.Format.{row}
use Rattle.isa.specs.declared.PredicateOperand.{PredicateOperand}
use Rattle.isa.specs.declared.AluFunction.TheVariants.{Add, Sub}
use Rattle.isa.specs.declared.CompareFunction.TheVariants.{Cmpeq}
use Rattle.isa.specs.declared.PredicateFunction.TheVariants.{Pand}
use Rattle.isa.specs.declared.Special.TheVariants as special
use Rattle.isa.specs.declared.AccessKind.TheVariants.{Local}
use Rattle.isa.specs.declared.StoreWidth.TheVariants as store
use Rattle.isa.specs.declared.Op2.TheVariants as op2
use Rattle.isa.specs.declared.Target.TheVariants.{Br, Ret}
use Rattle.isa.specs.declared.AluOperation.{AluOperation}
use Rattle.isa.specs.declared.AluOperation.TheVariants.{Arithmetic, Compare, Predicate}
use Rattle.isa.specs.declared.Operation.{Operation}
use Rattle.isa.specs.declared.Operation.TheVariants.{Alu, Mts, Store, Transfer}
use Rattle.isa.specs.declared.Bundle.{Bundle}
use Rattle.isa.specs.declared.Bundle.TheVariants as bundle

abbrev pub plainly : ℕ → PredicateOperand
plainly n = record { negated = false; predicate = n }

abbrev pub negated : ℕ → PredicateOperand
negated n = record { negated = true; predicate = n }

abbrev pub always : PredicateOperand
always = plainly 0

abbrev pub one : PredicateOperand → Operation → Bundle
one g o = bundle.One (record { guard = g; operation = o })

abbrev pub long : PredicateOperand → Operation → Bundle
long g o = bundle.Long (record { guard = g; operation = o })

abbrev pub two : PredicateOperand → Operation → PredicateOperand → AluOperation → Bundle
two g o h a = bundle.Two (record { guard = g; operation = o }) (record { guard = h; operation = a })

-- A text, the bundle that it is read as, and the bundle's text.
pub record Example : Type 0 where
  pub text : Text.String
  pub bundle : Bundle
  pub written : Text.String

infix 60 ◌reads◌writes◌ ◌is◌
abbrev pub ◌reads◌writes◌ : Text.String → Bundle → Text.String → Example
t reads b writes w = record { text = t; bundle = b; written = w }

-- A text that is written as it is read.
abbrev pub ◌is◌ : Text.String → Bundle → Example
t is b = t reads b writes t

infixr 20 ◌and◌
abbrev pub ◌and◌ : {A B : Type 0} → A → B → A × B
a and b = (a, b)

abbrev pub AllHold : List Example → Type 0
AllHold [] = Unit {0}
AllHold (e ∷ es) = ((bundle_read (bytes e.text) 0 ≡ Ok e.bundle) × (bundle_text e.bundle ≡ bytes e.written)) × AllHold es

abbrev pub AllMistakes : List (Text.String × Reason) → Type 0
AllMistakes [] = Unit {0}
AllMistakes (m ∷ ms) = (bundle_read (bytes m.0) 0 ≡ Err m.1) × AllMistakes ms

abbrev pub examples : List Example
examples =
    ("add r03 r1 r2" reads one always (Alu (Arithmetic Add 3 1 (op2.Register 2))) writes "add r3 r1 r2") ∷
    ("subl r1 r2 0000abcd" reads long always (Alu (Arithmetic Sub 1 2 (op2.Long 0xABCD))) writes "subl r1 r2 0000ABCD") ∷
    ("pand p1 !p2 p03" reads one always (Alu (Predicate Pand 1 (negated 2) (plainly 3))) writes "pand p1 !p2 p3") ∷
    ("mts s0 r1" is one always (Mts special.S0 1)) ∷
    ("shl r1 2 r3" is one always (Store Local store.Half 1 3 2)) ∷
    ("br -1" is one always (Transfer true (Br (negsuc 0)))) ∷
    ("brnd -2147483648" is one always (Transfer false (Br (negsuc 2147483647)))) ∷
    ("  p0  ret # back" reads one always (Transfer true Ret) writes "ret") ∷
    ("!p7 addi r1 r1 1 ; p2 cmpeq p3 r4 r5" is two (negated 7) (Alu (Arithmetic Add 1 1 (op2.Immediate 1))) (plainly 2) (Compare Cmpeq 3 4 (op2.Register 5))) ∷
    ("sub r1 r2 r3 ; ret" reads bundle.Undecodable writes "") ∷
    []

abbrev pub mistakes : List (Text.String × Reason)
mistakes =
    ("", FieldMissing) ∷
    ("p1", FieldMissing) ∷
    ("nop", NoSuchInstruction) ∷
    ("addi r1 r2", FieldMissing) ∷
    ("ret r1", FieldTooMany) ∷
    ("add r1 r2 3", NotARegister) ∷
    ("add r1 r2 r4294967296", NotARegister) ∷
    ("cmpeq !p1 r1 r2", NotAPredicate) ∷
    ("por p1 r2 p3", NotAPredicate) ∷
    ("mts s1 r2", NotASpecial) ∷
    ("addi r1 r2 -1", NotANumber) ∷
    ("addl r1 r2 ABCD", NotAWord) ∷
    ("br 2147483648", NotAnOffset) ∷
    ("br -2147483649", NotAnOffset) ∷
    ("br -", NotAnOffset) ∷
    ("ret ;", FieldMissing) ∷
    ("ret ; ret ; ret", FieldTooMany) ∷
    ("ret; ret", NoSuchInstruction) ∷
    []

pub examples_hold : AllHold examples
unfolding bundle_read after_first instruction_at named_at operands_at made forms mnemonics sizes mnemonic_from letters operand_at operand_of predicate_read signed_number single pair signed row is_end numbered decimal_of word_of number_from digit field_from spaces field_length same_bytes place bundle_text guard_text shown_text shown name_of start_of operand_text value_text signed_text specials table row_text decimal_before hex_before glyph
examples_hold =
    (rw mnemonic_place, refl) and
    (rw mnemonic_place, refl) and
    (rw mnemonic_place, refl) and
    (rw (mnemonic_place, special_place), refl) and
    (rw mnemonic_place, refl) and
    (rw mnemonic_place, refl) and
    (rw mnemonic_place, refl) and
    (rw mnemonic_place, refl) and
    (rw (mnemonic_place, mnemonic_place), refl) and
    (rw (mnemonic_place, mnemonic_place), refl) and
    tt

pub mistakes_hold : AllMistakes mistakes
unfolding bundle_read after_first instruction_at named_at operands_at made forms mnemonics sizes mnemonic_from letters operand_at operand_of predicate_read signed_number single pair signed row is_end numbered decimal_of word_of number_from digit field_from spaces field_length same_bytes place
mistakes_hold =
    refl and
    refl and
    (rw mnemonic_place) and
    (rw mnemonic_place) and
    (rw mnemonic_place) and
    (rw mnemonic_place) and
    (rw mnemonic_place) and
    (rw mnemonic_place) and
    (rw mnemonic_place) and
    (rw (mnemonic_place, special_place)) and
    (rw mnemonic_place) and
    (rw mnemonic_place) and
    (rw mnemonic_place) and
    (rw mnemonic_place) and
    (rw mnemonic_place) and
    (rw mnemonic_place) and
    (rw (mnemonic_place, mnemonic_place)) and
    (rw mnemonic_place) and
    tt
