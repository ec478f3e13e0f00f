-- The eighteen formats by number: ALUl is 0, those of `alu_formats` follow from 1 on, and those of `first_formats` from 7 on. What is
-- decoded has one of them, and each of them is decoded.
use Rattle.std.specs.Prelude.{ℕ, zero, suc, ◌+◌, ◌<◌, ◌≤◌, cond, List, [], ◌∷◌, map, ◌≡◌, refl, ltb, length, Option, None, Some}
use Rattle.std.proofs.lemmas.Option.{none-some}
use Rattle.std.proofs.Common.{sym, subst, arith, lt-ltb}
use Rattle.isa.specs.Format.{Format, reading, row}
use Rattle.isa.specs.Formats.{long_formats, alu_formats, first_formats}
use Rattle.decoder.specs.Decode.{guard_of, slot_one, slot_two, decode}
use Rattle.fields.specs.Place.{Fields, at, placed, writing}
use Rattle.fields.specs.Fields.{long_fields, alu_fields, first_fields}
use Rattle.encoder.specs.Encode.{either_slot, constant_of, guarded, in_slot, slot_word, long_word, alone, written}
use Rattle.encoder_laws.specs.FormatLaws.{in_format_lem}
use Rattle.encoder_laws.specs.FieldLaws.{guard_only, guard_and_length, long_sound, alu_sound, first_sound}
use Rattle.encoder_laws.specs.SlotLaws.{by_slot, by_words}
use Rattle.encoder_laws.specs.EncodeLaws.{IsWords, decoded_written}
use Rattle.encoder_laws.specs.AskedLaws.{instructions_of, not_undecodable, no_constant}
use Rattle.isa.specs.declared.PredicateOperand.{PredicateOperand}
use Rattle.isa.specs.declared.AluOperation.{AluOperation}
use Rattle.isa.specs.declared.Operation.{Operation}
use Rattle.isa.specs.declared.Operation.TheVariants.{Alu}
use Rattle.isa.specs.declared.Instruction.{Instruction}
use Rattle.isa.specs.declared.Bundle.{Bundle}

-- A place in a list of formats that are numbered from `first` on; 18 where the list has no such place.
abbrev pub numbered : {A : Type 0} → List (Format A) → ℕ → Fields → ℕ
numbered fs first t = cond (ltb t.format (length fs)) (first + t.format) 18

abbrev pub alu_format : AluOperation → Option ℕ → ℕ
alu_format a (Some n) = numbered long_formats 0 (long_fields a)
alu_format a None = numbered alu_formats 1 (alu_fields a)

abbrev pub format_in : Operation → Option AluOperation → ℕ
format_in o (Some a) = alu_format a (constant_of (Some a))
format_in o None = numbered first_formats 7 (first_fields o)

-- The format in which an operation is written; 18 for one that has no word.
unfoldable pub format_of : Operation → ℕ
format_of o = format_in o (either_slot o)

at_inside : {A : Type 0} (fs : List (Format A)) (k : ℕ) (f : Format A) → at fs k ≡ Some f → k < length fs
at_inside [] k f e = absurd (none-some f e)
at_inside (h ∷ fs) zero f e = omega arith
at_inside (h ∷ fs) (suc k) f e = let i = at_inside fs k f e in omega arith

numbered_below : {A : Type 0} (fs : List (Format A)) (first : ℕ) (t : Fields) (f : Format A) → at fs t.format ≡ Some f
    → first + length fs ≤ 18 → numbered fs first t < 18
numbered_below fs first t f e h =
    let i = at_inside fs t.format f e in
    rw (lt-ltb t.format (length fs) i) (omega arith)

-- What is written has one of the eighteen.
slot_format : (two : ℕ) (g : PredicateOperand) (o : Operation) (w : ℕ) → slot_word two g o ≡ Some w → format_of o < 18
unfolding slot_word guarded format_of
slot_format two g o w = by_slot (λ o x. in_slot (placed (Some 0) (guard_and_length g two)) o x ≡ Some w → format_in o x < 18) alu first o
  where
    alu : (a : AluOperation) → writing alu_formats (placed (Some 0) (guard_and_length g two)) (alu_fields a) ≡ Some w
        → alu_format a (constant_of (Some a)) < 18
    alu a e =
        let i = in_format_lem alu_formats (guard_and_length g two) (alu_fields a) w (alu_sound g two) e in
        rw (no_constant (placed (Some 0) (guard_and_length g two)) (Alu a) (subst (λ x. IsWords (alone x)) (sym e) tt))
        (numbered_below alu_formats 1 (alu_fields a) i.form i.found (omega arith))

    first : (o : Operation) → writing first_formats (placed (Some 0) (guard_and_length g two)) (first_fields o) ≡ Some w
        → numbered first_formats 7 (first_fields o) < 18
    first o e =
        let i = in_format_lem first_formats (guard_and_length g two) (first_fields o) w (first_sound g two) e in
        numbered_below first_formats 7 (first_fields o) i.form i.found (omega arith)

long_format : (g : PredicateOperand) (a : AluOperation) (w n : ℕ) → long_word g (Some a) ≡ Some w → constant_of (Some a) ≡ Some n
    → format_of (Alu a) < 18
unfolding guarded format_of
long_format g a w n e c =
    let i = in_format_lem long_formats (guard_only g) (long_fields a) w (long_sound g) e in
    rw c (numbered_below long_formats 0 (long_fields a) i.form i.found (omega arith))

abbrev pub AllBelow : List Instruction → Type 0
AllBelow [] = Unit {0}
AllBelow (i ∷ is) = (format_of i.operation < 18) × AllBelow is

written_format : (b : Bundle) → IsWords (written b) → AllBelow (instructions_of b)
written_format = by_words (λ b x. IsWords x → AllBelow (instructions_of b))
    (λ b h. absurd h)
    (λ i w e h. (slot_format 0 i.guard i.operation w e, tt))
    (λ i j w v e f h. (slot_format 1 i.guard i.operation w e, (slot_format 0 j.guard (Alu j.operation) v f, tt)))
    (λ g a w n e c h. (long_format g a w n e c, tt))

-- So has what is decoded.
pub decoded_format : (first second : ℕ) (i : Instruction) (is : List Instruction) → instructions_of (decode first second) ≡ i ∷ is
    → AllBelow (i ∷ is)
decoded_format first second i is e = subst AllBelow e
    (written_format (decode first second) (decoded_written first second (not_undecodable (decode first second) i is e)))

-- A word of each format, in the order of their numbers: ALUl; ALUi, ALUr, ALUc, ALUp, ALUb, ALUci; ALUm, SPCt, SPCf, LDT, STT, STCi,
-- STCr, CFLi, CFLri, CFLrs, CFLrt.
abbrev pub format_words : List ℕ
format_words =
    0x87C20000 ∷
    0x00020005 ∷ 0x02000000 ∷ 0x02000030 ∷ 0x02000046 ∷ 0x02000050 ∷ 0x02000060 ∷
    0x02001120 ∷ 0x02401022 ∷ 0x02420032 ∷ 0x02800000 ∷ 0x02C00000 ∷ 0x03000004 ∷
    0x03143000 ∷ 0x04000000 ∷ 0x06400000 ∷ 0x06403004 ∷ 0x0600530A ∷
    []

abbrev pub first_number : List Instruction → ℕ
first_number [] = 18
first_number (i ∷ is) = format_of i.operation

pub each_format : map (λ w. first_number (instructions_of (decode w 0))) format_words
    ≡ 0 ∷ 1 ∷ 2 ∷ 3 ∷ 4 ∷ 5 ∷ 6 ∷ 7 ∷ 8 ∷ 9 ∷ 10 ∷ 11 ∷ 12 ∷ 13 ∷ 14 ∷ 15 ∷ 16 ∷ 17 ∷ []
unfolding format_of decode guard_of slot_one slot_two reading row
each_format = refl
