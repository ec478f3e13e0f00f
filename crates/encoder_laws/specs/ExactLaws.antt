-- Bits without a meaning in the words of a bundle: the writer leaves them zero, and words that decode and have zeros there are exactly
-- what is written for the bundle that they decode to.
use Rattle.std.specs.Prelude.{ℕ, ◌<◌, ◌^◌, Bool, true, false, cond, ◌&&◌, ◌≡◌, refl, eqb, Option, None, Some, Ok, Err}
use Rattle.std.proofs.lemmas.Option.{same_Some, none-some}
use Rattle.std.proofs.Common.{sym, ap, ◌∙◌, subst, arith, eq-eqb, eqb-true}
use Rattle.std.proofs.lemmas.Bool.{eqb-false}
use Rattle.word.specs.BoolLaws.{and_left, and_right}
use Rattle.isa.specs.Format.{◌⋯◌, bits, matches, Format, reading}
use Rattle.isa.specs.Formats.{long_formats, alu_formats, first_formats, applied}
use Rattle.decoder.specs.Decode.{is_two_words, guard_of, either, slot_one, slot_two, decode}
use Rattle.fields.specs.Place.{◌⟨◌⟩, at, placed, writing}
use Rattle.fields.specs.Fields.{operand_number, long_fields, alu_fields, first_fields}
use Rattle.encoder.specs.Encode.{constant_of, guarded, in_slot, slot_word, long_word, written, Written}
use Rattle.encoder_laws.specs.FormatLaws.{in_format_lem, find}
use Rattle.encoder_laws.specs.UnusedLaws.{blanks, unused_zero, bare, write_bare, other_bare, read_whole}
use Rattle.encoder_laws.specs.Codes.{operand_back}
use Rattle.encoder_laws.specs.FieldLaws.{IsLong, guard_only, guard_and_length, long_sound, alu_sound, first_sound, long_differ, alu_differ, first_differ, alu_not_first, first_not_alu, alu_not_long, first_not_long, long_not_alu, long_not_first, long_back, alu_back, first_back}
use Rattle.encoder_laws.specs.SlotLaws.{by_decode, by_slot, by_words, alu_in, first_only}
use Rattle.encoder_laws.specs.EncodeLaws.{slot_two_reads, fixed_form}
use Rattle.isa.specs.declared.PredicateOperand.{PredicateOperand}
use Rattle.isa.specs.declared.AluOperation.{AluOperation}
use Rattle.isa.specs.declared.Operation.{Operation}
use Rattle.isa.specs.declared.Operation.TheVariants.{Alu}
use Rattle.isa.specs.declared.Bundle.{Bundle}
use Rattle.isa.specs.declared.Bundle.TheVariants as bundle
use Rattle.encoder.specs.declared.CodeWords.TheVariants.{One, Two}

-- A written word has zeros in the bits that its format leaves without a meaning, for each of the three lists.
pub long_unused_zero : (g : PredicateOperand) (a : AluOperation) (w : ℕ) (f : Format (ℕ → AluOperation))
    → long_word g (Some a) ≡ Some w → at long_formats (long_fields a).format ≡ Some f → matches (blanks f.unused) w ≡ true
unfolding guarded
long_unused_zero g a w f = unused_zero long_formats (guard_only g) (long_fields a) w f (long_sound g)

pub alu_unused_zero : (two : ℕ) (g : PredicateOperand) (a : AluOperation) (w : ℕ) (f : Format AluOperation)
    → slot_word two g (Alu a) ≡ Some w → at alu_formats (alu_fields a).format ≡ Some f → matches (blanks f.unused) w ≡ true
unfolding guarded slot_word
alu_unused_zero two g a w f = unused_zero alu_formats (guard_and_length g two) (alu_fields a) w f
    (alu_sound g two)

pub first_unused_zero : (two : ℕ) (g : PredicateOperand) (o : Operation) (w : ℕ) (f : Format Operation)
    → slot_word two g o ≡ Some w → at first_formats (first_fields o).format ≡ Some f → matches (blanks f.unused) w ≡ true
unfolding guarded slot_word
first_unused_zero two g o w f = by_slot (λ o e. in_slot (placed (Some 0) (guard_and_length g two)) o e ≡ Some w
    → at first_formats (first_fields o).format ≡ Some f → matches (blanks f.unused) w ≡ true)
    (λ a e k. absurd (none-some f k))
    (λ o. unused_zero first_formats (guard_and_length g two) (first_fields o) w f (first_sound g two)) o

-- A word has zeros in the bits without a meaning, whichever format it has.
unfoldable pub bare_word : ℕ → Bool
bare_word w = bare long_formats w && (bare alu_formats w && bare first_formats w)

word_bare : (w : ℕ) → bare long_formats w ≡ true → bare alu_formats w ≡ true → bare first_formats w ≡ true → bare_word w ≡ true
unfolding bare_word
word_bare w p q r = rw (p, q) r

long_of_bare : (w : ℕ) → bare_word w ≡ true → bare long_formats w ≡ true
unfolding bare_word
long_of_bare w e = and_left _ _ e

alu_of_bare : (w : ℕ) → bare_word w ≡ true → bare alu_formats w ≡ true
unfolding bare_word
alu_of_bare w e = and_left _ _ (and_right (bare long_formats w) _ e)

first_of_bare : (w : ℕ) → bare_word w ≡ true → bare first_formats w ≡ true
unfolding bare_word
first_of_bare w e = and_right (bare alu_formats w) _ (and_right (bare long_formats w) _ e)

slot_bare : (two : ℕ) (g : PredicateOperand) (o : Operation) (w : ℕ) → slot_word two g o ≡ Some w → bare_word w ≡ true
unfolding guarded slot_word
slot_bare two g o w = by_slot (λ o e. in_slot (placed (Some 0) (guard_and_length g two)) o e ≡ Some w → bare_word w ≡ true) alu first o
  where
    alu : (a : AluOperation) → slot_word two g (Alu a) ≡ Some w → bare_word w ≡ true
    alu a e =
        let i = alu_in two g a w e in
        word_bare w
        (other_bare long_formats alu_formats _ (alu_fields a) w long_not_alu i)
        (write_bare alu_formats _ (alu_fields a) w alu_differ (alu_sound g two) i)
        (other_bare first_formats alu_formats _ (alu_fields a) w first_not_alu i)

    first : (o : Operation) → writing first_formats (placed (Some 0) (guard_and_length g two)) (first_fields o) ≡ Some w → bare_word w ≡ true
    first o e =
        let i = in_format_lem first_formats (guard_and_length g two) (first_fields o) w (first_sound g two) e in
        word_bare w
        (other_bare long_formats first_formats _ (first_fields o) w long_not_first i)
        (other_bare alu_formats first_formats _ (first_fields o) w alu_not_first i)
        (write_bare first_formats _ (first_fields o) w first_differ (first_sound g two) i)

long_bare : (g : PredicateOperand) (a : AluOperation) (w : ℕ) → long_word g (Some a) ≡ Some w → bare_word w ≡ true
unfolding guarded
long_bare g a w e =
    let i = in_format_lem long_formats (guard_only g) (long_fields a) w (long_sound g) e in
    word_bare w
    (write_bare long_formats _ (long_fields a) w long_differ (long_sound g) i)
    (other_bare alu_formats long_formats _ (long_fields a) w alu_not_long i)
    (other_bare first_formats long_formats _ (long_fields a) w first_not_long i)

-- Every word has its own guard and bit 31.
guard_has : (w : ℕ) → eqb (bits (30 ⋯ 27) w) (operand_number (guard_of w)) ≡ true
unfolding guard_of
guard_has w = eq-eqb _ _ (sym (operand_back (bits (30 ⋯ 27) w) (omega arith)))

outside_has : (w two : ℕ) → bits (31 ⋯ 31) w ≡ two → matches (guard_and_length (guard_of w) two) w ≡ true
outside_has w two e = rw (guard_has w, eq-eqb (bits (31 ⋯ 31) w) two e) refl

clear : (w : ℕ) → is_two_words w ≡ false → bits (31 ⋯ 31) w ≡ 0
clear w e = omega (arith, eqb-false (bits (31 ⋯ 31) w) 1 e)

slot_two_clear : (w : ℕ) (a : AluOperation) → slot_two w ≡ Some a → bits (31 ⋯ 31) w ≡ 0
unfolding slot_two
slot_two_clear w a = go (is_two_words w) refl
  where
    go : (t : Bool) → is_two_words w ≡ t → cond t None (reading alu_formats w) ≡ Some a → bits (31 ⋯ 31) w ≡ 0
    go true p e = absurd (none-some a e)
    go false p e = clear w p

-- What is read from a bare word is written as that word.
alu_exact : (w two : ℕ) (a : AluOperation) → bits (31 ⋯ 31) w ≡ two → bare_word w ≡ true → w < 2 ^ 32 → reading alu_formats w ≡ Some a
    → slot_word two (guard_of w) (Alu a) ≡ Some w
unfolding slot_word guarded
alu_exact w two a t b h e =
    let g = guard_of w in
    let f = find (λ a k ns. alu_fields a ≡ k ⟨ ns ⟩) alu_formats w a alu_back e in
    rw f.says
    (read_whole _ alu_formats (guard_and_length g two) w a alu_differ (alu_sound g two) f (outside_has w two t) (alu_of_bare w b) h)

first_exact : (w two : ℕ) (o : Operation) → bits (31 ⋯ 31) w ≡ two → bare_word w ≡ true → w < 2 ^ 32 → reading first_formats w ≡ Some o
    → slot_word two (guard_of w) o ≡ Some w
unfolding slot_word guarded
first_exact w two o t b h e =
    let g = guard_of w in
    let f = find (λ o k ns. first_fields o ≡ k ⟨ ns ⟩) first_formats w o first_back e in
    let s = placed (Some 0) (guard_and_length g two) in
    let v = read_whole _ first_formats (guard_and_length g two) w o first_differ (first_sound g two) f (outside_has w two t)
    (first_of_bare w b) h in
    let q : writing first_formats s (first_fields o) ≡ Some w = rw f.says v in
    ap (in_slot s o) (first_only o s w q) ∙ q

slot_exact : (w two : ℕ) (o : Operation) → bits (31 ⋯ 31) w ≡ two → bare_word w ≡ true → w < 2 ^ 32 → slot_one w ≡ Some o
    → slot_word two (guard_of w) o ≡ Some w
unfolding slot_one
slot_exact w two o t b h = go (reading alu_formats w) refl
  where
    go : (x : Option AluOperation) → reading alu_formats w ≡ x → either x (reading first_formats w) ≡ Some o
        → slot_word two (guard_of w) o ≡ Some w
    go None e q = first_exact w two o t b h q
    go (Some a) e q = ap (slot_word two (guard_of w)) (sym (same_Some (Alu a) o q)) ∙ alu_exact w two a t b h e

long_exact : (w n : ℕ) (a : AluOperation) → bare_word w ≡ true → w < 2 ^ 32 → applied (reading long_formats w) n ≡ Some a
    → (long_word (guard_of w) (Some a) ≡ Some w) × (constant_of (Some a) ≡ Some n)
unfolding guarded
long_exact w n a b h = go (reading long_formats w) refl
  where
    go : (x : Option (ℕ → AluOperation)) → reading long_formats w ≡ x → applied x n ≡ Some a
        → (long_word (guard_of w) (Some a) ≡ Some w) × (constant_of (Some a) ≡ Some n)
    go None e q = absurd (none-some a q)
    go (Some g) e q =
        let k = guard_of w in
        let f = find IsLong long_formats w g long_back e in
        let v = read_whole _ long_formats (guard_only k) w g long_differ (long_sound k) f (rw (guard_has w) refl) (long_of_bare w b) h in
        subst (λ (a : AluOperation). (long_word k (Some a) ≡ Some w) × (constant_of (Some a) ≡ Some n)) (same_Some (g n) a q)
        (rw (f.says n).0 v, (f.says n).1)

-- The words of a bundle are bare: each that holds an instruction. (A long immediate's second word is all meaning.)
abbrev pub Bare : ℕ → ℕ → Bundle → Type 0
Bare first second bundle.Undecodable = Unit {0}
Bare first second (bundle.One i) = bare_word first ≡ true
Bare first second (bundle.Two i j) = (bare_word first ≡ true) × (bare_word second ≡ true)
Bare first second (bundle.Long i) = bare_word first ≡ true

abbrev pub BareWords : Written → Bundle → Type 0
BareWords (Ok (One w)) b = (second : ℕ) → Bare w second b
BareWords (Ok (Two w v)) b = Bare w v b
BareWords (Err n) b = Unit {0}

pub written_bare : (b : Bundle) → BareWords (written b) b
written_bare = by_words (λ b x. BareWords x b) (λ b. tt)
    (λ i w e s. slot_bare 0 i.guard i.operation w e)
    (λ i j w v e f. (slot_bare 1 i.guard i.operation w e, slot_bare 0 j.guard (Alu j.operation) v f))
    (λ g a w n e f. long_bare g a w e)

-- The words that a bundle is decoded from.
abbrev pub words_of : ℕ → ℕ → Written
words_of first second = cond (is_two_words first) (Ok (Two first second)) (Ok (One first))

-- Bare words that decode are their own fixed form.
pub written_exactly : (first second : ℕ) → first < 2 ^ 32 → second < 2 ^ 32 → (decode first second ≡ bundle.Undecodable → ⊥)
    → Bare first second (decode first second) → fixed_form first second ≡ words_of first second
unfolding fixed_form written
written_exactly first second h k = by_decode
    (λ t b. (b ≡ bundle.Undecodable → ⊥) → Bare first second b → written b ≡ cond t (Ok (Two first second)) (Ok (One first))) first second
    (λ t d b. absurd (d refl))
    (λ a e d b. let v = long_exact first second a b h e in rw (v.0, v.1) refl)
    (λ o a p f g d b.
    let v = slot_exact first 1 o (eqb-true _ _ p) b.0 h f in
    let u = alu_exact second 0 a (slot_two_clear second a g) b.1 k (slot_two_reads second a g) in
    rw (v, u) refl)
    (λ o p f d b. rw (slot_exact first 0 o (clear first p) b h f) refl)

-- And only those are.
pub exactly_bare : (first second : ℕ) → fixed_form first second ≡ words_of first second → Bare first second (decode first second)
unfolding fixed_form
exactly_bare first second e =
    go (is_two_words first) (decode first second) (subst (λ (x : Written). BareWords x (decode first second)) e (written_bare (decode first second)))
  where
    go : (t : Bool) (b : Bundle) → BareWords (cond t (Ok (Two first second)) (Ok (One first))) b → Bare first second b
    go true b h = h
    go false b h = h second
