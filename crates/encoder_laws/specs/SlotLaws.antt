-- The word of a slot, and the first word of a long immediate: read back whole, and written for whatever is read. Bundles have these words.
use Rattle.std.specs.Prelude.{ℕ, ◌^◌, ◌<◌, Bool, true, false, cond, [], ◌∷◌, ◌≡◌, refl, Option, None, Some, Ok, Err}
use Rattle.std.proofs.lemmas.Option.{same_Some, none-some}
use Rattle.std.proofs.Common.{sym, ap, ◌∙◌, subst, arith}
use Rattle.answers.specs.declared.Refusal.TheVariants as refusal
use Rattle.isa.specs.Format.{◌⋯◌, ◌≔◌, bits, matches, reading}
use Rattle.isa.specs.Formats.{predicate_operand, long_formats, alu_formats, first_formats, applied}
use Rattle.decoder.specs.Decode.{is_two_words, guard_of, either, slot_one, slot_two, one, two, long, decode}
use Rattle.decoder_laws.specs.Layout.{fixes}
use Rattle.fields.specs.Place.{◌⟨◌⟩, placed, writing}
use Rattle.fields.specs.Fields.{operand_number, long_fields, alu_fields, first_fields}
use Rattle.encoder.specs.Encode.{either_slot, constant_of, guarded, in_slot, slot_word, long_word, alone, beside, written, Written}
use Rattle.encoder_laws.specs.PlaceLaws.{matches_head, matches_tail}
use Rattle.encoder_laws.specs.FormatLaws.{fixed_bit, at_all, InFormat, in_format_lem, write_read, read_other, find, read_write}
use Rattle.encoder_laws.specs.Codes.{operand_back, operand_forth}
use Rattle.encoder_laws.specs.FieldLaws.{IsLong, guard_only, guard_and_length, long_sound, alu_sound, first_sound, long_two_words, long_differ, alu_differ, first_differ, alu_not_first, long_not_alu, long_not_first, long_back, alu_back, first_back, long_tells, alu_tells, first_tells}
use Rattle.isa.specs.declared.PredicateOperand.{PredicateOperand}
use Rattle.isa.specs.declared.AluOperation.{AluOperation}
use Rattle.isa.specs.declared.Operation.{Operation}
use Rattle.isa.specs.declared.Operation.TheVariants.{Alu, Multiply, Mts, Mfs, Load, Store, StackControl, Transfer, Trap, Xret}
use Rattle.isa.specs.declared.Instruction.{Instruction}
use Rattle.isa.specs.declared.AluInstruction.{AluInstruction}
use Rattle.isa.specs.declared.Bundle.{Bundle}
use Rattle.isa.specs.declared.Bundle.TheVariants as bundle
use Rattle.encoder.specs.declared.CodeWords.TheVariants.{One, Two}

-- An operation is one that either slot may hold, or is not.
pub by_slot : (P : Operation → Option AluOperation → Type 0) → ((a : AluOperation) → P (Alu a) (Some a)) → ((o : Operation) → P o None)
    → (o : Operation) → P o (either_slot o)
by_slot P p q (Alu a) = p a
by_slot P p q (Multiply f rs1 rs2) = q (Multiply f rs1 rs2)
by_slot P p q (Mts s rs1) = q (Mts s rs1)
by_slot P p q (Mfs rd s) = q (Mfs rd s)
by_slot P p q (Load k w rd ra n) = q (Load k w rd ra n)
by_slot P p q (Store k w ra rs n) = q (Store k w ra rs n)
by_slot P p q (StackControl o) = q (StackControl o)
by_slot P p q (Transfer d t) = q (Transfer d t)
by_slot P p q (Trap n) = q (Trap n)
by_slot P p q (Xret d) = q (Xret d)

-- The guard, both ways. Every word has one.
guard_read : (g : PredicateOperand) (w : ℕ) → bits (30 ⋯ 27) w ≡ operand_number g → guard_of w ≡ g
unfolding guard_of
guard_read g w e = ap predicate_operand e ∙ operand_forth g (subst (λ (n : ℕ). n < 16) e (omega arith))

guard_fits : (w : ℕ) → operand_number (guard_of w) < 16
unfolding guard_of
guard_fits w = rw (operand_back (bits (30 ⋯ 27) w) (omega arith)) (omega arith)

-- What the decoder finds in a slot's word.
pub record Slot (two : ℕ) (g : PredicateOperand) (o : Operation) (w : ℕ) : Type 0 where
  pub length : bits (31 ⋯ 31) w ≡ two
  pub guard : guard_of w ≡ g
  pub operation : slot_one w ≡ Some o
  pub not_long : reading long_formats w ≡ None
  pub word : w < 2 ^ 32

pub alu_in : (two : ℕ) (g : PredicateOperand) (a : AluOperation) (w : ℕ) → slot_word two g (Alu a) ≡ Some w
    → InFormat alu_formats (guard_and_length g two) (alu_fields a) w
unfolding slot_word guarded
alu_in two g a w e = in_format_lem alu_formats (guard_and_length g two) (alu_fields a) w (alu_sound g two) e

pub alu_read : (two : ℕ) (g : PredicateOperand) (a : AluOperation) (w : ℕ) → slot_word two g (Alu a) ≡ Some w → reading alu_formats w ≡ Some a
alu_read two g a w e = write_read alu_formats _ (alu_fields a) a w alu_differ (alu_tells a) (alu_in two g a w e)

pub slot_read : (two : ℕ) (g : PredicateOperand) (o : Operation) (w : ℕ) → slot_word two g o ≡ Some w → Slot two g o w
unfolding slot_word guarded slot_one
slot_read two g o w = by_slot (λ o e. in_slot (placed (Some 0) (guard_and_length g two)) o e ≡ Some w → Slot two g o w) alu first o
  where
    length_is : matches (guard_and_length g two) w ≡ true → bits (31 ⋯ 31) w ≡ two
    length_is m = matches_head (31 ⋯ 31 ≔ two) [] w (matches_tail (30 ⋯ 27 ≔ operand_number g) (31 ⋯ 31 ≔ two ∷ []) w m)

    guard_is : matches (guard_and_length g two) w ≡ true → guard_of w ≡ g
    guard_is m = guard_read g w (matches_head (30 ⋯ 27 ≔ operand_number g) (31 ⋯ 31 ≔ two ∷ []) w m)

    alu : (a : AluOperation) → slot_word two g (Alu a) ≡ Some w → Slot two g (Alu a) w
    alu a e = let i = alu_in two g a w e in
        record {
          length = length_is i.outside;
          guard = guard_is i.outside;
          operation = ap (λ x. either x (reading first_formats w)) (alu_read two g a w e);
          not_long = read_other long_formats alu_formats _ (alu_fields a) w long_not_alu i;
          word = i.word;
        }

    first : (o : Operation) → writing first_formats (placed (Some 0) (guard_and_length g two)) (first_fields o) ≡ Some w → Slot two g o w
    first o e = let i = in_format_lem first_formats (guard_and_length g two) (first_fields o) w (first_sound g two) e in
        record {
          length = length_is i.outside;
          guard = guard_is i.outside;
          operation = ap (λ x. either x (reading first_formats w)) (read_other alu_formats first_formats _ (first_fields o) w alu_not_first i)
              ∙ write_read first_formats _ (first_fields o) o w first_differ (first_tells o) i;
          not_long = read_other long_formats first_formats _ (first_fields o) w long_not_first i;
          word = i.word;
        }

-- What the decoder finds in the first word of a long immediate.
pub record LongSlot (g : PredicateOperand) (a : AluOperation) (n w : ℕ) : Type 0 where
  pub length : bits (31 ⋯ 31) w ≡ 1
  pub guard : guard_of w ≡ g
  pub operation : applied (reading long_formats w) n ≡ Some a
  pub word : w < 2 ^ 32

pub long_read : (g : PredicateOperand) (a : AluOperation) (n w : ℕ) → long_word g (Some a) ≡ Some w → constant_of (Some a) ≡ Some n
    → LongSlot g a n w
unfolding guarded
long_read g a n w e c = let i = in_format_lem long_formats (guard_only g) (long_fields a) w (long_sound g) e in
    let t = long_tells a n c in
    let l = at_all (λ s. fixes s 31 1) long_formats (long_fields a).format i.form long_two_words i.found in
    record {
      length = fixed_bit i.form.fixed 31 1 w l i.inside;
      guard = guard_read g w (matches_head (30 ⋯ 27 ≔ operand_number g) [] w i.outside);
      operation = ap (λ x. applied x n) (write_read long_formats _ (long_fields a) t.0 w long_differ t.2 i) ∙ ap Some t.1;
      word = i.word;
    }

-- An operation that is written in a format of slot one only is no operation of either slot.
pub first_only : (o : Operation) (start : Option ℕ) (v : ℕ) → writing first_formats start (first_fields o) ≡ Some v → either_slot o ≡ None
unfolding writing
first_only o start v = by_slot (λ o e. writing first_formats start (first_fields o) ≡ Some v → e ≡ None)
    (λ a e. absurd (none-some v e)) (λ o e. refl) o

-- What is read from a word can be written, with the word's guard.
pub alu_written : (two w : ℕ) (a : AluOperation) → two < 2 → reading alu_formats w ≡ Some a
    → (v : ℕ) × (slot_word two (guard_of w) (Alu a) ≡ Some v)
unfolding slot_word guarded
alu_written two w a h e =
    let g = guard_of w in
    let f = find (λ a k ns. alu_fields a ≡ k ⟨ ns ⟩) alu_formats w a alu_back e in
    let v = read_write _ alu_formats (guard_and_length g two) w a (alu_sound g two) (guard_fits w, (h, tt)) f in
    (v.0, rw f.says v.1)

first_written : (two w : ℕ) (o : Operation) → two < 2 → reading first_formats w ≡ Some o → (v : ℕ) × (slot_word two (guard_of w) o ≡ Some v)
unfolding slot_word guarded
first_written two w o h e =
    let g = guard_of w in
    let f = find (λ o k ns. first_fields o ≡ k ⟨ ns ⟩) first_formats w o first_back e in
    let s = placed (Some 0) (guard_and_length g two) in
    let v = read_write _ first_formats (guard_and_length g two) w o (first_sound g two) (guard_fits w, (h, tt)) f in
    let q : writing first_formats s (first_fields o) ≡ Some v.0 = rw f.says v.1 in
    (v.0, ap (in_slot s o) (first_only o s v.0 q) ∙ q)

pub slot_written : (two w : ℕ) (o : Operation) → two < 2 → slot_one w ≡ Some o → (v : ℕ) × (slot_word two (guard_of w) o ≡ Some v)
unfolding slot_one
slot_written two w o h = go (reading alu_formats w) refl
  where
    go : (x : Option AluOperation) → reading alu_formats w ≡ x → either x (reading first_formats w) ≡ Some o
        → (v : ℕ) × (slot_word two (guard_of w) o ≡ Some v)
    go None e q = first_written two w o h q
    go (Some a) e q =
        let v = alu_written two w a h e in
        (v.0, ap (slot_word two (guard_of w)) (sym (same_Some (Alu a) o q)) ∙ v.1)

pub long_written : (w n : ℕ) (a : AluOperation) → applied (reading long_formats w) n ≡ Some a
    → (v : ℕ) × (long_word (guard_of w) (Some a) ≡ Some v) × (constant_of (Some a) ≡ Some n)
unfolding guarded
long_written w n a = go (reading long_formats w) refl
  where
    go : (x : Option (ℕ → AluOperation)) → reading long_formats w ≡ x → applied x n ≡ Some a
        → (v : ℕ) × (long_word (guard_of w) (Some a) ≡ Some v) × (constant_of (Some a) ≡ Some n)
    go None e q = absurd (none-some a q)
    go (Some g) e q =
        let k = guard_of w in
        let f = find IsLong long_formats w g long_back e in
        let v = read_write _ long_formats (guard_only k) w g (long_sound k) (guard_fits w, tt) f in
        subst (λ (a : AluOperation). (v : ℕ) × (long_word (guard_of w) (Some a) ≡ Some v) × (constant_of (Some a) ≡ Some n))
        (same_Some (g n) a q)
        (v.0, rw (f.says n).0 v.1, (f.says n).1)

-- What holds of a refusal, and of the words of each kind of bundle, holds of what is written.
abbrev pub long_of : PredicateOperand → Operation → Bundle
long_of g o = bundle.Long (record { guard = g; operation = o })

pub by_words : (P : Bundle → Written → Type 0)
    → ((b : Bundle) → P b (Err refusal.NoWords))
    → ((i : Instruction) (w : ℕ) → slot_word 0 i.guard i.operation ≡ Some w → P (bundle.One i) (Ok (One w)))
    → ((i : Instruction) (j : AluInstruction) (w v : ℕ) → slot_word 1 i.guard i.operation ≡ Some w
    → slot_word 0 j.guard (Alu j.operation) ≡ Some v → P (bundle.Two i j) (Ok (Two w v)))
    → ((g : PredicateOperand) (a : AluOperation) (w n : ℕ) → long_word g (Some a) ≡ Some w → constant_of (Some a) ≡ Some n
    → P (long_of g (Alu a)) (Ok (Two w n)))
    → (b : Bundle) → P b (written b)
unfolding written
by_words P r one two long bundle.Undecodable = r bundle.Undecodable
by_words P r one two long (bundle.One i) = go (slot_word 0 i.guard i.operation) refl
  where
    go : (x : Option ℕ) → slot_word 0 i.guard i.operation ≡ x → P (bundle.One i) (alone x)
    go None e = r (bundle.One i)
    go (Some w) e = one i w e
by_words P r one two long (bundle.Two i j) = go (slot_word 1 i.guard i.operation) (slot_word 0 j.guard (Alu j.operation)) refl refl
  where
    go : (x y : Option ℕ) → slot_word 1 i.guard i.operation ≡ x → slot_word 0 j.guard (Alu j.operation) ≡ y
        → P (bundle.Two i j) (beside x y)
    go None y e f = r (bundle.Two i j)
    go (Some w) None e f = r (bundle.Two i j)
    go (Some w) (Some v) e f = two i j w v e f
by_words P r one two long (bundle.Long i) =
    let g = i.guard in
    by_slot (λ o x. P (long_of g o) (beside (long_word g x) (constant_of x)))
    (λ a. go g a (long_word g (Some a)) (constant_of (Some a)) refl refl) (λ o. r (long_of g o)) i.operation
  where
    go : (g : PredicateOperand) (a : AluOperation) (x y : Option ℕ) → long_word g (Some a) ≡ x → constant_of (Some a) ≡ y
        → P (long_of g (Alu a)) (beside x y)
    go g a None y e f = r (long_of g (Alu a))
    go g a (Some w) None e f = r (long_of g (Alu a))
    go g a (Some w) (Some n) e f = long g a w n e f

-- What holds of undecodable words, and of each kind of bundle by what its words say, holds of what is decoded.
pub by_decode : (P : Bool → Bundle → Type 0) (first second : ℕ)
    → ((t : Bool) → P t bundle.Undecodable)
    → ((a : AluOperation) → applied (reading long_formats first) second ≡ Some a → P true (long_of (guard_of first) (Alu a)))
    → ((o : Operation) (a : AluOperation) → is_two_words first ≡ true → slot_one first ≡ Some o → slot_two second ≡ Some a
    → P true (bundle.Two (record { guard = guard_of first; operation = o }) (record { guard = guard_of second; operation = a })))
    → ((o : Operation) → is_two_words first ≡ false → slot_one first ≡ Some o → P false (bundle.One (record { guard = guard_of first; operation = o })))
    → P (is_two_words first) (decode first second)
unfolding decode
by_decode P first second nothing long-immediate pair alone =
    go (is_two_words first) refl (applied (reading long_formats first) second) (slot_one first) (slot_two second) refl refl refl
  where
    go : (t : Bool) → is_two_words first ≡ t → (l : Option AluOperation) (o : Option Operation) (a : Option AluOperation)
        → applied (reading long_formats first) second ≡ l → slot_one first ≡ o → slot_two second ≡ a
        → P t (cond t (long (guard_of first) l (two (guard_of first) o (guard_of second) a)) (one (guard_of first) o))
    go true p (Some l) o a e f g = long-immediate l e
    go true p None (Some o) (Some a) e f g = pair o a p f g
    go true p None (Some o) None e f g = nothing true
    go true p None None a e f g = nothing true
    go false p l (Some o) a e f g = alone o p f
    go false p l None a e f g = nothing false
