-- What the laws on lists of formats ask of the three lists: the computed tests, a line for each format (`..-back`) and a line for each
-- case of an operation (`..-tells`).
use Rattle.std.specs.Prelude.{ℕ, true, false, List, [], ◌∷◌, map, ◌≡◌, refl, Some}
use Rattle.std.proofs.lemmas.Option.{same_Some, none-some}
use Rattle.std.proofs.Common.{sym, ap, ◌∙◌, arith}
use Rattle.isa.specs.Format.{Fixed, ◌⋯◌, ◌≔◌, row}
use Rattle.isa.specs.Formats.{long_formats, alu_formats, first_formats}
use Rattle.isa.specs.Tables.{kind_table, stack_table, stack_register_table, flow_table, flow_implicit_table, flow_single_table, flow_two_table}
use Rattle.decoder_laws.specs.RangeLaws.{◌also◌}
use Rattle.decoder_laws.specs.Layout.{shape, all, fixes, all_differ}
use Rattle.fields.specs.Place.{◌⟨◌⟩, at}
use Rattle.fields.specs.CodeLaws.{set_bit}
use Rattle.fields.specs.Fields.{kind_code, load_code, store_code, operand_number, long_fields, alu_fields, first_fields}
use Rattle.encoder.specs.Encode.{constant_of}
use Rattle.encoder_laws.specs.FormatLaws.{unlike, is_sound, Tells, AllBack}
use Rattle.encoder_laws.specs.Codes.{row_back, row_coded, row_of, alu_inverse, multiply_inverse, compare_inverse, predicate_inverse, special_inverse, kind_inverse, load_inverse, store_inverse, bit_back, operand_back, operand_forth, signed_back, signed_forth}
use Rattle.isa.specs.declared.PredicateOperand.{PredicateOperand}
use Rattle.isa.specs.declared.Op2.TheVariants as op2
use Rattle.isa.specs.declared.StackAmount.TheVariants as amount
use Rattle.isa.specs.declared.StackOperation.TheVariants.{Sres, Sens, Sfree, Sspill}
use Rattle.isa.specs.declared.Target.TheVariants.{Call, CallRegister, Br, BrRegister, Brcf, BrcfRegister, Ret}
use Rattle.isa.specs.declared.AluOperation.{AluOperation}
use Rattle.isa.specs.declared.AluOperation.TheVariants.{Arithmetic, Compare, Predicate, BitCopy}
use Rattle.isa.specs.declared.Operation.{Operation}
use Rattle.isa.specs.declared.Operation.TheVariants.{Alu, Multiply, Mts, Mfs, Load, Store, StackControl, Transfer, Trap, Xret}

-- The bits outside of a format: the guard, and bit 31, which the format of a long immediate fixes itself.
abbrev pub guard_only : PredicateOperand → List Fixed
guard_only g = (30 ⋯ 27 ≔ operand_number g) ∷ []

abbrev pub guard_and_length : PredicateOperand → ℕ → List Fixed
guard_and_length g two = (30 ⋯ 27 ≔ operand_number g) ∷ (31 ⋯ 31 ≔ two) ∷ []

-- The computed tests: the formats are sound whatever the guard and bit 31 are, and no word has two of them.
pub long_sound : (g : PredicateOperand) → all (is_sound (guard_only g)) (map shape long_formats) ≡ true
long_sound g = refl

pub alu_sound : (g : PredicateOperand) (two : ℕ) → all (is_sound (guard_and_length g two)) (map shape alu_formats) ≡ true
alu_sound g two = refl

pub first_sound : (g : PredicateOperand) (two : ℕ) → all (is_sound (guard_and_length g two)) (map shape first_formats) ≡ true
first_sound g two = refl

-- A long immediate has two words.
pub long_two_words : all (λ s. fixes s 31 1) (map shape long_formats) ≡ true
long_two_words = refl

pub long_differ : all_differ (map shape long_formats) ≡ true
long_differ = refl

pub alu_differ : all_differ (map shape alu_formats) ≡ true
alu_differ = refl

pub first_differ : all_differ (map shape first_formats) ≡ true
first_differ = refl

pub alu_not_first : unlike alu_formats first_formats ≡ true
alu_not_first = refl

pub first_not_alu : unlike first_formats alu_formats ≡ true
first_not_alu = refl

pub long_not_alu : unlike long_formats alu_formats ≡ true
long_not_alu = refl

pub long_not_first : unlike long_formats first_formats ≡ true
long_not_first = refl

pub alu_not_long : unlike alu_formats long_formats ≡ true
alu_not_long = refl

pub first_not_long : unlike first_formats long_formats ≡ true
first_not_long = refl

-- What a format reads is written with the same numbers in the same format.
abbrev pub IsLong : (ℕ → AluOperation) → ℕ → List ℕ → Type 0
IsLong g k ns = (n : ℕ) → (long_fields (g n) ≡ k ⟨ ns ⟩) × (constant_of (Some (g n)) ≡ Some n)

pub long_back : AllBack IsLong long_formats
long_back =
    (λ rd p rs1 q func h. row_coded alu_inverse (λ c g. IsLong g 0 (rd ∷ rs1 ∷ c ∷ [])) func _ (λ f n. (refl, refl))) also  -- ALUl
    tt

pub alu_back : AllBack (λ a k ns. alu_fields a ≡ k ⟨ ns ⟩) alu_formats
alu_back =
    (λ func h rd p rs1 q imm r. row_coded alu_inverse (λ c a. alu_fields a ≡ 0 ⟨ c ∷ rd ∷ rs1 ∷ imm ∷ [] ⟩) func _ (λ f. refl)) also  -- ALUi
    (λ rd p rs1 q rs2 r func h. row_coded alu_inverse (λ c a. alu_fields a ≡ 1 ⟨ rd ∷ rs1 ∷ rs2 ∷ c ∷ [] ⟩) func _ (λ f. refl)) also  -- ALUr
    (λ pd p rs1 q rs2 r func h. row_coded compare_inverse (λ c a. alu_fields a ≡ 2 ⟨ pd ∷ rs1 ∷ rs2 ∷ c ∷ [] ⟩) func _ (λ f. refl)) also  -- ALUc
    (λ pd p ps1 q ps2 r func h. row_coded predicate_inverse (λ c a. alu_fields a ≡ 3 ⟨ pd ∷ ps1 ∷ ps2 ∷ c ∷ [] ⟩) func _
    (λ f. rw (operand_back ps1 q, operand_back ps2 r) refl)) also  -- ALUp
    (λ rd p rs1 q imm r ps h. rw (operand_back ps h) refl) also  -- ALUb
    (λ pd p rs1 q imm r func h. row_coded compare_inverse (λ c a. alu_fields a ≡ 5 ⟨ pd ∷ rs1 ∷ imm ∷ c ∷ [] ⟩) func _ (λ f. refl)) also  -- ALUci
    tt

pub first_back : AllBack (λ o k ns. first_fields o ≡ k ⟨ ns ⟩) first_formats
first_back =
    (λ rs1 p rs2 q func h. row_coded multiply_inverse (λ c o. first_fields o ≡ 0 ⟨ rs1 ∷ rs2 ∷ c ∷ [] ⟩) func _ (λ f. refl)) also  -- ALUm
    (λ rs1 p sd h. row_coded special_inverse (λ c o. first_fields o ≡ 1 ⟨ rs1 ∷ c ∷ [] ⟩) sd _ (λ s. refl)) also  -- SPCt
    (λ rd p ss h. row_coded special_inverse (λ c o. first_fields o ≡ 2 ⟨ rd ∷ c ∷ [] ⟩) ss _ (λ s. refl)) also  -- SPCf
    (λ rd p ra q width h kind j imm r. row_coded load_inverse (λ c o. first_fields o ≡ 3 ⟨ rd ∷ ra ∷ c ∷ kind ∷ imm ∷ [] ⟩) width _
    (λ t. row_coded kind_inverse (λ c o. first_fields o ≡ 3 ⟨ rd ∷ ra ∷ load_code t ∷ c ∷ imm ∷ [] ⟩) kind _ (λ k. refl))) also  -- LDT
    (λ width h kind j ra p rs q imm r. row_coded store_inverse (λ c o. first_fields o ≡ 4 ⟨ c ∷ kind ∷ ra ∷ rs ∷ imm ∷ [] ⟩) width _
    (λ t. row_coded kind_inverse (λ c o. first_fields o ≡ 4 ⟨ store_code t ∷ c ∷ ra ∷ rs ∷ imm ∷ [] ⟩) kind _ (λ k. refl))) also  -- STT
    (λ op h imm p. row_back (λ c o. first_fields o ≡ 5 ⟨ c ∷ imm ∷ [] ⟩) stack_table op _ (refl also refl also refl also refl also tt)) also  -- STCi
    (λ op h rs p. row_back (λ c o. first_fields o ≡ 6 ⟨ c ∷ rs ∷ [] ⟩) stack_register_table op _ (refl also refl also tt)) also  -- STCr
    (λ op h imm p. let b = signed_back 22 imm (omega arith) p in
    row_back (λ c o. first_fields o ≡ 7 ⟨ c ∷ imm ∷ [] ⟩) flow_table op _
    (refl also refl also rw b refl also rw b refl also refl also refl also refl also tt)) also  -- CFLi
    (λ d h op j. row_back (λ c o. first_fields o ≡ 8 ⟨ d ∷ c ∷ [] ⟩) flow_implicit_table op _
    (rw (bit_back d h) refl also rw (bit_back d h) refl also tt)) also  -- CFLri
    (λ d h rs p op j. row_back (λ c o. first_fields o ≡ 9 ⟨ d ∷ rs ∷ c ∷ [] ⟩) flow_single_table op _
    (rw (bit_back d h) refl also rw (bit_back d h) refl also tt)) also  -- CFLrs
    (λ d h rs1 p rs2 q op j. row_back (λ c o. first_fields o ≡ 10 ⟨ d ∷ rs1 ∷ rs2 ∷ c ∷ [] ⟩) flow_two_table op _
    (rw (bit_back d h) refl also tt)) also  -- CFLrt
    tt

-- The numbers of a case, if they fit, are read as the case. A case that its list has no format for has no word either. (`h` says
-- that the numbers fit, one after the other.)
pub long_tells : (a : AluOperation) (n : ℕ) → constant_of (Some a) ≡ Some n
    → (g : ℕ → AluOperation) × (g n ≡ a) × Tells g (at long_formats (long_fields a).format) (long_fields a).numbers
long_tells (Arithmetic f rd rs1 (op2.Long m)) n e =
    let g : ℕ → AluOperation = λ c. Arithmetic f rd rs1 (op2.Long c) in
    (g, ap g (sym (same_Some m n e)), λ h. row_of alu_inverse f _)
long_tells (Arithmetic f rd rs1 (op2.Immediate m)) n e = absurd (none-some n e)
long_tells (Arithmetic f rd rs1 (op2.Register r)) n e = absurd (none-some n e)
long_tells (Compare f pd rs1 o) n e = absurd (none-some n e)
long_tells (Predicate f pd p q) n e = absurd (none-some n e)
long_tells (BitCopy rd rs1 m p) n e = absurd (none-some n e)

pub alu_tells : (a : AluOperation) → Tells a (at alu_formats (alu_fields a).format) (alu_fields a).numbers
alu_tells (Arithmetic f rd rs1 (op2.Immediate n)) = λ h. row_of alu_inverse f _
alu_tells (Arithmetic f rd rs1 (op2.Register r)) = λ h. row_of alu_inverse f _
alu_tells (Compare f pd rs1 (op2.Register r)) = λ h. row_of compare_inverse f _
alu_tells (Predicate f pd p q) = λ h. row_of predicate_inverse f _ ∙ rw (operand_forth p h.1.0, operand_forth q h.1.1.0) refl
alu_tells (BitCopy rd rs1 n p) = λ h. rw (operand_forth p h.1.1.1.0) refl
alu_tells (Compare f pd rs1 (op2.Immediate n)) = λ h. row_of compare_inverse f _
alu_tells (Arithmetic f rd rs1 (op2.Long n)) = tt
alu_tells (Compare f pd rs1 (op2.Long n)) = tt

pub first_tells : (o : Operation) → Tells o (at first_formats (first_fields o).format) (first_fields o).numbers
unfolding row
first_tells (Multiply f rs1 rs2) = λ h. row_of multiply_inverse f (λ f. Some (Multiply f rs1 rs2))
first_tells (Mts s rs1) = λ h. row_of special_inverse s (λ s. Some (Mts s rs1))
first_tells (Mfs rd s) = λ h. row_of special_inverse s (λ s. Some (Mfs rd s))
first_tells (Load k w rd ra n) = λ h. row_of load_inverse w (λ w. row kind_table (kind_code k) (λ k. Some (Load k w rd ra n)))
    ∙ row_of kind_inverse k (λ k. Some (Load k w rd ra n))
first_tells (Store k w ra rs n) = λ h. row_of store_inverse w (λ w. row kind_table (kind_code k) (λ k. Some (Store k w ra rs n)))
    ∙ row_of kind_inverse k (λ k. Some (Store k w ra rs n))
first_tells (StackControl (Sres n)) = λ h. refl
first_tells (StackControl (Sens (amount.Words n))) = λ h. refl
first_tells (StackControl (Sfree n)) = λ h. refl
first_tells (StackControl (Sspill (amount.Words n))) = λ h. refl
first_tells (StackControl (Sens (amount.Register r))) = λ h. refl
first_tells (StackControl (Sspill (amount.Register r))) = λ h. refl
first_tells (Transfer false (Call n)) = λ h. refl
first_tells (Transfer true (Call n)) = λ h. refl
first_tells (Transfer false (Br z)) = λ h. ap (λ x. Some (Transfer false (Br x))) (signed_forth 22 z (omega arith) h.1.0)
first_tells (Transfer true (Br z)) = λ h. ap (λ x. Some (Transfer true (Br x))) (signed_forth 22 z (omega arith) h.1.0)
first_tells (Transfer false (Brcf n)) = λ h. refl
first_tells (Transfer true (Brcf n)) = λ h. refl
first_tells (Trap n) = λ h. refl
first_tells (Transfer d Ret) = λ h. ap (λ x. Some (Transfer x Ret)) (set_bit d)
first_tells (Xret d) = λ h. ap (λ x. Some (Xret x)) (set_bit d)
first_tells (Transfer d (CallRegister r)) = λ h. ap (λ x. Some (Transfer x (CallRegister r))) (set_bit d)
first_tells (Transfer d (BrRegister r)) = λ h. ap (λ x. Some (Transfer x (BrRegister r))) (set_bit d)
first_tells (Transfer d (BrcfRegister r s)) = λ h. ap (λ x. Some (Transfer x (BrcfRegister r s))) (set_bit d)
first_tells (Alu a) = tt
