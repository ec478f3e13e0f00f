-- Bundles and their words, worked out by hand from the figures of section 2.5.
use Rattle.std.specs.Prelude.{ℕ, true, false, List, [], ◌∷◌, map, ◌≡◌, refl, pos, negsuc, Ok, Err}
use Rattle.answers.specs.declared.Refusal.TheVariants as refusal
use Rattle.isa.specs.Format.{reading, row}
use Rattle.decoder.specs.Decode.{guard_of, slot_one, slot_two, decode}
use Rattle.fields.specs.Place.{writing}
use Rattle.encoder.specs.Encode.{guarded, slot_word, written, single, pair, Written}
use Rattle.encoder_laws.specs.EncodeLaws.{fixed_form}
use Rattle.isa.specs.declared.PredicateOperand.{PredicateOperand}
use Rattle.isa.specs.declared.AluFunction.TheVariants.{Add, Sub, Sl, Nor, Shadd2}
use Rattle.isa.specs.declared.MultiplyFunction.TheVariants.{Mul}
use Rattle.isa.specs.declared.CompareFunction.TheVariants.{Cmpeq}
use Rattle.isa.specs.declared.PredicateFunction.TheVariants.{Por}
use Rattle.isa.specs.declared.Special.TheVariants as special
use Rattle.isa.specs.declared.AccessKind.TheVariants.{Stack}
use Rattle.isa.specs.declared.LoadWidth.TheVariants.{Word}
use Rattle.isa.specs.declared.Op2.TheVariants.{Register, Immediate, Long}
use Rattle.isa.specs.declared.StackOperation.TheVariants.{Sres}
use Rattle.isa.specs.declared.Target.TheVariants.{CallRegister, Br, BrcfRegister, Ret}
use Rattle.isa.specs.declared.AluOperation.TheVariants.{Arithmetic, Compare, Predicate, BitCopy}
use Rattle.isa.specs.declared.Operation.{Operation}
use Rattle.isa.specs.declared.Operation.TheVariants.{Alu, Multiply, Mts, Load, StackControl, Transfer, Trap}
use Rattle.isa.specs.declared.Instruction.{Instruction}
use Rattle.isa.specs.declared.Bundle.{Bundle}
use Rattle.isa.specs.declared.Bundle.TheVariants as bundle
use Rattle.encoder.specs.declared.CodeWords.TheVariants.{One, Two}

infix 70 ◌⟶◌
pub record Example : Type 0 where
  pub bundle : Bundle
  pub words : Written

abbrev pub ◌⟶◌ : Bundle → Written → Example
b ⟶ w = record { bundle = b; words = w }

-- A predicate, a negated one, and an instruction under a guard or under none.
abbrev pub p : ℕ → PredicateOperand
p n = record { negated = false; predicate = n }

abbrev pub not_p : ℕ → PredicateOperand
not_p n = record { negated = true; predicate = n }

abbrev pub under : PredicateOperand → Operation → Instruction
under g o = record { guard = g; operation = o }

abbrev pub plain : Operation → Instruction
plain o = under (p 0) o

abbrev pub nop : Instruction
nop = plain (Alu (Arithmetic Sub 0 0 (Immediate 0)))

abbrev pub addl : Instruction
addl = plain (Alu (Arithmetic Add 1 0 (Long 0x9ABCDEF0)))

abbrev pub examples : List Example
examples =
    single (plain (Transfer true (CallRegister 3))) ⟶ Ok (One 0x06403004) ∷
    single (plain (Transfer false (BrcfRegister 5 6))) ⟶ Ok (One 0x0600530A) ∷
    single (plain (Transfer true Ret)) ⟶ Ok (One 0x06400000) ∷
    -- br at the ends of its range, and one beyond
    single (plain (Transfer true (Br (negsuc 0)))) ⟶ Ok (One 0x04FFFFFF) ∷
    single (plain (Transfer true (Br (pos 2097151)))) ⟶ Ok (One 0x04DFFFFF) ∷
    single (plain (Transfer true (Br (negsuc 2097151)))) ⟶ Ok (One 0x04E00000) ∷
    single (plain (Transfer true (Br (pos 2097152)))) ⟶ Err refusal.NoWords ∷
    single (plain (Transfer true (Br (negsuc 2097152)))) ⟶ Err refusal.NoWords ∷
    -- immediates at the end of their bits, and one beyond
    single (plain (Trap 4194303)) ⟶ Ok (One 0x05BFFFFF) ∷
    single (plain (Trap 4194304)) ⟶ Err refusal.NoWords ∷
    single (plain (Alu (Arithmetic Sl 1 2 (Immediate 4095)))) ⟶ Ok (One 0x00C22FFF) ∷
    single (plain (Alu (Arithmetic Sl 1 2 (Immediate 4096)))) ⟶ Err refusal.NoWords ∷
    single (plain (StackControl (Sres 262143))) ⟶ Ok (One 0x0303FFFF) ∷
    single (plain (StackControl (Sres 262144))) ⟶ Err refusal.NoWords ∷
    single (plain (Load Stack Word 31 31 127)) ⟶ Ok (One 0x02BFF07F) ∷
    single (plain (Load Stack Word 31 31 128)) ⟶ Err refusal.NoWords ∷
    -- predicates
    single (under (not_p 0) (Mts special.Sl 1)) ⟶ Ok (One 0x42401022) ∷
    single (plain (Alu (Predicate Por 7 (not_p 7) (not_p 7)))) ⟶ Ok (One 0x020EF7C6) ∷
    single (plain (Alu (BitCopy 1 2 31 (not_p 7)))) ⟶ Ok (One 0x02022FDF) ∷
    -- long immediates
    single addl ⟶ Ok (Two 0x87C20000 0x9ABCDEF0) ∷
    single (under (not_p 7) (Alu (Arithmetic Shadd2 1 0 (Long 7)))) ⟶ Ok (Two 0xFFC2000D 7) ∷
    -- pairs
    pair (plain (Alu (Compare Cmpeq 1 2 (Register 3)))) (under (p 1) (Alu (Arithmetic Add 4 5 (Register 6)))) ⟶ Ok (Two 0x820221B0 0x0A085300) ∷
    pair nop nop ⟶ Ok (Two 0x80400000 0x00400000) ∷
    pair (plain (Multiply Mul 1 2)) nop ⟶ Ok (Two 0x82001120 0x00400000) ∷
    -- what a slot does not hold
    pair nop (plain (Multiply Mul 1 2)) ⟶ Err refusal.NoWords ∷
    pair addl nop ⟶ Err refusal.NoWords ∷
    pair nop addl ⟶ Err refusal.NoWords ∷
    bundle.One addl ⟶ Err refusal.NoWords ∷
    bundle.Long nop ⟶ Err refusal.NoWords ∷
    -- numbers that no field holds, a function code that ALUi has no room for, and a compare with a long constant
    single (under (p 8) (Alu (Arithmetic Sub 0 0 (Immediate 0)))) ⟶ Err refusal.NoWords ∷
    single (plain (Alu (Arithmetic Add 32 0 (Register 0)))) ⟶ Err refusal.NoWords ∷
    single (plain (Alu (Compare Cmpeq 8 0 (Register 0)))) ⟶ Err refusal.NoWords ∷
    single (plain (Alu (Predicate Por 0 (p 8) (p 0)))) ⟶ Err refusal.NoWords ∷
    single (plain (Mts special.Sl 32)) ⟶ Err refusal.NoWords ∷
    single (plain (Alu (Arithmetic Nor 0 0 (Immediate 0)))) ⟶ Err refusal.NoWords ∷
    single (plain (Alu (Compare Cmpeq 0 0 (Long 0)))) ⟶ Err refusal.NoWords ∷
    bundle.Undecodable ⟶ Err refusal.NoWords ∷
    []

pub examples_written : map (λ e. written e.bundle) examples ≡ map (λ e. e.words) examples
unfolding written single pair slot_word guarded writing
examples_written = refl

-- Bits without a meaning are zero in the fixed form: bits 21 to 17 of ALUm, and bits 16 to 12 of CFLri.
pub mul_fixed : fixed_form 0x023E1120 0 ≡ Ok (One 0x02001120)
unfolding fixed_form decode guard_of slot_one slot_two reading row written slot_word guarded writing
mul_fixed = refl

pub ret_fixed : fixed_form 0x06403000 0 ≡ Ok (One 0x06400000)
unfolding fixed_form decode guard_of slot_one slot_two reading row written slot_word guarded writing
ret_fixed = refl

-- Words that decode to nothing have no fixed form: trap has no bit 22.
pub none_fixed : fixed_form 0x05C00000 0 ≡ Err refusal.NoWords
unfolding fixed_form decode guard_of slot_one slot_two reading row written slot_word guarded writing
none_fixed = refl
