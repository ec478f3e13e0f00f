-- What an operation that either slot can hold does, and what the special registers read as. Both are computed from the state at the start
-- of the bundle.
use Rattle.std.specs.Prelude.{ℕ, ◌+◌, ◌*◌, Bool, false, not, cond, List, [], ◌∷◌, get_or}
use Rattle.std.specs.Bool.{beq}
use Rattle.word.specs.Word.{copy_bit}
use Rattle.alu.specs.Alu.{arithmetic, compare, combine}
use Rattle.isa.specs.declared.PredicateOperand.{PredicateOperand}
use Rattle.isa.specs.declared.Op2.{Op2}
use Rattle.isa.specs.declared.Op2.TheVariants as op2
use Rattle.isa.specs.declared.AluOperation.{AluOperation}
use Rattle.isa.specs.declared.AluOperation.TheVariants.{Arithmetic, Compare, Predicate, BitCopy}
use Rattle.isa.specs.declared.Special.{Special}
use Rattle.isa.specs.declared.Special.TheVariants.{S0, Sl, Sh, Ss, St, Srb, Sro, Sxb, Sxo}
use Rattle.isa.specs.declared.AluInstruction.{AluInstruction}
use Rattle.alu_effects.specs.declared.Specials.{Specials}
use Rattle.alu_effects.specs.declared.AluEffect.{AluEffect}
use Rattle.alu_effects.specs.declared.AluEffect.TheVariants as alu

-- The value of a predicate operand.
abbrev pub holds : List Bool → PredicateOperand → Bool
holds predicates p = not (beq p.negated (get_or predicates p.predicate false))

-- s0: the predicates, p0 in bit 0.
unfoldable pub predicates_word : List Bool → ℕ
predicates_word [] = 0
predicates_word (p ∷ ps) = cond p 1 0 + 2 * predicates_word ps

unfoldable pub special : List Bool → Specials → Special → ℕ
special ps s S0 = predicates_word ps
special ps s Sl = s.sl
special ps s Sh = s.sh
special ps s Ss = s.ss
special ps s St = s.st
special ps s Srb = s.srb
special ps s Sro = s.sro
special ps s Sxb = s.sxb
special ps s Sxo = s.sxo

-- The second operand of ALU and compare functions. The long constant is a word, the other immediates are zero-extended.
unfoldable pub op2_value : List ℕ → Op2 → ℕ
op2_value registers (op2.Register r) = get_or registers r 0
op2_value registers (op2.Immediate n) = n
op2_value registers (op2.Long n) = n

-- Sections 2.6.1 and 2.6.3 to 2.6.5.
unfoldable pub alu_effect : List ℕ → List Bool → AluOperation → AluEffect
alu_effect rs ps (Arithmetic f rd rs1 o) = alu.Register rd (arithmetic f (get_or rs rs1 0) (op2_value rs o))
alu_effect rs ps (Compare f pd rs1 o) = alu.Predicate pd (compare f (get_or rs rs1 0) (op2_value rs o))
alu_effect rs ps (Predicate f pd ps1 ps2) = alu.Predicate pd (combine f (holds ps ps1) (holds ps ps2))
alu_effect rs ps (BitCopy rd rs1 bit p) = alu.Register rd (copy_bit (get_or rs rs1 0) bit (holds ps p))

-- An instruction of slot two. Where its guard is false it does nothing.
unfoldable pub slot_two_effect : List ℕ → List Bool → AluInstruction → AluEffect
slot_two_effect rs ps i = cond (holds ps i.guard) (alu_effect rs ps i.operation) alu.Nothing
