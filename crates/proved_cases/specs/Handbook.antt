-- Worked examples of the handbook: the pseudo instructions of sections 2.6.1 to 2.6.5, the instruction of table 2.14, and the
-- two forms of a bundle of two words. The handbook prints the word of nop alone; the others are put together by hand from the
-- formats' figures, with r1 or p1 as the destination and r2 or p2 as the source.
use Rattle.std.specs.Prelude.{ℕ, List, [], ◌∷◌, refl}
use Rattle.isa.specs.Format.{reading, row}
use Rattle.decoder.specs.Decode.{guard_of, slot_one, slot_two, decode}
use Rattle.isa.specs.declared.AluFunction.TheVariants.{Add, Sub, Nor}
use Rattle.isa.specs.declared.CompareFunction.TheVariants.{Cmpneq, Btest}
use Rattle.isa.specs.declared.PredicateFunction.TheVariants.{Por, Pxor}
use Rattle.isa.specs.declared.Op2.TheVariants.{Register, Immediate, Long}
use Rattle.isa.specs.declared.AluOperation.{AluOperation}
use Rattle.isa.specs.declared.AluOperation.TheVariants.{Arithmetic, Compare, Predicate, BitCopy}
use Rattle.isa.specs.declared.Operation.TheVariants.{Alu}
use Rattle.isa.specs.declared.Bundle.{Bundle}
use Rattle.isa.specs.declared.Bundle.TheVariants as bundle
use Rattle.proved_cases.specs.Case.{Case, AllHold}
use Rattle.proved_cases.specs.Words.{Pair, decoded, ◌is◌, p, not_p, always}

infix 70 ◌is-alu◌
-- A word that is an ALU instruction under p0.
abbrev pub ◌is-alu◌ : ℕ → AluOperation → Case Pair Bundle
w is-alu a = w is always (Alu a)

abbrev pub nop : AluOperation
nop = Arithmetic Sub 0 0 (Immediate 0)

abbrev pub handbook_cases : List (Case Pair Bundle)
handbook_cases =
    0x00400000 is-alu nop ∷
    0x00022000 is-alu Arithmetic Add 1 2 (Immediate 0) ∷  -- mov r1 = r2
    0x00020000 is-alu Arithmetic Add 1 0 (Immediate 0) ∷  -- clr r1
    0x02020101 is-alu Arithmetic Sub 1 0 (Register 2) ∷  -- neg r1 = -r2
    0x0202200B is-alu Arithmetic Nor 1 2 (Register 0) ∷  -- not r1 = ~r2
    0x00020FFF is-alu Arithmetic Add 1 0 (Immediate 4095) ∷  -- li r1 = 4095
    0x00420FFF is-alu Arithmetic Sub 1 0 (Immediate 4095) ∷  -- li r1 = -4095
    0x000200FF is-alu Arithmetic Add 1 0 (Immediate 255) ∷  -- addi r1 = r0, 255
    0x02022036 is-alu Compare Btest 1 2 (Register 0) ∷  -- isodd p1 = r2
    0x02022031 is-alu Compare Cmpneq 1 2 (Register 0) ∷  -- mov p1 = r2
    0x02022146 is-alu Predicate Por 1 (p 2) (p 2) ∷  -- pmov p1 = p2
    0x0202204A is-alu Predicate Pxor 1 (p 2) (p 0) ∷  -- pnot p1 = ~p2
    0x02020046 is-alu Predicate Por 1 (p 0) (p 0) ∷  -- pset p1 = 1
    0x0202004A is-alu Predicate Pxor 1 (p 0) (p 0) ∷  -- pclr p1 = 0
    0x02020052 is-alu BitCopy 1 0 0 (p 2) ∷  -- mov r1 = p2
    0x0202005A is-alu BitCopy 1 0 0 (not_p 2) ∷  -- the same with p2 inverted
    record {  -- add r1 = r0 + a long immediate
      given = record { first = 0x87C20000; second = 0x9ABCDEF0 };
      expected = bundle.Long (record { guard = p 0; operation = Alu (Arithmetic Add 1 0 (Long 0x9ABCDEF0)) });
    } ∷
    record {  -- nop in both slots
      given = record { first = 0x80400000; second = 0x00400000 };
      expected = bundle.Two (record { guard = p 0; operation = Alu nop }) (record { guard = p 0; operation = nop });
    } ∷
    []

pub handbook_decodes : AllHold decoded handbook_cases
unfolding decode guard_of slot_one slot_two reading row
handbook_decodes = refl
