-- The cases on words that are marked P: code words and the bundles that they encode.
use Rattle.std.specs.Prelude.{ℕ, true, false, List, [], ◌∷◌, refl, negsuc}
use Rattle.word.specs.Word.{signed}
use Rattle.isa.specs.Format.{reading, row}
use Rattle.decoder.specs.Decode.{guard_of, slot_one, decode}
use Rattle.isa.specs.declared.PredicateOperand.{PredicateOperand}
use Rattle.isa.specs.declared.StackAmount.TheVariants.{Words, Register}
use Rattle.isa.specs.declared.StackOperation.TheVariants.{Sres, Sens, Sfree, Sspill}
use Rattle.isa.specs.declared.Target.TheVariants.{Call, CallRegister, Br, Ret}
use Rattle.isa.specs.declared.Operation.{Operation}
use Rattle.isa.specs.declared.Operation.TheVariants.{StackControl, Transfer}
use Rattle.isa.specs.declared.Bundle.{Bundle}
use Rattle.isa.specs.declared.Bundle.TheVariants.{Undecodable, One}
use Rattle.proved_cases.specs.Case.{Case, AllHold}

infix 70 ◌is◌
-- A first and a second word.
pub record Pair : Type 0 where
  pub first : ℕ
  pub second : ℕ

abbrev pub decoded : Pair → Bundle
decoded p = decode p.first p.second

-- A word that is a bundle by itself. The word after it does not matter, and is zero here.
abbrev pub ◌is◌ : ℕ → Bundle → Case Pair Bundle
w is b = record { given = record { first = w; second = 0 }; expected = b }

-- The predicate p n as a guard or an operand, and its negation.
abbrev pub p : ℕ → PredicateOperand
p n = record { negated = false; predicate = n }

abbrev pub not_p : ℕ → PredicateOperand
not_p n = record { negated = true; predicate = n }

-- An instruction under a guard, and one under p0, which is always done.
abbrev pub when : PredicateOperand → Operation → Bundle
when g o = One (record { guard = g; operation = o })

abbrev pub always : Operation → Bundle
always = when (p 0)

abbrev pub word_cases : List (Case Pair Bundle)
word_cases =
    0x03000004 is always (StackControl (Sres 4)) ∷
    0x03100004 is always (StackControl (Sens (Words 4))) ∷
    0x03200004 is always (StackControl (Sfree 4)) ∷
    0x03300004 is always (StackControl (Sspill (Words 4))) ∷
    0x03143000 is always (StackControl (Sens (Register 3))) ∷
    0x04000000 is always (Transfer false (Call 0)) ∷  -- callnd 0
    0x06400000 is always (Transfer true Ret) ∷
    0x06403004 is always (Transfer true (CallRegister 3)) ∷
    0x05C00000 is Undecodable ∷
    0x04FFFFFF is always (Transfer true (Br (negsuc 0))) ∷  -- br -1
    0x43000004 is when (not_p 0) (StackControl (Sres 4)) ∷
    []

pub words_decode : AllHold decoded word_cases
unfolding decode guard_of slot_one reading row signed
words_decode = refl
