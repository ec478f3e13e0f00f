-- The numbers of an instruction lie in the ranges of their fields.
use Rattle.std.specs.Prelude.{ℕ, ◌<◌, ◌^◌}
use Rattle.std.specs.Int.Signed.{mag}
use Rattle.isa.specs.declared.PredicateOperand.{PredicateOperand}
use Rattle.isa.specs.declared.Op2.{Op2}
use Rattle.isa.specs.declared.Op2.TheVariants as op2
use Rattle.isa.specs.declared.AluOperation.{AluOperation}
use Rattle.isa.specs.declared.AluOperation.TheVariants.{Arithmetic, Compare, Predicate, BitCopy}
use Rattle.isa.specs.declared.StackAmount.{StackAmount}
use Rattle.isa.specs.declared.StackAmount.TheVariants as amount
use Rattle.isa.specs.declared.StackOperation.{StackOperation}
use Rattle.isa.specs.declared.StackOperation.TheVariants.{Sres, Sens, Sfree, Sspill}
use Rattle.isa.specs.declared.Target.{Target}
use Rattle.isa.specs.declared.Target.TheVariants.{Call, CallRegister, Br, BrRegister, Brcf, BrcfRegister, Ret}
use Rattle.isa.specs.declared.Operation.{Operation}
use Rattle.isa.specs.declared.Operation.TheVariants.{Alu, Multiply, Mts, Mfs, Load, Store, StackControl, Transfer, Trap, Xret}
use Rattle.isa.specs.declared.Instruction.{Instruction}
use Rattle.isa.specs.declared.AluInstruction.{AluInstruction}
use Rattle.isa.specs.declared.Bundle.{Bundle}
use Rattle.isa.specs.declared.Bundle.TheVariants as bundle

-- A number of a register, of a predicate, and of k bits.
abbrev pub IsRegister : ℕ → Type 0
IsRegister r = r < 32

abbrev pub IsPredicate : PredicateOperand → Type 0
IsPredicate p = p.predicate < 8

abbrev pub Fits : ℕ → ℕ → Type 0
Fits k n = n < 2 ^ k

-- An immediate has 12 bits in arithmetic and 5 in a compare.
abbrev pub Op2InRange : ℕ → Op2 → Type 0
Op2InRange k (op2.Register r) = IsRegister r
Op2InRange k (op2.Immediate n) = Fits k n
Op2InRange k (op2.Long n) = Fits 32 n

abbrev pub AluInRange : AluOperation → Type 0
AluInRange (Arithmetic f rd rs1 o) = IsRegister rd × IsRegister rs1 × Op2InRange 12 o
AluInRange (Compare f pd rs1 o) = (pd < 8) × IsRegister rs1 × Op2InRange 5 o
AluInRange (Predicate f pd ps1 ps2) = (pd < 8) × IsPredicate ps1 × IsPredicate ps2
AluInRange (BitCopy rd rs1 bit ps) = IsRegister rd × IsRegister rs1 × Fits 5 bit × IsPredicate ps

abbrev pub AmountInRange : StackAmount → Type 0
AmountInRange (amount.Words n) = Fits 18 n
AmountInRange (amount.Register r) = IsRegister r

abbrev pub StackInRange : StackOperation → Type 0
StackInRange (Sres n) = Fits 18 n
StackInRange (Sens a) = AmountInRange a
StackInRange (Sfree n) = Fits 18 n
StackInRange (Sspill a) = AmountInRange a

-- The words of br lie from - 2 ^ 21 to 2 ^ 21 - 1. (`mag` is n both of n and of - (n + 1).)
abbrev pub TargetInRange : Target → Type 0
TargetInRange (Call n) = Fits 22 n
TargetInRange (CallRegister r) = IsRegister r
TargetInRange (Br z) = Fits 21 (mag z)
TargetInRange (BrRegister r) = IsRegister r
TargetInRange (Brcf n) = Fits 22 n
TargetInRange (BrcfRegister b o) = IsRegister b × IsRegister o
TargetInRange Ret = Unit {0}

abbrev pub OperationInRange : Operation → Type 0
OperationInRange (Alu a) = AluInRange a
OperationInRange (Multiply f rs1 rs2) = IsRegister rs1 × IsRegister rs2
OperationInRange (Mts s rs1) = IsRegister rs1
OperationInRange (Mfs rd s) = IsRegister rd
OperationInRange (Load k w rd ra n) = IsRegister rd × IsRegister ra × Fits 7 n
OperationInRange (Store k w ra rs n) = IsRegister ra × IsRegister rs × Fits 7 n
OperationInRange (StackControl o) = StackInRange o
OperationInRange (Transfer d t) = TargetInRange t
OperationInRange (Trap n) = Fits 22 n
OperationInRange (Xret d) = Unit {0}

abbrev pub InstructionInRange : Instruction → Type 0
InstructionInRange i = IsPredicate i.guard × OperationInRange i.operation

abbrev pub AluInstructionInRange : AluInstruction → Type 0
AluInstructionInRange i = IsPredicate i.guard × AluInRange i.operation

abbrev pub InRange : Bundle → Type 0
InRange bundle.Undecodable = Unit {0}
InRange (bundle.One i) = InstructionInRange i
InRange (bundle.Two i j) = InstructionInRange i × AluInstructionInRange j
InRange (bundle.Long i) = InstructionInRange i
