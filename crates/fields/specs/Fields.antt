-- What the fields of each format hold, a clause for each case of an operation: the format's place in its list of `Formats`, and its
-- fields' numbers in the order of its figure. A place behind the list's end says that the list has no such format.
use Rattle.std.specs.Prelude.{ℕ, suc, ◌+◌, ◌-◌, ◌^◌, Bool, true, false, cond, [], ◌∷◌, ltb, ℤ, pos, negsuc}
use Rattle.fields.specs.Place.{Fields, ◌⟨◌⟩}
use Rattle.isa.specs.declared.PredicateOperand.{PredicateOperand}
use Rattle.isa.specs.declared.AluFunction.{AluFunction}
use Rattle.isa.specs.declared.AluFunction.TheVariants.{Add, Sub, Xor, Sl, Sr, Sra, Or, And, Nor, Shadd, Shadd2}
use Rattle.isa.specs.declared.MultiplyFunction.{MultiplyFunction}
use Rattle.isa.specs.declared.MultiplyFunction.TheVariants.{Mul, Mulu}
use Rattle.isa.specs.declared.CompareFunction.{CompareFunction}
use Rattle.isa.specs.declared.CompareFunction.TheVariants.{Cmpeq, Cmpneq, Cmplt, Cmple, Cmpult, Cmpule, Btest}
use Rattle.isa.specs.declared.PredicateFunction.{PredicateFunction}
use Rattle.isa.specs.declared.PredicateFunction.TheVariants.{Por, Pand, Pxor}
use Rattle.isa.specs.declared.Special.{Special}
use Rattle.isa.specs.declared.Special.TheVariants as special
use Rattle.isa.specs.declared.AccessKind.{AccessKind}
use Rattle.isa.specs.declared.AccessKind.TheVariants.{Stack, Local, Cached, Main}
use Rattle.isa.specs.declared.LoadWidth.{LoadWidth}
use Rattle.isa.specs.declared.LoadWidth.TheVariants.{Word, Half, Byte, HalfUnsigned, ByteUnsigned}
use Rattle.isa.specs.declared.StoreWidth.{StoreWidth}
use Rattle.isa.specs.declared.StoreWidth.TheVariants as store
use Rattle.isa.specs.declared.Op2.TheVariants as op2
use Rattle.isa.specs.declared.StackAmount.{StackAmount}
use Rattle.isa.specs.declared.StackAmount.TheVariants as amount
use Rattle.isa.specs.declared.StackOperation.TheVariants.{Sres, Sens, Sfree, Sspill}
use Rattle.isa.specs.declared.Target.TheVariants.{Call, CallRegister, Br, BrRegister, Brcf, BrcfRegister, Ret}
use Rattle.isa.specs.declared.AluOperation.{AluOperation}
use Rattle.isa.specs.declared.AluOperation.TheVariants.{Arithmetic, Compare, Predicate, BitCopy}
use Rattle.isa.specs.declared.Operation.{Operation}
use Rattle.isa.specs.declared.Operation.TheVariants.{Alu, Multiply, Mts, Mfs, Load, Store, StackControl, Transfer, Trap, Xret}

-- From functions, special registers, memories and widths to their codes; the tables go from codes to them.
abbrev pub alu_code : AluFunction → ℕ
alu_code Add = 0b0000
alu_code Sub = 0b0001
alu_code Xor = 0b0010
alu_code Sl = 0b0011
alu_code Sr = 0b0100
alu_code Sra = 0b0101
alu_code Or = 0b0110
alu_code And = 0b0111
alu_code Nor = 0b1011
alu_code Shadd = 0b1100
alu_code Shadd2 = 0b1101

abbrev pub multiply_code : MultiplyFunction → ℕ
multiply_code Mul = 0b0000
multiply_code Mulu = 0b0001

abbrev pub compare_code : CompareFunction → ℕ
compare_code Cmpeq = 0b0000
compare_code Cmpneq = 0b0001
compare_code Cmplt = 0b0010
compare_code Cmple = 0b0011
compare_code Cmpult = 0b0100
compare_code Cmpule = 0b0101
compare_code Btest = 0b0110

abbrev pub predicate_code : PredicateFunction → ℕ
predicate_code Por = 0b0110
predicate_code Pand = 0b0111
predicate_code Pxor = 0b1010

abbrev pub special_code : Special → ℕ
special_code special.S0 = 0
special_code special.Sl = 2
special_code special.Sh = 3
special_code special.Ss = 5
special_code special.St = 6
special_code special.Srb = 7
special_code special.Sro = 8
special_code special.Sxb = 9
special_code special.Sxo = 10

abbrev pub kind_code : AccessKind → ℕ
kind_code Stack = 0b00
kind_code Local = 0b01
kind_code Cached = 0b10
kind_code Main = 0b11

abbrev pub load_code : LoadWidth → ℕ
load_code Word = 0b000
load_code Half = 0b001
load_code Byte = 0b010
load_code HalfUnsigned = 0b011
load_code ByteUnsigned = 0b100

abbrev pub store_code : StoreWidth → ℕ
store_code store.Word = 0b000
store_code store.Half = 0b001
store_code store.Byte = 0b010

abbrev pub bit : Bool → ℕ
bit true = 1
bit false = 0

-- The four bits of a predicate operand. A predicate above 7 has a number that four bits do not hold.
abbrev pub operand_number : PredicateOperand → ℕ
operand_number p = cond (ltb p.predicate 8) (cond p.negated 8 0 + p.predicate) 16

-- The k bits whose two's complement reading is a number, and for a number that has none, one that k bits do not hold.
-- (`negsuc m` is the integer - (m + 1).)
abbrev pub twos_complement : ℕ → ℤ → ℕ
twos_complement k (pos n) = cond (ltb n (2 ^ (k - 1))) n (2 ^ k)
twos_complement k (negsuc m) = cond (ltb m (2 ^ (k - 1))) (2 ^ k - suc m) (2 ^ k)

-- In `long_formats`; the constant is the second word.
abbrev pub long_fields : AluOperation → Fields
long_fields (Arithmetic f rd rs1 (op2.Long n)) = 0 ⟨ rd ∷ rs1 ∷ alu_code f ∷ [] ⟩  -- ALUl
long_fields (Arithmetic f rd rs1 (op2.Immediate n)) = 1 ⟨ [] ⟩
long_fields (Arithmetic f rd rs1 (op2.Register r)) = 1 ⟨ [] ⟩
long_fields (Compare f pd rs1 o) = 1 ⟨ [] ⟩
long_fields (Predicate f pd p q) = 1 ⟨ [] ⟩
long_fields (BitCopy rd rs1 n p) = 1 ⟨ [] ⟩

-- In `alu_formats`.
abbrev pub alu_fields : AluOperation → Fields
alu_fields (Arithmetic f rd rs1 (op2.Immediate n)) = 0 ⟨ alu_code f ∷ rd ∷ rs1 ∷ n ∷ [] ⟩  -- ALUi
alu_fields (Arithmetic f rd rs1 (op2.Register r)) = 1 ⟨ rd ∷ rs1 ∷ r ∷ alu_code f ∷ [] ⟩  -- ALUr
alu_fields (Compare f pd rs1 (op2.Register r)) = 2 ⟨ pd ∷ rs1 ∷ r ∷ compare_code f ∷ [] ⟩  -- ALUc
alu_fields (Predicate f pd p q) = 3 ⟨ pd ∷ operand_number p ∷ operand_number q ∷ predicate_code f ∷ [] ⟩  -- ALUp
alu_fields (BitCopy rd rs1 n p) = 4 ⟨ rd ∷ rs1 ∷ n ∷ operand_number p ∷ [] ⟩  -- ALUb
alu_fields (Compare f pd rs1 (op2.Immediate n)) = 5 ⟨ pd ∷ rs1 ∷ n ∷ compare_code f ∷ [] ⟩  -- ALUci
alu_fields (Arithmetic f rd rs1 (op2.Long n)) = 6 ⟨ [] ⟩
alu_fields (Compare f pd rs1 (op2.Long n)) = 6 ⟨ [] ⟩

-- In `first_formats`.
abbrev pub amount_fields : ℕ → StackAmount → Fields
amount_fields op (amount.Words n) = 5 ⟨ op ∷ n ∷ [] ⟩  -- STCi
amount_fields op (amount.Register r) = 6 ⟨ op ∷ r ∷ [] ⟩  -- STCr

abbrev pub first_fields : Operation → Fields
first_fields (Multiply f rs1 rs2) = 0 ⟨ rs1 ∷ rs2 ∷ multiply_code f ∷ [] ⟩  -- ALUm
first_fields (Mts s rs1) = 1 ⟨ rs1 ∷ special_code s ∷ [] ⟩  -- SPCt
first_fields (Mfs rd s) = 2 ⟨ rd ∷ special_code s ∷ [] ⟩  -- SPCf
first_fields (Load k w rd ra n) = 3 ⟨ rd ∷ ra ∷ load_code w ∷ kind_code k ∷ n ∷ [] ⟩  -- LDT
first_fields (Store k w ra rs n) = 4 ⟨ store_code w ∷ kind_code k ∷ ra ∷ rs ∷ n ∷ [] ⟩  -- STT
first_fields (StackControl (Sres n)) = amount_fields 0b00 (amount.Words n)
first_fields (StackControl (Sens a)) = amount_fields 0b01 a
first_fields (StackControl (Sfree n)) = amount_fields 0b10 (amount.Words n)
first_fields (StackControl (Sspill a)) = amount_fields 0b11 a
first_fields (Transfer d (Call n)) = 7 ⟨ (0b000 + bit d) ∷ n ∷ [] ⟩  -- CFLi
first_fields (Transfer d (Br z)) = 7 ⟨ (0b010 + bit d) ∷ twos_complement 22 z ∷ [] ⟩
first_fields (Transfer d (Brcf n)) = 7 ⟨ (0b100 + bit d) ∷ n ∷ [] ⟩
first_fields (Trap n) = 7 ⟨ 0b110 ∷ n ∷ [] ⟩
first_fields (Transfer d Ret) = 8 ⟨ bit d ∷ 0b00 ∷ [] ⟩  -- CFLri
first_fields (Xret d) = 8 ⟨ bit d ∷ 0b01 ∷ [] ⟩
first_fields (Transfer d (CallRegister r)) = 9 ⟨ bit d ∷ r ∷ 0b00 ∷ [] ⟩  -- CFLrs
first_fields (Transfer d (BrRegister r)) = 9 ⟨ bit d ∷ r ∷ 0b01 ∷ [] ⟩
first_fields (Transfer d (BrcfRegister r s)) = 10 ⟨ bit d ∷ r ∷ s ∷ 0b10 ∷ [] ⟩  -- CFLrt
first_fields (Alu a) = 11 ⟨ [] ⟩
