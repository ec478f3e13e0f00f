-- The tables of function codes, a row for each code with a meaning. Rows marked unused, and rows that a table does not list, are left out.
use Rattle.std.specs.Prelude.{ℕ, Bool, true, false, List, [], ◌∷◌}
use Rattle.word.specs.Word.{signed}
use Rattle.isa.specs.Format.{Row, ◌⇒◌}
use Rattle.isa.specs.declared.AluFunction.{AluFunction}
use Rattle.isa.specs.declared.AluFunction.TheVariants.{Add, Sub, Xor, Sl, Sr, Sra, Or, And, Nor, Shadd, Shadd2}
use Rattle.isa.specs.declared.MultiplyFunction.{MultiplyFunction}
use Rattle.isa.specs.declared.MultiplyFunction.TheVariants.{Mul, Mulu}
use Rattle.isa.specs.declared.CompareFunction.{CompareFunction}
use Rattle.isa.specs.declared.CompareFunction.TheVariants.{Cmpeq, Cmpneq, Cmplt, Cmple, Cmpult, Cmpule, Btest}
use Rattle.isa.specs.declared.PredicateFunction.{PredicateFunction}
use Rattle.isa.specs.declared.PredicateFunction.TheVariants.{Por, Pand, Pxor}
use Rattle.isa.specs.declared.Special.{Special}
use Rattle.isa.specs.declared.Special.TheVariants as special
use Rattle.isa.specs.declared.AccessKind.{AccessKind}
use Rattle.isa.specs.declared.AccessKind.TheVariants.{Stack, Local, Cached, Main}
use Rattle.isa.specs.declared.LoadWidth.{LoadWidth}
use Rattle.isa.specs.declared.LoadWidth.TheVariants.{Word, Half, Byte, HalfUnsigned, ByteUnsigned}
use Rattle.isa.specs.declared.StoreWidth.{StoreWidth}
use Rattle.isa.specs.declared.StoreWidth.TheVariants as store
use Rattle.isa.specs.declared.StackAmount.TheVariants as amount
use Rattle.isa.specs.declared.StackOperation.{StackOperation}
use Rattle.isa.specs.declared.StackOperation.TheVariants.{Sres, Sens, Sfree, Sspill}
use Rattle.isa.specs.declared.Target.TheVariants.{Call, CallRegister, Br, BrRegister, Brcf, BrcfRegister, Ret}
use Rattle.isa.specs.declared.Operation.{Operation}
use Rattle.isa.specs.declared.Operation.TheVariants.{Transfer, Trap, Xret}

-- Table 2.1.
abbrev pub alu_table : List (Row AluFunction)
alu_table =
    0b0000 ⇒ Add ∷
    0b0001 ⇒ Sub ∷
    0b0010 ⇒ Xor ∷
    0b0011 ⇒ Sl ∷
    0b0100 ⇒ Sr ∷
    0b0101 ⇒ Sra ∷
    0b0110 ⇒ Or ∷
    0b0111 ⇒ And ∷
    0b1011 ⇒ Nor ∷
    0b1100 ⇒ Shadd ∷
    0b1101 ⇒ Shadd2 ∷
    []

-- Table 2.2.
abbrev pub multiply_table : List (Row MultiplyFunction)
multiply_table = 0b0000 ⇒ Mul ∷ 0b0001 ⇒ Mulu ∷ []

-- Table 2.3.
abbrev pub compare_table : List (Row CompareFunction)
compare_table =
    0b0000 ⇒ Cmpeq ∷
    0b0001 ⇒ Cmpneq ∷
    0b0010 ⇒ Cmplt ∷
    0b0011 ⇒ Cmple ∷
    0b0100 ⇒ Cmpult ∷
    0b0101 ⇒ Cmpule ∷
    0b0110 ⇒ Btest ∷
    []

-- Table 2.4.
abbrev pub predicate_table : List (Row PredicateFunction)
predicate_table = 0b0110 ⇒ Por ∷ 0b0111 ⇒ Pand ∷ 0b1010 ⇒ Pxor ∷ []

-- Figure 2.2: the special registers that the core has.
abbrev pub special_table : List (Row Special)
special_table =
    0 ⇒ special.S0 ∷
    2 ⇒ special.Sl ∷
    3 ⇒ special.Sh ∷
    5 ⇒ special.Ss ∷
    6 ⇒ special.St ∷
    7 ⇒ special.Srb ∷
    8 ⇒ special.Sro ∷
    9 ⇒ special.Sxb ∷
    10 ⇒ special.Sxo ∷
    []

-- Tables 2.5 and 2.6 print a type as three bits for the width and two for the memory.
abbrev pub kind_table : List (Row AccessKind)
kind_table = 0b00 ⇒ Stack ∷ 0b01 ⇒ Local ∷ 0b10 ⇒ Cached ∷ 0b11 ⇒ Main ∷ []

abbrev pub load_table : List (Row LoadWidth)
load_table = 0b000 ⇒ Word ∷ 0b001 ⇒ Half ∷ 0b010 ⇒ Byte ∷ 0b011 ⇒ HalfUnsigned ∷ 0b100 ⇒ ByteUnsigned ∷ []

abbrev pub store_table : List (Row StoreWidth)
store_table = 0b000 ⇒ store.Word ∷ 0b001 ⇒ store.Half ∷ 0b010 ⇒ store.Byte ∷ []

-- Table 2.7: what an immediate of words does.
abbrev pub stack_table : List (Row (ℕ → StackOperation))
stack_table = 0b00 ⇒ Sres ∷ 0b01 ⇒ (λ n. Sens (amount.Words n)) ∷ 0b10 ⇒ Sfree ∷ 0b11 ⇒ (λ n. Sspill (amount.Words n)) ∷ []

-- Table 2.8: what a register of bytes does.
abbrev pub stack_register_table : List (Row (ℕ → StackOperation))
stack_register_table = 0b01 ⇒ (λ r. Sens (amount.Register r)) ∷ 0b11 ⇒ (λ r. Sspill (amount.Register r)) ∷ []

-- Table 2.10, by op and d. The immediate of br is signed, those of the others are not.
abbrev pub flow_table : List (Row (ℕ → Operation))
flow_table =
    0b000 ⇒ (λ n. Transfer false (Call n)) ∷
    0b001 ⇒ (λ n. Transfer true (Call n)) ∷
    0b010 ⇒ (λ n. Transfer false (Br (signed 22 n))) ∷
    0b011 ⇒ (λ n. Transfer true (Br (signed 22 n))) ∷
    0b100 ⇒ (λ n. Transfer false (Brcf n)) ∷
    0b101 ⇒ (λ n. Transfer true (Brcf n)) ∷
    0b110 ⇒ Trap ∷
    []

-- Table 2.11, by op, of the bit d: with no register operand.
abbrev pub flow_implicit_table : List (Row (Bool → Operation))
flow_implicit_table = 0b00 ⇒ (λ d. Transfer d Ret) ∷ 0b01 ⇒ Xret ∷ []

-- Table 2.12: with one register operand.
abbrev pub flow_single_table : List (Row (Bool → ℕ → Operation))
flow_single_table = 0b00 ⇒ (λ d r. Transfer d (CallRegister r)) ∷ 0b01 ⇒ (λ d r. Transfer d (BrRegister r)) ∷ []

-- Table 2.13: with two.
abbrev pub flow_two_table : List (Row (Bool → ℕ → ℕ → Operation))
flow_two_table = 0b10 ⇒ (λ d base offset. Transfer d (BrcfRegister base offset)) ∷ []
