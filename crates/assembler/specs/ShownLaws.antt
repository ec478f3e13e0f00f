-- The two directions of the table agree: what an instruction is shown as makes it again.
use Rattle.std.specs.Prelude.{suc, ◌+◌, ◌-◌, ◌*◌, ◌/◌, ◌%◌, ◌^◌, ◌<◌, ◌≡◌, refl, ℤ, pos, negsuc, Option, Some}
use Rattle.std.proofs.Common.{arith, lt-ltb, le-ltb}
use Rattle.word.specs.Word.{signed}
use Rattle.fields.specs.Fields.{kind_code, load_code, store_code}
use Rattle.assembly.specs.Forms.{forms, made}
use Rattle.disassembler.specs.Shown.{complement, shown}
use Rattle.fields.specs.CodeLaws.{alu_row_lem, multiply_row_lem, compare_row_lem, predicate_row_lem, special_row_lem, kind_row, load_row, store_row, set_bit}
use Rattle.disassembler.specs.ShowingLaws.{kind_small}
use Rattle.disassembler.specs.declared.Shown.{Shown}
use Rattle.isa.specs.declared.Op2.{Op2}
use Rattle.isa.specs.declared.Op2.TheVariants as op2
use Rattle.isa.specs.declared.StackAmount.TheVariants as amount
use Rattle.isa.specs.declared.StackOperation.TheVariants.{Sres, Sens, Sfree, Sspill}
use Rattle.isa.specs.declared.Target.{Target}
use Rattle.isa.specs.declared.Target.TheVariants.{Call, CallRegister, Br, BrRegister, Brcf, BrcfRegister, Ret}
use Rattle.isa.specs.declared.AluOperation.{AluOperation}
use Rattle.isa.specs.declared.AluOperation.TheVariants.{Arithmetic, Compare, Predicate, BitCopy}
use Rattle.isa.specs.declared.Operation.{Operation}
use Rattle.isa.specs.declared.Operation.TheVariants.{Alu, Multiply, Mts, Mfs, Load, Store, StackControl, Transfer, Trap, Xret}

-- A number that 32 bits hold with its sign.
abbrev pub InWord : ℤ → Type 0
InWord (pos n) = n < 2 ^ 31
InWord (negsuc m) = m < 2 ^ 31

signed_complement : (z : ℤ) → InWord z → signed 32 (complement z) ≡ z
unfolding signed
signed_complement (pos n) h = rw (lt-ltb n (2 ^ 31) h)
signed_complement (negsuc m) h =
    let e : 2 ^ 32 - suc (2 ^ 32 - suc m) ≡ m = omega arith in
    rw (le-ltb (2 ^ 32 - suc m) (2 ^ 31) (omega arith), e)

-- What has a text: all but a compare with a long constant, which no word is, and a branch by more than 32 bits hold.
abbrev pub IsShort : Op2 → Type 0
IsShort (op2.Register r) = Unit {0}
IsShort (op2.Immediate n) = Unit {0}
IsShort (op2.Long n) = ⊥

abbrev pub AluHasText : AluOperation → Type 0
AluHasText (Arithmetic f rd rs1 o) = Unit {0}
AluHasText (Compare f pd rs1 o) = IsShort o
AluHasText (Predicate f pd p q) = Unit {0}
AluHasText (BitCopy rd rs1 n p) = Unit {0}

abbrev pub TargetHasText : Target → Type 0
TargetHasText (Call n) = Unit {0}
TargetHasText (CallRegister r) = Unit {0}
TargetHasText (Br z) = InWord z
TargetHasText (BrRegister r) = Unit {0}
TargetHasText (Brcf n) = Unit {0}
TargetHasText (BrcfRegister r s) = Unit {0}
TargetHasText Ret = Unit {0}

abbrev pub HasText : Operation → Type 0
HasText (Alu a) = AluHasText a
HasText (Multiply f rs1 rs2) = Unit {0}
HasText (Mts s rs1) = Unit {0}
HasText (Mfs rd s) = Unit {0}
HasText (Load k w rd ra n) = Unit {0}
HasText (Store k w ra rs n) = Unit {0}
HasText (StackControl s) = Unit {0}
HasText (Transfer d t) = TargetHasText t
HasText (Trap n) = Unit {0}
HasText (Xret d) = Unit {0}

abbrev pub again : Shown → Option Operation
again s = made s.mnemonic s.a s.b s.c s.d

pub made_shown : (o : Operation) → HasText o → again (shown o) ≡ Some o
unfolding shown made forms
made_shown (Alu (Arithmetic f rd rs1 (op2.Immediate n))) h = alu_row_lem f _
made_shown (Alu (Arithmetic f rd rs1 (op2.Register r))) h = alu_row_lem f _
made_shown (Alu (Arithmetic f rd rs1 (op2.Long n))) h = alu_row_lem f _
made_shown (Alu (Compare f pd rs1 (op2.Register r))) h = compare_row_lem f _
made_shown (Alu (Compare f pd rs1 (op2.Immediate n))) h = compare_row_lem f _
made_shown (Alu (Compare f pd rs1 (op2.Long n))) h = absurd h
made_shown (Alu (Predicate f pd p q)) h = predicate_row_lem f _
made_shown (Alu (BitCopy rd rs1 n p)) h = refl
made_shown (Multiply f rs1 rs2) h = multiply_row_lem f _
made_shown (Mts s rs1) h = special_row_lem s _
made_shown (Mfs rd s) h = special_row_lem s _
made_shown (Load k w rd ra n) h =
    let small = kind_small k in
    let e : (load_code w * 4 + kind_code k) / 4 ≡ load_code w = omega arith in
    let f : (load_code w * 4 + kind_code k) % 4 ≡ kind_code k = omega arith in
    rw (e, f, load_row w) (kind_row k _)
made_shown (Store k w ra rs n) h =
    let small = kind_small k in
    let e : (store_code w * 4 + kind_code k) / 4 ≡ store_code w = omega arith in
    let f : (store_code w * 4 + kind_code k) % 4 ≡ kind_code k = omega arith in
    rw (e, f, store_row w) (kind_row k _)
made_shown (StackControl (Sres n)) h = refl
made_shown (StackControl (Sens (amount.Words n))) h = refl
made_shown (StackControl (Sens (amount.Register r))) h = refl
made_shown (StackControl (Sfree n)) h = refl
made_shown (StackControl (Sspill (amount.Words n))) h = refl
made_shown (StackControl (Sspill (amount.Register r))) h = refl
made_shown (Transfer d (Call n)) h = rw (set_bit d)
made_shown (Transfer d (CallRegister r)) h = rw (set_bit d)
made_shown (Transfer d (Br z)) h = rw (set_bit d, signed_complement z h)
made_shown (Transfer d (BrRegister r)) h = rw (set_bit d)
made_shown (Transfer d (Brcf n)) h = rw (set_bit d)
made_shown (Transfer d (BrcfRegister r s)) h = rw (set_bit d)
made_shown (Transfer d Ret) h = rw (set_bit d)
made_shown (Trap n) h = refl
made_shown (Xret d) h = rw (set_bit d)
