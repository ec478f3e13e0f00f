-- How each instruction is shown: its form in the table, the number of its function and its operands, which make it again.
use Rattle.std.specs.Prelude.{ℕ, suc, ◌+◌, ◌-◌, ◌*◌, ◌^◌, ℤ, pos, negsuc}
use Rattle.fields.specs.Fields.{alu_code, multiply_code, compare_code, predicate_code, special_code, kind_code, load_code, store_code, bit}
use Rattle.assembly.specs.Operands.{plain}
use Rattle.assembly.specs.declared.Operand.{Operand}
use Rattle.disassembler.specs.declared.Shown.{Shown}
use Rattle.isa.specs.declared.PredicateOperand.{PredicateOperand}
use Rattle.isa.specs.declared.Op2.TheVariants as op2
use Rattle.isa.specs.declared.StackAmount.{StackAmount}
use Rattle.isa.specs.declared.StackAmount.TheVariants as amount
use Rattle.isa.specs.declared.StackOperation.TheVariants.{Sres, Sens, Sfree, Sspill}
use Rattle.isa.specs.declared.Target.TheVariants.{Call, CallRegister, Br, BrRegister, Brcf, BrcfRegister, Ret}
use Rattle.isa.specs.declared.AluOperation.TheVariants.{Arithmetic, Compare, Predicate, BitCopy}
use Rattle.isa.specs.declared.Operation.{Operation}
use Rattle.isa.specs.declared.Operation.TheVariants.{Alu, Multiply, Mts, Mfs, Load, Store, StackControl, Transfer, Trap, Xret}

-- A name with its operands, of which those that are left out are 0.
abbrev pub show_four : ℕ → ℕ → Operand → Operand → Operand → Operand → Shown
show_four k func a b c d = record { mnemonic = record { form = k; function = func }; a = a; b = b; c = c; d = d }

abbrev pub show_three : ℕ → ℕ → Operand → Operand → Operand → Shown
show_three k func a b c = show_four k func a b c (plain 0)

abbrev pub show_two : ℕ → ℕ → Operand → Operand → Shown
show_two k func a b = show_four k func a b (plain 0) (plain 0)

abbrev pub show_one : ℕ → ℕ → Operand → Shown
show_one k func a = show_four k func a (plain 0) (plain 0) (plain 0)

abbrev pub of_predicate : PredicateOperand → Operand
of_predicate p = record { negated = p.negated; number = p.predicate }

-- The amount of a stack instruction, by the form of words and that of a register.
abbrev pub show_amount : ℕ → ℕ → StackAmount → Shown
show_amount words register (amount.Words n) = show_one words 0 (plain n)
show_amount words register (amount.Register r) = show_one register 0 (plain r)

-- A number of 32 bits with a sign, as its two's complement.
abbrev pub complement : ℤ → ℕ
complement (pos n) = n
complement (negsuc m) = 2 ^ 32 - suc m

-- By the places of `forms`; 27 is none.
unfoldable pub shown : Operation → Shown
shown (Alu (Arithmetic f rd rs1 (op2.Immediate n))) = show_three 0 (alu_code f) (plain rd) (plain rs1) (plain n)
shown (Alu (Arithmetic f rd rs1 (op2.Register r))) = show_three 1 (alu_code f) (plain rd) (plain rs1) (plain r)
shown (Alu (Arithmetic f rd rs1 (op2.Long n))) = show_three 2 (alu_code f) (plain rd) (plain rs1) (plain n)
shown (Multiply f rs1 rs2) = show_two 3 (multiply_code f) (plain rs1) (plain rs2)
shown (Alu (Compare f pd rs1 (op2.Register r))) = show_three 4 (compare_code f) (plain pd) (plain rs1) (plain r)
shown (Alu (Compare f pd rs1 (op2.Immediate n))) = show_three 5 (compare_code f) (plain pd) (plain rs1) (plain n)
shown (Alu (Predicate f pd p q)) = show_three 6 (predicate_code f) (plain pd) (of_predicate p) (of_predicate q)
shown (Alu (BitCopy rd rs1 n p)) = show_four 7 0 (plain rd) (plain rs1) (plain n) (of_predicate p)
shown (Mts s rs1) = show_two 8 0 (plain (special_code s)) (plain rs1)
shown (Mfs rd s) = show_two 9 0 (plain rd) (plain (special_code s))
shown (Load k w rd ra n) = show_three 10 (load_code w * 4 + kind_code k) (plain rd) (plain ra) (plain n)
shown (Store k w ra rs n) = show_three 11 (store_code w * 4 + kind_code k) (plain ra) (plain n) (plain rs)
shown (StackControl (Sres n)) = show_one 12 0 (plain n)
shown (StackControl (Sens a)) = show_amount 13 16 a
shown (StackControl (Sfree n)) = show_one 14 0 (plain n)
shown (StackControl (Sspill a)) = show_amount 15 17 a
shown (Transfer d (Call n)) = show_one 18 (bit d) (plain n)
shown (Transfer d (Br z)) = show_one 19 (bit d) (plain (complement z))
shown (Transfer d (Brcf n)) = show_one 20 (bit d) (plain n)
shown (Trap n) = show_one 21 0 (plain n)
shown (Transfer d Ret) = show_one 22 (bit d) (plain 0)
shown (Xret d) = show_one 23 (bit d) (plain 0)
shown (Transfer d (CallRegister r)) = show_one 24 (bit d) (plain r)
shown (Transfer d (BrRegister r)) = show_one 25 (bit d) (plain r)
shown (Transfer d (BrcfRegister r s)) = show_two 26 (bit d) (plain r) (plain s)
shown (Alu (Compare f pd rs1 (op2.Long n))) = show_one 27 0 (plain 0)
