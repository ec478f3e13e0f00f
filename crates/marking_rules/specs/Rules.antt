-- The marking rules A to E, judged on the instruction alone: no value is looked at.
use Rattle.std.specs.Prelude.{Bool, true, false, not, ◌&&◌, ◌||◌}
use Rattle.isa.specs.declared.Op2.{Op2}
use Rattle.isa.specs.declared.Op2.TheVariants as op2
use Rattle.isa.specs.declared.AluOperation.TheVariants.{Arithmetic, Compare, Predicate, BitCopy}
use Rattle.isa.specs.declared.StackAmount.{StackAmount}
use Rattle.isa.specs.declared.StackAmount.TheVariants.{Words, Register}
use Rattle.isa.specs.declared.StackOperation.TheVariants.{Sres, Sens, Sfree, Sspill}
use Rattle.isa.specs.declared.Target.TheVariants.{Call, CallRegister, Br, BrRegister, Brcf, BrcfRegister, Ret}
use Rattle.isa.specs.declared.Operation.{Operation}
use Rattle.isa.specs.declared.Operation.TheVariants.{Alu, Multiply, Mts, Mfs, Load, Store, StackControl, Transfer, Trap, Xret}
use Rattle.isa.specs.declared.Instruction.{Instruction}
use Rattle.isa.specs.declared.Bundle.{Bundle}
use Rattle.isa.specs.declared.Bundle.TheVariants.{Undecodable, One, Two, Long}
use Rattle.marking.specs.declared.Marking.{Marking}
use Rattle.marking_rules.specs.declared.Rule.{Rule}
use Rattle.marking_rules.specs.declared.Rule.TheVariants.{A, B, C, D, E}
use Rattle.marking_rules.specs.declared.Asked.{Asked}
use Rattle.marking.specs.Marking.{private_register, private_operand, private_guard, private_store, on_special, private_special, public_register, public_predicate, public_special}

-- A second operand, and an amount of stack control. Immediates are public.
abbrev pub private_op2 : Marking → Op2 → Bool
private_op2 m (op2.Register r) = private_register m r
private_op2 m (op2.Immediate n) = false
private_op2 m (op2.Long n) = false

abbrev pub private_amount : Marking → StackAmount → Bool
private_amount m (Words n) = false
private_amount m (Register r) = private_register m r

-- What the rules ask about an operation: the fields of `Asked` (`lib.rt`). What does not apply to an operation is false.
--   control      it is a transfer (trap and xret included), stack control, or mts to ss, st, srb, sro, sxb or sxo
--   destination  a destination is public
--   source       an operand whose value goes to a destination, or the store loaded from, is private
--   access       it is a load or store, which forms an address
--   base         the base register of the address is private
--   store        it is a store to a public store
--   value        the value that it stores is private
--   operand      a register operand of a transfer or of stack control is private
-- So a base register is C's alone, and the register operand of a transfer or of stack control is E's alone.
abbrev pub of_result : Bool → Bool → Asked
of_result to from = record { control = false; destination = to; source = from; access = false; base = false; store = false; value = false; operand = false }

abbrev pub controlling : Bool → Asked
controlling private = record { control = true; destination = false; source = false; access = false; base = false; store = false; value = false; operand = private }

-- The table. A product goes to sl and sh.
unfoldable pub asked : Marking → Operation → Asked
asked m (Alu (Arithmetic f rd a o)) = of_result (public_register m rd) (private_register m a || private_op2 m o)
asked m (Alu (Compare f pd a o)) = of_result (public_predicate m pd) (private_register m a || private_op2 m o)
asked m (Alu (Predicate f pd p q)) = of_result (public_predicate m pd) (private_operand m p || private_operand m q)
asked m (Alu (BitCopy rd a bit p)) = of_result (public_register m rd) (private_register m a || private_operand m p)
asked m (Multiply f a b) = of_result (not m.sl || not m.sh) (private_register m a || private_register m b)
asked m (Mts d r) = record { control = on_special false false false true d; destination = public_special m d; source = private_register m r; access = false; base = false; store = false; value = false; operand = false }
asked m (Mfs r d) = of_result (public_register m r) (private_special m d)
asked m (Load k w rd ra o) = record { control = false; destination = public_register m rd; source = private_store m k; access = true; base = private_register m ra; store = false; value = false; operand = false }
asked m (Store k w ra rs o) = record { control = false; destination = false; source = false; access = true; base = private_register m ra; store = not (private_store m k); value = private_register m rs; operand = false }
asked m (StackControl (Sres n)) = controlling false
asked m (StackControl (Sens a)) = controlling (private_amount m a)
asked m (StackControl (Sfree n)) = controlling false
asked m (StackControl (Sspill a)) = controlling (private_amount m a)
asked m (Transfer d (Call n)) = controlling false
asked m (Transfer d (CallRegister r)) = controlling (private_register m r)
asked m (Transfer d (Br z)) = controlling false
asked m (Transfer d (BrRegister r)) = controlling (private_register m r)
asked m (Transfer d (Brcf n)) = controlling false
asked m (Transfer d (BrcfRegister b o)) = controlling (private_register m b || private_register m o)
asked m (Transfer d Ret) = controlling false
asked m (Trap n) = controlling false
asked m (Xret d) = controlling false

-- The rules. g says whether the operation's guard is private.
-- A: the guard is private, and the operation is a transfer, a trap or xret, stack control, or mts to ss, st, srb, sro, sxb or sxo.
unfoldable pub breaks_a : Marking → Bool → Operation → Bool
breaks_a m g o = g && (asked m o).control

-- B: the destination is public, and the guard, an operand or the store that is loaded from is private.
unfoldable pub breaks_b : Marking → Bool → Operation → Bool
breaks_b m g o = (asked m o).destination && (g || (asked m o).source)

-- C: the base register of an address is private.
unfoldable pub breaks_c : Marking → Operation → Bool
breaks_c m o = (asked m o).base

-- D: the store that is written to is public, and the value or the guard is private.
unfoldable pub breaks_d : Marking → Bool → Operation → Bool
breaks_d m g o = (asked m o).store && (g || (asked m o).value)

-- E: a register operand of a transfer or of stack control is private.
unfoldable pub breaks_e : Marking → Operation → Bool
breaks_e m o = (asked m o).operand

-- The rules by their letters.
unfoldable pub operation_breaks : Marking → Bool → Operation → Rule → Bool
operation_breaks m g o A = breaks_a m g o
operation_breaks m g o B = breaks_b m g o
operation_breaks m g o C = breaks_c m o
operation_breaks m g o D = breaks_d m g o
operation_breaks m g o E = breaks_e m o

abbrev pub instruction_breaks : Marking → Instruction → Rule → Bool
instruction_breaks m i = operation_breaks m (private_guard m i.guard) i.operation

-- A bundle breaks a rule if one of its slots does, and keeps the rules if it breaks none.
unfoldable pub breaks : Marking → Bundle → Rule → Bool
breaks m Undecodable r = false
breaks m (One i) r = instruction_breaks m i r
breaks m (Two i j) r = instruction_breaks m i r || operation_breaks m (private_guard m j.guard) (Alu j.operation) r
breaks m (Long i) r = instruction_breaks m i r

unfoldable pub keeps : Marking → Bundle → Bool
keeps m b = not (breaks m b A || (breaks m b B || (breaks m b C || (breaks m b D || breaks m b E))))
