-- The marking: what it calls private.
use Rattle.std.specs.Prelude.{ℕ, zero, suc, Bool, true, false, not, ◌&&◌, ◌||◌, eqb, get_or}
use Rattle.isa.specs.declared.PredicateOperand.{PredicateOperand}
use Rattle.isa.specs.declared.AccessKind.{AccessKind}
use Rattle.isa.specs.declared.AccessKind.TheVariants.{Stack, Local, Cached, Main}
use Rattle.isa.specs.declared.Special.{Special}
use Rattle.isa.specs.declared.Special.TheVariants.{S0, Sl, Sh, Ss, St, Srb, Sro, Sxb, Sxo}
use Rattle.marking.specs.declared.Marking.{Marking}

-- A register or a predicate is private if it is marked so.
abbrev pub private_register : Marking → ℕ → Bool
private_register m r = get_or m.registers r false

abbrev pub private_predicate : Marking → ℕ → Bool
private_predicate m p = get_or m.predicates p false

-- A guard is as private as its predicate, negated or not; so is any predicate operand.
abbrev pub private_operand : Marking → PredicateOperand → Bool
private_operand m p = private_predicate m p.predicate

abbrev pub private_guard : Marking → PredicateOperand → Bool
private_guard = private_operand

-- The store that an access goes to. Cached and main are one memory, of which an access touches no byte of the stack area.
unfoldable pub private_store : Marking → AccessKind → Bool
private_store m Stack = m.stack
private_store m Local = m.local
private_store m Cached = m.main
private_store m Main = m.main

-- Whether some number below k has a property.
unfoldable pub some : (ℕ → Bool) → ℕ → Bool
some property zero = false
some property (suc k) = some property k || property k

-- By cases: s0, sl, sh, and the other special registers.
abbrev pub on_special : {A : Type 0} → A → A → A → A → Special → A
on_special s0 sl sh other S0 = s0
on_special s0 sl sh other Sl = sl
on_special s0 sl sh other Sh = sh
on_special s0 sl sh other Ss = other
on_special s0 sl sh other St = other
on_special s0 sl sh other Srb = other
on_special s0 sl sh other Sro = other
on_special s0 sl sh other Sxb = other
on_special s0 sl sh other Sxo = other

-- A special register that is read: s0 is all predicates, and private if one of them is; all but s0, sl and sh are public.
abbrev pub private_special : Marking → Special → Bool
private_special m = on_special (some (private_predicate m) 8) m.sl m.sh false

-- A public destination. r0 and p0 are excepted: nothing is written there.
abbrev pub public_register : Marking → ℕ → Bool
public_register m r = not (eqb r 0) && not (private_register m r)

abbrev pub public_predicate : Marking → ℕ → Bool
public_predicate m p = not (eqb p 0) && not (private_predicate m p)

-- A special register that is written: s0 is p1 to p7, and public if one of them is.
abbrev pub public_special : Marking → Special → Bool
public_special m = on_special (some (public_predicate m) 8) (not m.sl) (not m.sh) true

-- Refusal 1 of a marking: r0 and p0 are always public.
unfoldable pub marking_ok : Marking → Bool
marking_ok m = not (private_register m 0) && not (private_predicate m 0)
