-- What a slot does, as one value. It is computed from the state at the start of the bundle, for both slots.
use Rattle.std.specs.Prelude.{ℕ, ◌/◌, ◌%◌, ◌^◌, Bool, true, cond, List, eqb, get_or}
use Rattle.std.specs.Int.{w32}
use Rattle.std.proofs.Common.{of_z}
use Rattle.word.specs.Word.{add, shift_left}
use Rattle.alu.specs.Alu.{multiply}
use Rattle.isa.specs.declared.Special.{Special}
use Rattle.isa.specs.declared.AccessKind.{AccessKind}
use Rattle.isa.specs.declared.AccessKind.TheVariants.{Stack, Local, Cached, Main}
use Rattle.isa.specs.declared.StackAmount.{StackAmount}
use Rattle.isa.specs.declared.StackAmount.TheVariants.{Words, Register}
use Rattle.isa.specs.declared.StackOperation.{StackOperation}
use Rattle.isa.specs.declared.StackOperation.TheVariants as operation
use Rattle.isa.specs.declared.Target.{Target}
use Rattle.isa.specs.declared.Target.TheVariants as target
use Rattle.isa.specs.declared.Operation.{Operation}
use Rattle.isa.specs.declared.Operation.TheVariants.{Alu, Multiply, Mts, Mfs, Load, Store, StackControl, Transfer, Trap, Xret}
use Rattle.isa.specs.declared.Instruction.{Instruction}
use Rattle.isa.specs.declared.Bundle.{Bundle}
use Rattle.isa.specs.declared.Bundle.TheVariants.{Undecodable, One, Two, Long}
use Rattle.stack_cache.specs.declared.StackControl as stack
use Rattle.stack_cache.specs.declared.StackControl.TheVariants as control
use Rattle.memory.specs.Access.{load_scale, store_scale}
use Rattle.alu_effects.specs.declared.Specials.{Specials}
use Rattle.replay.specs.Replay.{handler_at}
use Rattle.alu_effects.specs.AluEffects.{holds, special, alu_effect, slot_two_effect}
use Rattle.effects.specs.declared.AtStart.{AtStart}
use Rattle.effects.specs.declared.Transfer as declared
use Rattle.effects.specs.declared.Transfer.TheVariants as transfer
use Rattle.alu_effects.specs.declared.AluEffect.{AluEffect}
use Rattle.alu_effects.specs.declared.AluEffect.TheVariants as alu
use Rattle.effects.specs.declared.Effect.{Effect}
use Rattle.effects.specs.declared.Effect.TheVariants as effect

-- What slots read: a part of the state, and of what a run is given the table of handlers.
pub record Start : Type 0 where
  pub registers : List ℕ
  pub predicates : List Bool
  pub specials : Specials
  pub fetch : ℕ
  pub table : List ℕ

abbrev pub start : List ℕ → List Bool → Specials → ℕ → List ℕ → Start
start rs ps specials fetch table = record { registers = rs; predicates = ps; specials = specials; fetch = fetch; table = table }

-- The same of what the code is given.
abbrev pub at_start : AtStart → Start
at_start s = start s.registers.now s.predicates.now s.specials s.fetch s.table.now

abbrev pub register : Start → ℕ → ℕ
register s r = get_or s.registers r 0

-- What the fields of an access form is its address; a stack access adds st.
unfoldable pub access_address : AccessKind → ℕ → ℕ → ℕ
access_address Stack st a = add st a
access_address Local st a = a
access_address Cached st a = a
access_address Main st a = a

abbrev pub address : List ℕ → ℕ → AccessKind → ℕ → ℕ → ℕ → ℕ
address rs st kind scale ra offset = access_address kind st (add (get_or rs ra 0) (shift_left offset scale))

-- An immediate operand counts words, a register holds bytes: the words, and whether the operand is a multiple of 4.
unfoldable pub amount_words : List ℕ → StackAmount → ℕ
amount_words rs (Words n) = n
amount_words rs (Register r) = get_or rs r 0 / 4

unfoldable pub amount_aligned : List ℕ → StackAmount → Bool
amount_aligned rs (Words n) = true
amount_aligned rs (Register r) = eqb (get_or rs r 0 % 4) 0

unfoldable pub stack_effect : List ℕ → StackOperation → Effect
stack_effect rs (operation.Sres n) = effect.Stack control.Sres n true
stack_effect rs (operation.Sens a) = effect.Stack control.Sens (amount_words rs a) (amount_aligned rs a)
stack_effect rs (operation.Sfree n) = effect.Stack control.Sfree n true
stack_effect rs (operation.Sspill a) = effect.Stack control.Sspill (amount_words rs a) (amount_aligned rs a)

-- The byte address of a number of words.
abbrev pub bytes_of : ℕ → ℕ
bytes_of n = shift_left n 2

-- Where a transfer goes, read in its own bundle and not when it falls due. An immediate br is relative to the bundle that it stands in (`of_z w32 z`
-- is the word that reads as z); a register holds a byte address, but for brcf, whose second register is an offset into the block of the first;
-- ret takes block and offset from srb and sro.
unfoldable pub transfer_of : Start → Target → declared.Transfer
transfer_of s (target.Call n) = transfer.Call (bytes_of n)
transfer_of s (target.CallRegister r) = transfer.Call (register s r)
transfer_of s (target.Br z) = transfer.Br (add s.fetch (bytes_of (of_z w32 z)))
transfer_of s (target.BrRegister r) = transfer.Br (register s r)
transfer_of s (target.Brcf n) = transfer.Block (bytes_of n) (bytes_of n)
transfer_of s (target.BrcfRegister b o) = transfer.Block (add (register s b) (register s o)) (register s b)
transfer_of s target.Ret = transfer.Block (add s.specials.srb s.specials.sro) s.specials.srb

-- A trap's handler is looked up in the table; xret takes block and offset from sxb and sxo, as ret does from srb and sro.
unfoldable pub effect_of : Start → Operation → Effect
effect_of s (Alu o) = effect.Alu (alu_effect s.registers s.predicates o)
effect_of s (Multiply f a b) =
    let p = multiply f (register s a) (register s b) in
    effect.Product (p % 2 ^ 32) (p / 2 ^ 32)
effect_of s (Mts d r) = effect.Special d (register s r)
effect_of s (Mfs r d) = effect.Alu (alu.Register r (special s.predicates s.specials d))
effect_of s (Load k w rd ra o) = effect.Load k w rd (address s.registers s.specials.st k (load_scale w) ra o)
effect_of s (Store k w ra rs o) = effect.Store k w (address s.registers s.specials.st k (store_scale w) ra o) (register s rs)
effect_of s (StackControl o) = stack_effect s.registers o
effect_of s (Transfer d t) = effect.Transfer d (transfer_of s t)
effect_of s (Trap n) = effect.Trap n (handler_at s.table n)
effect_of s (Xret d) = effect.Transfer d (transfer.Xret (add s.specials.sxb s.specials.sxo) s.specials.sxb)

-- A slot whose guard is false does nothing, so nothing of it can be refused.
unfoldable pub slot_one_effect : Start → Instruction → Effect
slot_one_effect s i = cond (holds s.predicates i.guard) (effect_of s i.operation) (effect.Alu alu.Nothing)

-- The two slots of a bundle. Slot two of a bundle that has none does nothing.
abbrev pub slot_one : Start → Bundle → Effect
slot_one s Undecodable = effect.Alu alu.Nothing
slot_one s (One i) = slot_one_effect s i
slot_one s (Two i j) = slot_one_effect s i
slot_one s (Long i) = slot_one_effect s i

abbrev pub slot_two : Start → Bundle → AluEffect
slot_two s Undecodable = alu.Nothing
slot_two s (One i) = alu.Nothing
slot_two s (Two i j) = slot_two_effect s.registers s.predicates j
slot_two s (Long i) = alu.Nothing

-- By cases: of a stack instruction, of a transfer, of a trap, and of every other effect.
abbrev pub on_effect : {A : Type 0} → A → (stack.StackControl → ℕ → Bool → A) → (Bool → declared.Transfer → A) → (ℕ → ℕ → A) → Effect → A
on_effect other f g h (effect.Alu a) = other
on_effect other f g h (effect.Special d v) = other
on_effect other f g h (effect.Product l u) = other
on_effect other f g h (effect.Load k w r a) = other
on_effect other f g h (effect.Store k w a v) = other
on_effect other f g h (effect.Stack c n m) = f c n m
on_effect other f g h (effect.Transfer d t) = g d t
on_effect other f g h (effect.Trap n a) = h n a
