-- What the marking rules are for: an operation that keeps them has the same effect in both runs under a public guard, and writes
-- private places alone under a private one.
use Rattle.std.specs.Prelude.{ℕ, ◌/◌, ◌%◌, ◌^◌, Bool, true, ◌&&◌, ◌||◌, List, ◌≡◌, length, get_or}
use Rattle.std.proofs.Math.Bool.{false, not, or-true}
use Rattle.std.specs.Bool.{beq}
use Rattle.std.proofs.lemmas.Bool.{false≢true, not-false}
use Rattle.std.proofs.Math.Path.{refl, ap, subst}
use Rattle.std.proofs.Common.{sym, ◌∙◌, arith, ext_get_or, of_z}
use Rattle.std.proofs.Math.Dec.{eqb}
use mir.Syntax.{w32}
use Rattle.word.specs.Word.{add, shift_left, copy_bit}
use Rattle.alu.specs.Alu.{arithmetic, multiply, compare, combine}
use Rattle.isa.specs.declared.PredicateOperand.{PredicateOperand}
use Rattle.isa.specs.declared.MultiplyFunction.{MultiplyFunction}
use Rattle.isa.specs.declared.Op2.{Op2}
use Rattle.isa.specs.declared.Op2.TheVariants as op2
use Rattle.isa.specs.declared.AluOperation.{AluOperation}
use Rattle.isa.specs.declared.AluOperation.TheVariants.{Arithmetic, Compare, Predicate, BitCopy}
use Rattle.isa.specs.declared.Special.{Special}
use Rattle.isa.specs.declared.Special.TheVariants.{S0, Sl, Sh, Ss, St, Srb, Sro, Sxb, Sxo}
use Rattle.isa.specs.declared.AccessKind.{AccessKind}
use Rattle.isa.specs.declared.StackAmount.{StackAmount}
use Rattle.isa.specs.declared.StackAmount.TheVariants.{Words, Register}
use Rattle.isa.specs.declared.StackOperation.{StackOperation}
use Rattle.isa.specs.declared.StackOperation.TheVariants.{Sres, Sens, Sfree, Sspill}
use Rattle.isa.specs.declared.Target.{Target}
use Rattle.isa.specs.declared.Target.TheVariants.{Call, CallRegister, Br, BrRegister, Brcf, BrcfRegister, Ret}
use Rattle.isa.specs.declared.Operation.{Operation}
use Rattle.isa.specs.declared.Operation.TheVariants.{Alu, Multiply, Mts, Mfs, Load, Store, StackControl, Transfer, Trap, Xret}
use Rattle.word.specs.BoolLaws.{or_left, or_right}
use Rattle.stack_cache.specs.declared.StackControl.TheVariants as control
use Rattle.memory.specs.Access.{load_scale, store_scale}
use Rattle.effects.specs.declared.Effect.{Effect}
use Rattle.effects.specs.declared.Effect.TheVariants as effect
use Rattle.effects.specs.declared.Transfer as declared
use Rattle.effects.specs.declared.Transfer.TheVariants as transfer
use Rattle.alu_effects.specs.AluEffects.{holds, op2_value, predicates_word, special as special_value, alu_effect}
use Rattle.effects.specs.Effect.{address, access_address, amount_words, amount_aligned, stack_effect, transfer_of, effect_of, bytes_of}
use Rattle.core_state.specs.State.{State, start_of}
use Rattle.marking.specs.declared.Marking.{Marking}
use Rattle.marking.specs.Marking.{private_register, private_predicate, private_operand, private_special}
use Rattle.marking_rules.specs.Rules.{asked, breaks_a, breaks_b, breaks_c, breaks_d, breaks_e, private_op2, private_amount}
use Rattle.marking_rules.specs.RuleLaws.{stack_row, transfer_row}
use Rattle.even_pace.specs.Terms.{SameState}
use Rattle.even_pace.specs.StateLaws.{some_none}
use Rattle.even_pace.proofs.Alike as alike
use Rattle.even_pace.proofs.Alike.{SameAlu, SameEffect, QuietAlu, QuietEffect}

-- Rule B read backwards: into a public destination flows nothing private, and under a private guard no destination is public.
public_source : (t f : Bool) → t && f ≡ false → t ≡ true → f ≡ false
public_source true f e p = e
public_source false f e p = absurd (false≢true p)

private_destination : (t : Bool) → t && true ≡ false → t ≡ false
private_destination true e = e
private_destination false e = refl

-- An operation that breaks no rule, g being its guard's privacy.
pub record Keeps (m : Marking) (g : Bool) (o : Operation) : Type 0 where
  pub a : breaks_a m g o ≡ false
  pub b : breaks_b m g o ≡ false
  pub c : breaks_c m o ≡ false
  pub d : breaks_d m g o ≡ false
  pub e : breaks_e m o ≡ false

-- Under a private guard.
pub alu_quiet : (m : Marking) (rs : List ℕ) (ps : List Bool) (o : AluOperation) → breaks_b m true (Alu o) ≡ false → QuietAlu m (alu_effect rs ps o)
unfolding asked breaks_b alu_effect
alu_quiet m rs ps (Arithmetic f rd r o) h = alike.quiet_register (private_destination _ h)
alu_quiet m rs ps (Compare f pd r o) h = alike.quiet_predicate (private_destination _ h)
alu_quiet m rs ps (Predicate f pd p q) h = alike.quiet_predicate (private_destination _ h)
alu_quiet m rs ps (BitCopy rd r bit p) h = alike.quiet_register (private_destination _ h)

-- Under a private guard stack control and transfers break A.
pub stack_guarded : (m : Marking) (o : StackOperation) → breaks_a m true (StackControl o) ≡ true
unfolding breaks_a
stack_guarded m o = rw (stack_row m o)

pub transfer_guarded : (m : Marking) (d : Bool) (t : Target) → breaks_a m true (Transfer d t) ≡ true
unfolding breaks_a
transfer_guarded m d t = rw (transfer_row m d t)

pub operation_quiet : (m : Marking) (table : List ℕ) (s : State) (o : Operation) → Keeps m true o → QuietEffect m (effect_of (start_of table s) o)
unfolding asked breaks_a breaks_b breaks_d effect_of
operation_quiet m table s (Alu o) k = alike.quiet_alu (alu_quiet m s.registers s.predicates o k.b)
operation_quiet m table s (Multiply f x y) k =
    let h = private_destination (not m.sl || not m.sh) k.b in
    alike.quiet_product (not-false _ (or_left (not m.sl) (not m.sh) h)) (not-false _ (or_right (not m.sl) (not m.sh) h))
operation_quiet m table s (Mts d r) k = alike.quiet_special (private_destination _ k.b)
operation_quiet m table s (Mfs r d) k = alike.quiet_alu (alike.quiet_register (private_destination _ k.b))
operation_quiet m table s (Load j w rd ra o) k = alike.quiet_load (private_destination _ k.b)
operation_quiet m table s (Store j w ra rs o) k = alike.quiet_store (not-false _ (private_destination _ k.d))
operation_quiet m table s (StackControl o) k = absurd (false≢true (sym k.a ∙ stack_guarded m o))
operation_quiet m table s (Transfer d t) k = absurd (false≢true (sym k.a ∙ transfer_guarded m d t))
operation_quiet m table s (Trap n) k = absurd (false≢true (sym k.a))
operation_quiet m table s (Xret d) k = absurd (false≢true (sym k.a))

-- Under a public guard, in states that agree.
module _ {m : Marking} (table : List ℕ) {s₁ s₂ : State} (a : SameState m s₁ s₂) (eight : length s₁.predicates ≡ 8) where
  register_same : (r : ℕ) → private_register m r ≡ false → get_or s₁.registers r 0 ≡ get_or s₂.registers r 0
  register_same r p = a.registers.places r p

  pub holds_same : (p : PredicateOperand) → private_operand m p ≡ false → holds s₁.predicates p ≡ holds s₂.predicates p
  holds_same p h = ap (λ (t : Bool). not (beq p.negated t)) (a.predicates.places p.predicate h)

  op2_same : (o : Op2) → private_op2 m o ≡ false → op2_value s₁.registers o ≡ op2_value s₂.registers o
  unfolding op2_value
  op2_same (op2.Register r) h = register_same r h
  op2_same (op2.Immediate n) h = refl
  op2_same (op2.Long n) h = refl

  special_same : (d : Special) → private_special m d ≡ false
      → special_value s₁.predicates s₁.specials d ≡ special_value s₂.predicates s₂.specials d
  unfolding special_value
  special_same S0 h =
      ap predicates_word
      (ext_get_or false s₁.predicates s₂.predicates a.predicates.lengths (λ i p. a.predicates.places i (some_none (private_predicate m) 8 h i (omega (arith, p, eight)))))
  special_same Sl h = a.specials.sl h
  special_same Sh h = a.specials.sh h
  special_same Ss h = a.specials.ss
  special_same St h = a.specials.st
  special_same Srb h = a.specials.srb
  special_same Sro h = a.specials.sro
  special_same Sxb h = a.specials.sxb
  special_same Sxo h = a.specials.sxo

  pub alu_same : (o : AluOperation) → breaks_b m false (Alu o) ≡ false
      → SameAlu m (alu_effect s₁.registers s₁.predicates o) (alu_effect s₂.registers s₂.predicates o)
  unfolding asked breaks_b alu_effect
  alu_same (Arithmetic f rd r o) h =
      alike.register (λ p.
      let q = public_source _ (private_register m r || private_op2 m o) h p in
      λ i. arithmetic f (register_same r (or_left _ (private_op2 m o) q) i) (op2_same o (or_right (private_register m r) _ q) i))
  alu_same (Compare f pd r o) h =
      alike.predicate (λ p.
      let q = public_source _ (private_register m r || private_op2 m o) h p in
      λ i. compare f (register_same r (or_left _ (private_op2 m o) q) i) (op2_same o (or_right (private_register m r) _ q) i))
  alu_same (Predicate f pd x y) h =
      alike.predicate (λ p.
      let q = public_source _ (private_operand m x || private_operand m y) h p in
      λ i. combine f (holds_same x (or_left _ (private_operand m y) q) i) (holds_same y (or_right (private_operand m x) _ q) i))
  alu_same (BitCopy rd r bit x) h =
      alike.register (λ p.
      let q = public_source _ (private_register m r || private_operand m x) h p in
      λ i. copy_bit (register_same r (or_left _ (private_operand m x) q) i) bit (holds_same x (or_right (private_register m r) _ q) i))

  address_same : (k : AccessKind) (scale ra o : ℕ) → private_register m ra ≡ false
      → address s₁.registers s₁.specials.st k scale ra o ≡ address s₂.registers s₂.specials.st k scale ra o
  address_same k scale ra o h = λ i. access_address k (a.specials.st i) (add (register_same ra h i) (shift_left o scale))

  words_same : (x : StackAmount) → private_amount m x ≡ false → amount_words s₁.registers x ≡ amount_words s₂.registers x
  unfolding amount_words
  words_same (Words n) h = refl
  words_same (Register r) h = ap (λ (n : ℕ). n / 4) (register_same r h)

  aligned_same : (x : StackAmount) → private_amount m x ≡ false → amount_aligned s₁.registers x ≡ amount_aligned s₂.registers x
  unfolding amount_aligned
  aligned_same (Words n) h = refl
  aligned_same (Register r) h = ap (λ (n : ℕ). eqb (n % 4) 0) (register_same r h)

  stack_same : (o : StackOperation) → breaks_e m (StackControl o) ≡ false → SameEffect m (stack_effect s₁.registers o) (stack_effect s₂.registers o)
  unfolding asked breaks_e stack_effect
  stack_same (Sres n) h = alike.stack
  stack_same (Sens x) h =
      subst (λ (e : Effect). SameEffect m (stack_effect s₁.registers (Sens x)) e)
      (λ i. effect.Stack control.Sens (words_same x h i) (aligned_same x h i)) alike.stack
  stack_same (Sfree n) h = alike.stack
  stack_same (Sspill x) h =
      subst (λ (e : Effect). SameEffect m (stack_effect s₁.registers (Sspill x)) e)
      (λ i. effect.Stack control.Sspill (words_same x h i) (aligned_same x h i)) alike.stack

  target_same : (d : Bool) (t : Target) → breaks_e m (Transfer d t) ≡ false → transfer_of (start_of table s₁) t ≡ transfer_of (start_of table s₂) t
  unfolding asked breaks_e transfer_of
  target_same d (Call n) h = refl
  target_same d (CallRegister r) h = ap transfer.Call (register_same r h)
  target_same d (Br z) h = λ i. transfer.Br (add (a.fetch i) (bytes_of (of_z w32 z)))
  target_same d (BrRegister r) h = ap transfer.Br (register_same r h)
  target_same d (Brcf n) h = refl
  target_same d (BrcfRegister b o) h =
      let p = register_same b (or_left _ (private_register m o) h) in
      let q = register_same o (or_right (private_register m b) _ h) in
      λ i. transfer.Block (add (p i) (q i)) (p i)
  target_same d Ret h = λ i. transfer.Block (add (a.specials.srb i) (a.specials.sro i)) (a.specials.srb i)

  multiply_same : (f : MultiplyFunction) (x y : ℕ) → breaks_b m false (Multiply f x y) ≡ false → not m.sl || not m.sh ≡ true
      → multiply f (get_or s₁.registers x 0) (get_or s₁.registers y 0) ≡ multiply f (get_or s₂.registers x 0) (get_or s₂.registers y 0)
  unfolding asked breaks_b
  multiply_same f x y h p =
      let q = public_source _ (private_register m x || private_register m y) h p in
      λ i. multiply f (register_same x (or_left _ (private_register m y) q) i) (register_same y (or_right (private_register m x) _ q) i)

  pub operation_same : (o : Operation) → Keeps m false o → SameEffect m (effect_of (start_of table s₁) o) (effect_of (start_of table s₂) o)
  unfolding asked breaks_b breaks_c breaks_d effect_of
  operation_same (Alu o) k = alike.of_alu (alu_same o k.b)
  operation_same (Multiply f x y) k =
      alike.product (λ p. ap (λ (n : ℕ). n % 2 ^ 32) (multiply_same f x y k.b (rw p)))
      (λ p. ap (λ (n : ℕ). n / 2 ^ 32) (multiply_same f x y k.b (rw (p, or-true))))
  operation_same (Mts d r) k = alike.special (λ p. register_same r (public_source _ _ k.b p))
  operation_same (Mfs r d) k = alike.of_alu (alike.register (λ p. special_same d (public_source _ _ k.b p)))
  operation_same (Load j w rd ra o) k =
      subst (λ (x : ℕ). SameEffect m (effect_of (start_of table s₁) (Load j w rd ra o)) (effect.Load j w rd x))
      (address_same j (load_scale w) ra o k.c) (alike.load (public_source _ _ k.b))
  operation_same (Store j w ra rs o) k =
      subst (λ (x : ℕ). SameEffect m (effect_of (start_of table s₁) (Store j w ra rs o)) (effect.Store j w x (get_or s₂.registers rs 0)))
      (address_same j (store_scale w) ra o k.c)
      (alike.store (λ p. register_same rs (public_source _ _ k.d (ap not p))))
  operation_same (StackControl o) k = stack_same o k.e
  operation_same (Transfer d t) k =
      subst (λ (x : declared.Transfer). SameEffect m (effect.Transfer d (transfer_of (start_of table s₁) t)) (effect.Transfer d x))
      (target_same d t k.e) alike.transfer
  operation_same (Trap n) k = alike.trap
  operation_same (Xret d) k =
      subst (λ (x : declared.Transfer). SameEffect m (effect_of (start_of table s₁) (Xret d)) (effect.Transfer d x))
      (λ i. transfer.Xret (add (a.specials.sxb i) (a.specials.sxo i)) (a.specials.sxb i)) alike.transfer
