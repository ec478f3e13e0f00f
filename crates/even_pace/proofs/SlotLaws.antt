-- The slots of a bundle that keeps the rules, in two states that agree.
use Rattle.std.specs.Prelude.{Bool, cond, ◌&&◌, ◌≡◌, length, Ok, Err}
use Rattle.std.proofs.Math.Bool.{true, false}
use Rattle.std.proofs.lemmas.Bool.{false≢true}
use Rattle.std.proofs.Math.Path.{refl}
use Rattle.std.proofs.Common.{sym, ◌∙◌}
use Rattle.isa.specs.declared.Operation.{Operation}
use Rattle.isa.specs.declared.Operation.TheVariants.{Alu, Multiply, Mts, Mfs, Load, Store, StackControl, Transfer, Trap, Xret}
use Rattle.isa.specs.declared.Instruction.{Instruction}
use Rattle.isa.specs.declared.AluInstruction.{AluInstruction}
use Rattle.isa.specs.declared.Bundle.{Bundle}
use Rattle.isa.specs.declared.Bundle.TheVariants.{Undecodable, One, Two, Long}
use Rattle.word.specs.BoolLaws.{or_left, or_right}
use Rattle.settings.specs.declared.Settings.{Settings}
use Rattle.alu_effects.specs.declared.AluEffect.TheVariants as alu
use Rattle.effects.specs.declared.Effect.{Effect}
use Rattle.effects.specs.declared.Effect.TheVariants as effect
use Rattle.alu_effects.specs.AluEffects.{holds, alu_effect, slot_two_effect}
use Rattle.effects.specs.Effect.{effect_of, slot_one_effect, slot_one, slot_two}
use Rattle.core_state.specs.State.{State, start_of}
use Rattle.bundle_model.specs.Refusal.{effect_tests}
use Rattle.marking.specs.declared.Marking.{Marking}
use Rattle.marking_rules.specs.declared.Rule.{Rule}
use Rattle.marking_rules.specs.declared.Rule.TheVariants as rule
use Rattle.marking.specs.Marking.{private_guard}
use Rattle.marking_rules.specs.Rules.{asked, breaks_a, breaks_b, operation_breaks, instruction_breaks, breaks}
use Rattle.even_pace.specs.Terms.{SameState, private_access, has_private_access}
use Rattle.even_pace.proofs.Alike.{SameEffect, of_alu, no_write, QuietAlu, quiet_none, QuietEffect, quiet_alu, AlikeAlu, same_alu, both_quiet}
use Rattle.even_pace.proofs.RuleLaws.{Keeps, stack_guarded, transfer_guarded, alu_quiet, operation_quiet, holds_same, alu_same, operation_same}
use Rattle.answers.specs.Test.{verdict as verdict_of}
use Rattle.fetch.specs.Fetch.{is_undecodable}
use Rattle.settings.specs.Setup.{Setup}

-- Slot one in both runs: the same effect; or effects that do not show, which only a load or store can have refused.
pub data SlotCase (m : Marking) (g : Settings) (x : Setup) (s₁ s₂ : State) (access : Bool) (e₁ e₂ : Effect) : Type 0 where
  public_slot : SameEffect m e₁ e₂ → SlotCase m g x s₁ s₂ access e₁ e₂
  private_slot : QuietEffect m e₁ → QuietEffect m e₂ → (access ≡ false → verdict_of (effect_tests g x s₁ e₁) ≡ Ok tt)
      → (access ≡ false → verdict_of (effect_tests g x s₂ e₂) ≡ Ok tt)
      → SlotCase m g x s₁ s₂ access e₁ e₂

instruction_keeps : (m : Marking) (p : Bool) (o : Operation) → ((r : Rule) → operation_breaks m p o r ≡ false) → Keeps m p o
unfolding operation_breaks
instruction_keeps m p o h = record { a = h rule.A; b = h rule.B; c = h rule.C; d = h rule.D; e = h rule.E }

-- Under a private guard only a load or store can be refused.
quiet_fine : (m : Marking) (g : Settings) (x : Setup) (s : State) (o : Operation) → Keeps m true o → (asked m o).access ≡ false
    → verdict_of (effect_tests g x s (effect_of (start_of x.table s) o)) ≡ Ok tt
unfolding asked breaks_a effect_of verdict_of
quiet_fine m g x s (Alu o) k h = refl
quiet_fine m g x s (Multiply f z y) k h = refl
quiet_fine m g x s (Mts d r) k h = refl
quiet_fine m g x s (Mfs r d) k h = refl
quiet_fine m g x s (Load j w rd ra o) k h = absurd (false≢true (sym h))
quiet_fine m g x s (Store j w ra rs o) k h = absurd (false≢true (sym h))
quiet_fine m g x s (StackControl o) k h = absurd (false≢true (sym k.a ∙ stack_guarded m o))
quiet_fine m g x s (Transfer d t) k h = absurd (false≢true (sym k.a ∙ transfer_guarded m d t))
quiet_fine m g x s (Trap n) k h = absurd (false≢true (sym k.a))
quiet_fine m g x s (Xret d) k h = absurd (false≢true (sym k.a))

nothing_fine : (g : Settings) (x : Setup) (s : State) → verdict_of (effect_tests g x s (effect.Alu alu.Nothing)) ≡ Ok tt
unfolding verdict_of
nothing_fine g x s = refl

module _ {m : Marking} (g : Settings) (x : Setup) {s₁ s₂ : State} (a : SameState m s₁ s₂) (eight : length s₁.predicates ≡ 8) where
  slot_one_lem : (i : Instruction) → ((r : Rule) → instruction_breaks m i r ≡ false)
      → SlotCase m g x s₁ s₂ (private_access m i) (slot_one_effect (start_of x.table s₁) i) (slot_one_effect (start_of x.table s₂) i)
  unfolding slot_one_effect
  slot_one_lem i h = go (private_guard m i.guard) refl (instruction_keeps m (private_guard m i.guard) i.operation h)
    where
      o : Operation
      o = i.operation

      access : Bool
      access = (asked m o).access

      e : State → Bool → Effect
      e s t = cond t (effect_of (start_of x.table s) o) (effect.Alu alu.Nothing)

      same : (t u : Bool) → t ≡ u → Keeps m false o → SameEffect m (e s₁ t) (e s₂ u)
      same true true q k = operation_same x.table a eight o k
      same true false q k = absurd (false≢true (sym q))
      same false true q k = absurd (false≢true q)
      same false false q k = of_alu no_write

      quiet : (s : State) (t : Bool) → Keeps m true o → QuietEffect m (e s t)
      quiet s true k = operation_quiet m x.table s o k
      quiet s false k = quiet_alu quiet_none

      fine : (s : State) (t : Bool) → Keeps m true o → access ≡ false → verdict_of (effect_tests g x s (e s t)) ≡ Ok tt
      fine s true k q = quiet_fine m g x s o k q
      fine s false k q = nothing_fine g x s

      go : (p : Bool) → private_guard m i.guard ≡ p → Keeps m p o
          → SlotCase m g x s₁ s₂ (p && access) (e s₁ (holds s₁.predicates i.guard)) (e s₂ (holds s₂.predicates i.guard))
      go false p k = public_slot (same (holds s₁.predicates i.guard) (holds s₂.predicates i.guard) (holds_same x.table a eight i.guard p) k)
      go true p k =
          let t = holds s₁.predicates i.guard in
          let u = holds s₂.predicates i.guard in
          private_slot (quiet s₁ t k) (quiet s₂ u k) (fine s₁ t k) (fine s₂ u k)

  slot_two_lem : (j : AluInstruction) → operation_breaks m (private_guard m j.guard) (Alu j.operation) rule.B ≡ false
      → AlikeAlu m (slot_two_effect s₁.registers s₁.predicates j) (slot_two_effect s₂.registers s₂.predicates j)
  unfolding slot_two_effect operation_breaks
  slot_two_lem j h = go (private_guard m j.guard) refl h
    where
      quiet : (s : State) (t : Bool) → breaks_b m true (Alu j.operation) ≡ false
          → QuietAlu m (cond t (alu_effect s.registers s.predicates j.operation) alu.Nothing)
      quiet s true k = alu_quiet m s.registers s.predicates j.operation k
      quiet s false k = quiet_none

      same : (t u : Bool) → t ≡ u → breaks_b m false (Alu j.operation) ≡ false
          → AlikeAlu m (cond t (alu_effect s₁.registers s₁.predicates j.operation) alu.Nothing)
          (cond u (alu_effect s₂.registers s₂.predicates j.operation) alu.Nothing)
      same true true q k = same_alu (alu_same x.table a eight j.operation k)
      same true false q k = absurd (false≢true (sym q))
      same false true q k = absurd (false≢true q)
      same false false q k = same_alu no_write

      go : (p : Bool) → private_guard m j.guard ≡ p → breaks_b m p (Alu j.operation) ≡ false
          → AlikeAlu m (cond (holds s₁.predicates j.guard) (alu_effect s₁.registers s₁.predicates j.operation) alu.Nothing)
          (cond (holds s₂.predicates j.guard) (alu_effect s₂.registers s₂.predicates j.operation) alu.Nothing)
      go false p k = same (holds s₁.predicates j.guard) (holds s₂.predicates j.guard) (holds_same x.table a eight j.guard p) k
      go true p k = both_quiet (quiet s₁ (holds s₁.predicates j.guard) k) (quiet s₂ (holds s₂.predicates j.guard) k)

  pub bundle_one : (i : Bundle) → is_undecodable i ≡ false → ((r : Rule) → breaks m i r ≡ false)
      → SlotCase m g x s₁ s₂ (has_private_access m i) (slot_one (start_of x.table s₁) i) (slot_one (start_of x.table s₂) i)
  unfolding breaks has_private_access
  bundle_one Undecodable d h = absurd (false≢true (sym d))
  bundle_one (One i) d h = slot_one_lem i h
  bundle_one (Two i j) d h = slot_one_lem i (λ r. or_left (instruction_breaks m i r) _ (h r))
  bundle_one (Long i) d h = slot_one_lem i h

  pub bundle_two : (i : Bundle) → ((r : Rule) → breaks m i r ≡ false) → AlikeAlu m (slot_two (start_of x.table s₁) i) (slot_two (start_of x.table s₂) i)
  unfolding breaks
  bundle_two Undecodable h = same_alu no_write
  bundle_two (One i) h = same_alu no_write
  bundle_two (Two i j) h = slot_two_lem j (or_right (instruction_breaks m i rule.B) _ (h rule.B))
  bundle_two (Long i) h = same_alu no_write
