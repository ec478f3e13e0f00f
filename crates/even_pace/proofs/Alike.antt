-- Effects of a slot in the two runs: the same but for what goes to private places, or writing private places alone.
use Rattle.std.specs.Prelude.{ℕ, ◌^◌, Bool, true, false, ◌≡◌, refl, length, get_or}
use Rattle.std.proofs.Common.{sym, ◌∙◌}
use Rattle.std.proofs.Math.Path.{ap}
use Rattle.isa.specs.declared.Special.{Special}
use Rattle.isa.specs.declared.AccessKind.{AccessKind}
use Rattle.isa.specs.declared.LoadWidth.{LoadWidth}
use Rattle.isa.specs.declared.StoreWidth.{StoreWidth}
use Rattle.stack_cache.specs.declared.StackControl.{StackControl}
use Rattle.stack_cache.specs.Stack.{top_after, spill_after}
use Rattle.settings.specs.declared.Settings.{Settings}
use Rattle.memory.specs.Access.{load_scale, loaded_value, extended}
use Rattle.effects.specs.declared.Transfer.{Transfer}
use Rattle.alu_effects.specs.declared.AluEffect.{AluEffect}
use Rattle.alu_effects.specs.declared.AluEffect.TheVariants as alu
use Rattle.effects.specs.declared.Effect.{Effect}
use Rattle.effects.specs.declared.Effect.TheVariants as effect
use Rattle.core_state.specs.State.{State}
use Rattle.core_state.specs.declared.WaitingTransfer.{WaitingTransfer}
use Rattle.core_state.specs.declared.WaitingLoad.TheVariants.{Nothing}
use Rattle.core_state.specs.Writes.{write_alu, nearer}
use Rattle.bundle_model.specs.Bundle.{write_one, onward}
use Rattle.step_laws.proofs.StackKept.{Passed, passed_open}
use Rattle.marking.specs.declared.Marking.{Marking}
use Rattle.marking.specs.Marking.{private_store, public_register, public_predicate, public_special}
use Rattle.even_pace.specs.Terms.{SameState, SameBuffers}
use Rattle.even_pace.specs.StateLaws.{state_refl, state_sym, state_trans, register_both, predicate_both}
use Rattle.even_pace.proofs.WriteLaws.{special_both, stack_both, load_both, register_quiet, predicate_quiet, special_quiet, load_quiet, waits_private, waits_none}
use Rattle.even_pace.proofs.FlowLaws.{entered_both, nearer_both, begun_both}
use Rattle.even_pace.proofs.ProductLaws.{begun_product_both, begun_product_quiet}
use Rattle.even_pace.specs.BufferLaws.{read_both}
use Rattle.settings.specs.Setup.{Buffers, Setup}

-- The same effect in both runs, with values that may differ where they go to a private place.
pub data SameAlu (m : Marking) : AluEffect → AluEffect → Type 0 where
  no_write : SameAlu m alu.Nothing alu.Nothing
  register : {r v₁ v₂ : ℕ} → (public_register m r ≡ true → v₁ ≡ v₂) → SameAlu m (alu.Register r v₁) (alu.Register r v₂)
  predicate : {p : ℕ} {v₁ v₂ : Bool} → (public_predicate m p ≡ true → v₁ ≡ v₂) → SameAlu m (alu.Predicate p v₁) (alu.Predicate p v₂)

pub data SameEffect (m : Marking) : Effect → Effect → Type 0 where
  of_alu : {a₁ a₂ : AluEffect} → SameAlu m a₁ a₂ → SameEffect m (effect.Alu a₁) (effect.Alu a₂)
  special : {d : Special} {v₁ v₂ : ℕ} → (public_special m d ≡ true → v₁ ≡ v₂) → SameEffect m (effect.Special d v₁) (effect.Special d v₂)
  product : {l₁ l₂ h₁ h₂ : ℕ} → (m.sl ≡ false → l₁ ≡ l₂) → (m.sh ≡ false → h₁ ≡ h₂) → SameEffect m (effect.Product l₁ h₁) (effect.Product l₂ h₂)
  load : {k : AccessKind} {w : LoadWidth} {r a : ℕ} → (public_register m r ≡ true → private_store m k ≡ false)
      → SameEffect m (effect.Load k w r a) (effect.Load k w r a)
  store : {k : AccessKind} {w : StoreWidth} {a v₁ v₂ : ℕ} → (private_store m k ≡ false → v₁ ≡ v₂)
      → SameEffect m (effect.Store k w a v₁) (effect.Store k w a v₂)
  stack : {c : StackControl} {n : ℕ} {z : Bool} → SameEffect m (effect.Stack c n z) (effect.Stack c n z)
  transfer : {d : Bool} {t : Transfer} → SameEffect m (effect.Transfer d t) (effect.Transfer d t)
  trap : {n handler : ℕ} → SameEffect m (effect.Trap n handler) (effect.Trap n handler)

-- An effect that writes private places alone, and carries out no transfer, trap or stack control.
pub data QuietAlu (m : Marking) : AluEffect → Type 0 where
  quiet_none : QuietAlu m alu.Nothing
  quiet_register : {r v : ℕ} → public_register m r ≡ false → QuietAlu m (alu.Register r v)
  quiet_predicate : {p : ℕ} {v : Bool} → public_predicate m p ≡ false → QuietAlu m (alu.Predicate p v)

pub data QuietEffect (m : Marking) : Effect → Type 0 where
  quiet_alu : {a : AluEffect} → QuietAlu m a → QuietEffect m (effect.Alu a)
  quiet_special : {d : Special} {v : ℕ} → public_special m d ≡ false → QuietEffect m (effect.Special d v)
  quiet_product : {l h : ℕ} → m.sl ≡ true → m.sh ≡ true → QuietEffect m (effect.Product l h)
  quiet_load : {k : AccessKind} {w : LoadWidth} {r a : ℕ} → public_register m r ≡ false → QuietEffect m (effect.Load k w r a)
  quiet_store : {k : AccessKind} {w : StoreWidth} {a v : ℕ} → private_store m k ≡ true → QuietEffect m (effect.Store k w a v)

-- One or the other.
pub data AlikeAlu (m : Marking) (a₁ a₂ : AluEffect) : Type 0 where
  same_alu : SameAlu m a₁ a₂ → AlikeAlu m a₁ a₂
  both_quiet : QuietAlu m a₁ → QuietAlu m a₂ → AlikeAlu m a₁ a₂

pub data AlikeEffect (m : Marking) (e₁ e₂ : Effect) : Type 0 where
  same_effect : SameEffect m e₁ e₂ → AlikeEffect m e₁ e₂
  quiet_effects : QuietEffect m e₁ → QuietEffect m e₂ → AlikeEffect m e₁ e₂

-- Slot two's write.
write_alu_both : {m : Marking} {s₁ s₂ : State} {a₁ a₂ : AluEffect} → SameState m s₁ s₂ → SameAlu m a₁ a₂
    → SameState m (write_alu a₁ s₁) (write_alu a₂ s₂)
unfolding write_alu
write_alu_both s no_write = s
write_alu_both s (register h) = register_both s _ _ _ h
write_alu_both s (predicate h) = predicate_both s _ _ _ h

write_alu_quiet : {m : Marking} {a : AluEffect} (s : State) → QuietAlu m a → SameState m (write_alu a s) s
unfolding write_alu
write_alu_quiet s quiet_none = state_refl s
write_alu_quiet s (quiet_register h) = register_quiet s _ _ h
write_alu_quiet s (quiet_predicate h) = predicate_quiet s _ _ h

pub write_alu_alike : {m : Marking} {s₁ s₂ : State} {a₁ a₂ : AluEffect} → SameState m s₁ s₂ → AlikeAlu m a₁ a₂
    → SameState m (write_alu a₁ s₁) (write_alu a₂ s₂)
write_alu_alike s (same_alu h) = write_alu_both s h
write_alu_alike {s₁ = s₁} {s₂ = s₂} s (both_quiet p q) = state_trans (write_alu_quiet s₁ p) (state_trans s (state_sym (write_alu_quiet s₂ q)))

-- Slot one's write, onto states that agree.
module _ {m : Marking} (g : Settings) (x : Setup) {b₁ b₂ : Buffers} (b : SameBuffers m x b₁ b₂) {from₁ from₂ : State} (from : SameState m from₁ from₂) where
  loaded_both : (k : AccessKind) (w : LoadWidth) (r a : ℕ) → Passed g x from₁ (effect.Load k w r a) → private_store m k ≡ false
      → loaded_value b₁ k w a ≡ loaded_value b₂ k w a
  unfolding loaded_value
  loaded_both k w r a p h = ap (extended w) (read_both m g x b from₁.specials.st from₁.specials.ss k a (2 ^ load_scale w) (passed_open _ g _ _ k a _ p) h)

  write_one_both : {e₁ e₂ : Effect} {s₁ s₂ : State} → SameState m s₁ s₂ → SameEffect m e₁ e₂ → Passed g x from₁ e₁
      → SameState m (write_one g b₁ from₁ e₁ s₁) (write_one g b₂ from₂ e₂ s₂)
  unfolding write_one
  write_one_both s (of_alu h) p = write_alu_both s h
  write_one_both s (special h) p = special_both s _ _ _ h
  write_one_both s (product h q) p = begun_product_both s _ _ _ _ h q
  write_one_both s (load {k} {w} {r} {a} h) p = load_both s r _ _ (λ q. loaded_both k w r a p (h q))
  write_one_both s (store h) p = s
  write_one_both s (stack {c} {n}) p =
      stack_both s _ _ _ _ (ap (λ (z : ℕ). top_after c z n) from.specials.st) (λ i. spill_after c g.words (from.specials.st i) (from.specials.ss i) n)
  write_one_both s transfer p = s
  write_one_both s trap p = s

  write_one_quiet : {e : Effect} (c : Buffers) (z s : State) → QuietEffect m e → s.load ≡ Nothing → length s.predicates ≡ 8
      → get_or s.predicates 0 false ≡ true
      → SameState m (write_one g c z e s) s
  unfolding write_one
  write_one_quiet c z s (quiet_alu h) l p q = write_alu_quiet s h
  write_one_quiet c z s (quiet_special h) l p q = special_quiet s _ _ h p q
  write_one_quiet c z s (quiet_product h k) l p q = begun_product_quiet s _ _ h k
  write_one_quiet c z s (quiet_load h) l p q = load_quiet s _ s.load (waits_private m _ _ h) (λ r v t e. waits_none m r v t (sym l ∙ e))
  write_one_quiet c z s (quiet_store h) l p q = state_refl s

  pub write_one_alike : {e₁ e₂ : Effect} {s₁ s₂ : State} → SameState m s₁ s₂ → AlikeEffect m e₁ e₂ → Passed g x from₁ e₁
      → s₁.load ≡ Nothing → s₂.load ≡ Nothing → length s₁.predicates ≡ 8 → length s₂.predicates ≡ 8 → get_or s₁.predicates 0 false ≡ true
      → get_or s₂.predicates 0 false ≡ true
      → SameState m (write_one g b₁ from₁ e₁ s₁) (write_one g b₂ from₂ e₂ s₂)
  write_one_alike s (same_effect h) p l₁ l₂ n₁ n₂ t₁ t₂ = write_one_both s h p
  write_one_alike {s₁ = s₁} {s₂ = s₂} s (quiet_effects h k) p l₁ l₂ n₁ n₂ t₁ t₂ =
      state_trans (write_one_quiet b₁ from₁ s₁ h l₁ n₁ t₁) (state_trans s (state_sym (write_one_quiet b₂ from₂ s₂ k l₂ n₂ t₂)))

-- Where the core goes on.
module _ {m : Marking} {s₁ s₂ : State} (s : SameState m s₁ s₂) (w : WaitingTransfer) (following : ℕ) where
  onward_both : {e₁ e₂ : Effect} → SameEffect m e₁ e₂ → SameState m (onward e₁ w following s₁) (onward e₂ w following s₂)
  onward_both (of_alu h) = nearer_both s w following
  onward_both (special h) = nearer_both s w following
  onward_both (product h k) = nearer_both s w following
  onward_both (load h) = nearer_both s w following
  onward_both (store h) = nearer_both s w following
  onward_both stack = nearer_both s w following
  onward_both (transfer {d} {t}) = begun_both s d t following
  onward_both (trap {n} {handler}) = entered_both s handler handler following following refl refl

  onward_quiet : {e : Effect} (z : State) → QuietEffect m e → onward e w following z ≡ nearer w following z
  onward_quiet z (quiet_alu h) = refl
  onward_quiet z (quiet_special h) = refl
  onward_quiet z (quiet_product h k) = refl
  onward_quiet z (quiet_load h) = refl
  onward_quiet z (quiet_store h) = refl

  pub onward_alike : {e₁ e₂ : Effect} → AlikeEffect m e₁ e₂ → SameState m (onward e₁ w following s₁) (onward e₂ w following s₂)
  onward_alike (same_effect h) = onward_both h
  onward_alike (quiet_effects h k) = rw (onward_quiet s₁ h, onward_quiet s₂ k) (nearer_both s w following)
