-- Public contents of states: what is written to both runs, and what is written to one and does not show.
use Rattle.std.specs.Prelude.{ℕ, zero, suc, ◌<◌, Bool, true, false, List, ◌↔◌, ◌≡◌, refl}
use Rattle.std.proofs.Common.{sym, ap, ◌∙◌, arith}
use Rattle.std.proofs.Math.Decide.{ℕ_discrete}
use Rattle.word.specs.BoolLaws.{or_left, or_right}
use Rattle.alu_effects.specs.declared.Specials.{Specials}
use Rattle.products.specs.declared.Products.{Products}
use Rattle.replay.specs.declared.Replay.{Replay}
use Rattle.core_state.specs.State.{Further, State, state, with_register, with_predicate, with_load, with_products, with_held, with_replay, with_predicates, with_specials}
use Rattle.core_state.specs.declared.WaitingLoad.{WaitingLoad}
use Rattle.core_state.specs.declared.WaitingLoad.TheVariants.{Nothing, Waits}
use Rattle.marking.specs.declared.Marking.{Marking}
use Rattle.marking.specs.Marking.{private_register, private_predicate, public_register, public_predicate, some}
use Rattle.even_pace.specs.Terms.{Same, SameSpecials, SameProducts, SameHeld, SameReplay, SameFurther, SameState}
use Rattle.even_pace.specs.SameLaws.{same_refl, same_sym, same_trans, same_write}

-- It is an equivalence.
specials_refl : {m : Marking} (x : Specials) → SameSpecials m x x
specials_refl x = record { sl = λ p. refl; sh = λ p. refl; ss = refl; st = refl; srb = refl; sro = refl; sxb = refl; sxo = refl }

specials_sym : {m : Marking} {x y : Specials} → SameSpecials m x y → SameSpecials m y x
specials_sym a =
    record { sl = λ p. sym (a.sl p); sh = λ p. sym (a.sh p); ss = sym a.ss; st = sym a.st; srb = sym a.srb; sro = sym a.sro; sxb = sym a.sxb; sxo = sym a.sxo }

specials_trans : {m : Marking} {x y z : Specials} → SameSpecials m x y → SameSpecials m y z → SameSpecials m x z
specials_trans a b =
    record {
      sl = λ p. a.sl p ∙ b.sl p;
      sh = λ p. a.sh p ∙ b.sh p;
      ss = a.ss ∙ b.ss;
      st = a.st ∙ b.st;
      srb = a.srb ∙ b.srb;
      sro = a.sro ∙ b.sro;
      sxb = a.sxb ∙ b.sxb;
      sxo = a.sxo ∙ b.sxo;
    }

further_refl : {m : Marking} (f : Further) → SameFurther m f f
further_refl f = record { products = λ p. refl; held = refl; replay = refl }

further_sym : {m : Marking} {f g : Further} → SameFurther m f g → SameFurther m g f
further_sym a = record { products = λ p. sym (a.products p); held = sym a.held; replay = sym a.replay }

further_trans : {m : Marking} {f g h : Further} → SameFurther m f g → SameFurther m g h → SameFurther m f h
further_trans a b = record { products = λ p. a.products p ∙ b.products p; held = a.held ∙ b.held; replay = a.replay ∙ b.replay }

pub state_refl : {m : Marking} (s : State) → SameState m s s
state_refl s =
    record {
      registers = same_refl s.registers;
      predicates = same_refl s.predicates;
      specials = specials_refl s.specials;
      fetch = refl;
      base = refl;
      transfer = refl;
      load = λ r v p. (λ e. e, λ e. e);
      further = further_refl s.further;
    }

pub state_sym : {m : Marking} {s t : State} → SameState m s t → SameState m t s
state_sym a =
    record {
      registers = same_sym a.registers;
      predicates = same_sym a.predicates;
      specials = specials_sym a.specials;
      fetch = sym a.fetch;
      base = sym a.base;
      transfer = sym a.transfer;
      load = λ r v p. ((a.load r v p).1, (a.load r v p).0);
      further = further_sym a.further;
    }

pub state_trans : {m : Marking} {s t u : State} → SameState m s t → SameState m t u → SameState m s u
state_trans a b =
    record {
      registers = same_trans a.registers b.registers;
      predicates = same_trans a.predicates b.predicates;
      specials = specials_trans a.specials b.specials;
      fetch = a.fetch ∙ b.fetch;
      base = a.base ∙ b.base;
      transfer = a.transfer ∙ b.transfer;
      load = λ r v p. (λ e. (b.load r v p).0 ((a.load r v p).0 e), λ e. (a.load r v p).1 ((b.load r v p).1 e));
      further = further_trans a.further b.further;
    }

-- The register of a waiting load.
abbrev pub waiting_register : WaitingLoad → ℕ
waiting_register Nothing = 0
waiting_register (Waits r v) = r

-- Some number below k has a property: where none has, each has it not.
pub some_none : (f : ℕ → Bool) (k : ℕ) → some f k ≡ false → (i : ℕ) → i < k → f i ≡ false
unfolding some
some_none f zero e i p = absurd (omega arith)
some_none f (suc k) e i p = go (ℕ_discrete i k) (some_none f k (or_left (some f k) (f k) e) i)
  where
    go : Dec (i ≡ k) → (i < k → f i ≡ false) → f i ≡ false
    go (yes q) ih = ap f q ∙ or_right (some f k) (f k) e
    go (no q) ih = ih (omega (arith, q))

abbrev pub with_registers : State → List ℕ → State
with_registers s l = state l s.predicates s.specials s.fetch s.base s.transfer s.load s.further

-- One part of two states that agree replaced by parts that agree.
module _ {m : Marking} {s₁ s₂ : State} (a : SameState m s₁ s₂) where
  pub with_registers_lem : (l₁ l₂ : List ℕ) → Same (private_register m) 0 l₁ l₂ → SameState m (with_registers s₁ l₁) (with_registers s₂ l₂)
  with_registers_lem l₁ l₂ h =
      record {
        registers = h;
        predicates = a.predicates;
        specials = a.specials;
        fetch = a.fetch;
        base = a.base;
        transfer = a.transfer;
        load = a.load;
        further = a.further;
      }

  pub register_both : (r v₁ v₂ : ℕ) → (public_register m r ≡ true → v₁ ≡ v₂) → SameState m (with_register s₁ r v₁) (with_register s₂ r v₂)
  unfolding with_register
  register_both r v₁ v₂ h = with_registers_lem _ _ (same_write a.registers r v₁ v₂ h)

  pub with_predicates_lem : (p₁ p₂ : List Bool) → Same (private_predicate m) false p₁ p₂ → SameState m (with_predicates s₁ p₁) (with_predicates s₂ p₂)
  with_predicates_lem p₁ p₂ h =
      record {
        registers = a.registers;
        predicates = h;
        specials = a.specials;
        fetch = a.fetch;
        base = a.base;
        transfer = a.transfer;
        load = a.load;
        further = a.further;
      }

  pub predicate_both : (p : ℕ) (v₁ v₂ : Bool) → (public_predicate m p ≡ true → v₁ ≡ v₂) → SameState m (with_predicate s₁ p v₁) (with_predicate s₂ p v₂)
  unfolding with_predicate
  predicate_both p v₁ v₂ h = with_predicates_lem _ _ (same_write a.predicates p v₁ v₂ h)

  pub with_specials_lem : (x₁ x₂ : Specials) → SameSpecials m x₁ x₂ → SameState m (with_specials s₁ x₁) (with_specials s₂ x₂)
  with_specials_lem x₁ x₂ h =
      record {
        registers = a.registers;
        predicates = a.predicates;
        specials = h;
        fetch = a.fetch;
        base = a.base;
        transfer = a.transfer;
        load = a.load;
        further = a.further;
      }

  pub with_loads : (l₁ l₂ : WaitingLoad) → ((r v : ℕ) → public_register m r ≡ true → (l₁ ≡ Waits r v) ↔ (l₂ ≡ Waits r v))
      → SameState m (with_load s₁ l₁) (with_load s₂ l₂)
  with_loads l₁ l₂ h =
      record {
        registers = a.registers;
        predicates = a.predicates;
        specials = a.specials;
        fetch = a.fetch;
        base = a.base;
        transfer = a.transfer;
        load = h;
        further = a.further;
      }

  pub with_products_lem : (p₁ p₂ : Products) → SameProducts m p₁ p₂ → SameState m (with_products s₁ p₁) (with_products s₂ p₂)
  with_products_lem p₁ p₂ h =
      record {
        registers = a.registers;
        predicates = a.predicates;
        specials = a.specials;
        fetch = a.fetch;
        base = a.base;
        transfer = a.transfer;
        load = a.load;
        further = record { products = h; held = a.further.held; replay = a.further.replay };
      }

  pub with_held_lem : (h₁ h₂ : List ℕ) → SameHeld h₁ h₂ → SameState m (with_held s₁ h₁) (with_held s₂ h₂)
  with_held_lem h₁ h₂ h =
      record {
        registers = a.registers;
        predicates = a.predicates;
        specials = a.specials;
        fetch = a.fetch;
        base = a.base;
        transfer = a.transfer;
        load = a.load;
        further = record { products = a.further.products; held = h; replay = a.further.replay };
      }

  pub with_replay_lem : (r₁ r₂ : Replay) → SameReplay r₁ r₂ → SameState m (with_replay s₁ r₁) (with_replay s₂ r₂)
  with_replay_lem r₁ r₂ h =
      record {
        registers = a.registers;
        predicates = a.predicates;
        specials = a.specials;
        fetch = a.fetch;
        base = a.base;
        transfer = a.transfer;
        load = a.load;
        further = record { products = a.further.products; held = a.further.held; replay = h };
      }
