-- The load that lands, where the core goes on, and a handler that is entered: the same for both runs.
use Rattle.std.specs.Prelude.{ℕ, ◌-◌, Bool, cond, ◌≡◌, leb}
use Rattle.std.proofs.Math.Bool.{true, false}
use Rattle.std.proofs.Math.Path.{refl, subst}
use Rattle.std.proofs.Common.{sym, ap, ◌∙◌}
use Rattle.word.specs.Word.{sub}
use Rattle.alu_effects.specs.declared.Specials.{Specials}
use Rattle.effects.specs.declared.Transfer.{Transfer}
use Rattle.effects.specs.declared.Transfer.TheVariants.{Br, Call, Block, Xret}
use Rattle.core_state.specs.State.{State, returning_to, excepted_to, with_register, set_active, with_flow, going_on, landing, landed, transferred, entered}
use Rattle.core_state.specs.declared.WaitingTransfer.{WaitingTransfer}
use Rattle.core_state.specs.declared.WaitingTransfer.TheVariants as transfer
use Rattle.core_state.specs.declared.WaitingLoad.{WaitingLoad}
use Rattle.core_state.specs.declared.WaitingLoad.TheVariants.{Nothing, Waits}
use Rattle.core_state.specs.Writes.{delay_slots, nearer, begun}
use Rattle.marking.specs.declared.Marking.{Marking}
use Rattle.marking.specs.Marking.{public_register}
use Rattle.even_pace.specs.Terms.{SameSpecials, SameState}
use Rattle.even_pace.specs.StateLaws.{state_sym, state_trans, register_both, with_loads}
use Rattle.even_pace.proofs.WriteLaws.{register_quiet, waits_private, waits_none}

-- A waiting load to a private register lands: nothing shows.
landing_quiet : {m : Marking} (s : State) (r v : ℕ) → s.load ≡ Waits r v → public_register m r ≡ false → SameState m (landing (Waits r v) s) s
landing_quiet {m} s r v e h =
    with_loads (register_quiet s r v h) Nothing s.load (λ n w p. (λ q. absurd (waits_none m n w p q), λ q. absurd (waits_private m r v h n w p (sym e ∙ q))))

module _ {m : Marking} {s₁ s₂ : State} (a : SameState m s₁ s₂) where
  same_landing : (r v : ℕ) → SameState m (landing (Waits r v) s₁) (landing (Waits r v) s₂)
  same_landing r v = with_loads (register_both a r v v (λ p. refl)) Nothing Nothing (λ n w p. (λ q. q, λ q. q))

  pub landed_both : SameState m (landed s₁) (landed s₂)
  unfolding landed
  landed_both = go s₁.load s₂.load refl refl
    where
      go : (l₁ l₂ : WaitingLoad) → s₁.load ≡ l₁ → s₂.load ≡ l₂ → SameState m (landing l₁ s₁) (landing l₂ s₂)
      go Nothing Nothing e f = a
      go Nothing (Waits r v) e f = at (public_register m r) refl
        where
          at : (t : Bool) → public_register m r ≡ t → SameState m s₁ (landing (Waits r v) s₂)
          at true p = absurd (waits_none m r v p (sym e ∙ (a.load r v p).1 f))
          at false p = state_trans a (state_sym (landing_quiet s₂ r v f p))
      go (Waits r v) Nothing e f = at (public_register m r) refl
        where
          at : (t : Bool) → public_register m r ≡ t → SameState m (landing (Waits r v) s₁) s₂
          at true p = absurd (waits_none m r v p (sym f ∙ (a.load r v p).0 e))
          at false p = state_trans (landing_quiet s₁ r v e p) a
      go (Waits r v) (Waits q w) e f = at (public_register m r) (public_register m q) refl refl
        where
          at : (t u : Bool) → public_register m r ≡ t → public_register m q ≡ u → SameState m (landing (Waits r v) s₁) (landing (Waits q w) s₂)
          at true u p h = subst (λ (l : WaitingLoad). SameState m (landing (Waits r v) s₁) (landing l s₂)) (sym ((a.load r v p).0 e) ∙ f) (same_landing r v)
          at false true p h = absurd (waits_private m r v p q w h (sym e ∙ (a.load q w h).1 f))
          at false false p h = state_trans (landing_quiet s₁ r v e p) (state_trans a (state_sym (landing_quiet s₂ q w f h)))

  flow_both : (x₁ x₂ : Specials) (fetch₁ fetch₂ base₁ base₂ : ℕ) (w : WaitingTransfer) (active₁ active₂ : Bool) → SameSpecials m x₁ x₂
      → fetch₁ ≡ fetch₂ → base₁ ≡ base₂ → active₁ ≡ active₂
      → SameState m (with_flow s₁ x₁ fetch₁ base₁ w active₁) (with_flow s₂ x₂ fetch₂ base₂ w active₂)
  flow_both x₁ x₂ fetch₁ fetch₂ base₁ base₂ w active₁ active₂ x p q r =
      record {
        registers = a.registers;
        predicates = a.predicates;
        specials = x;
        fetch = p;
        base = q;
        transfer = refl;
        load = a.load;
        further = record { products = a.further.products; held = a.further.held; replay = λ i. set_active (a.further.replay i) (r i) };
      }

  active_same : s₁.further.replay.active ≡ s₂.further.replay.active
  active_same = λ i. (a.further.replay i).active

  -- The return registers of calls and of handlers.
  returning_same : (srb₁ srb₂ sro₁ sro₂ : ℕ) → srb₁ ≡ srb₂ → sro₁ ≡ sro₂
      → SameSpecials m (returning_to s₁.specials srb₁ sro₁) (returning_to s₂.specials srb₂ sro₂)
  returning_same srb₁ srb₂ sro₁ sro₂ p q =
      let x = a.specials in record { sl = x.sl; sh = x.sh; ss = x.ss; st = x.st; srb = p; sro = q; sxb = x.sxb; sxo = x.sxo }

  excepted_same : (sxb₁ sxb₂ sxo₁ sxo₂ : ℕ) → sxb₁ ≡ sxb₂ → sxo₁ ≡ sxo₂
      → SameSpecials m (excepted_to s₁.specials sxb₁ sxo₁) (excepted_to s₂.specials sxb₂ sxo₂)
  excepted_same sxb₁ sxb₂ sxo₁ sxo₂ p q =
      let x = a.specials in record { sl = x.sl; sh = x.sh; ss = x.ss; st = x.st; srb = x.srb; sro = x.sro; sxb = p; sxo = q }

  transferred_both : (t : Transfer) (following : ℕ) → SameState m (transferred s₁ t following) (transferred s₂ t following)
  unfolding transferred
  transferred_both (Br target) following = flow_both _ _ target target _ _ transfer.Nothing _ _ a.specials refl a.base active_same
  transferred_both (Call target) following =
      flow_both _ _ target target _ _ transfer.Nothing _ _ (returning_same _ _ _ _ a.base (ap (sub following) a.base)) refl refl active_same
  transferred_both (Block target base) following = flow_both _ _ target target _ _ transfer.Nothing _ _ a.specials refl refl active_same
  transferred_both (Xret target base) following = flow_both _ _ target target _ _ transfer.Nothing _ _ a.specials refl refl refl

  -- A handler entered, by a trap or by an interrupt.
  pub entered_both : (handler₁ handler₂ back₁ back₂ : ℕ) → handler₁ ≡ handler₂ → back₁ ≡ back₂
      → SameState m (entered s₁ handler₁ back₁) (entered s₂ handler₂ back₂)
  unfolding entered
  entered_both handler₁ handler₂ back₁ back₂ p q =
      flow_both _ _ handler₁ handler₂ _ _ transfer.Nothing _ _ (excepted_same _ _ _ _ a.base (λ i. sub (q i) (a.base i))) p p refl

  going_both : (following : ℕ) (w : WaitingTransfer) → SameState m (going_on s₁ following w) (going_on s₂ following w)
  going_both following w = flow_both _ _ following following _ _ w _ _ a.specials refl a.base active_same

  pub nearer_both : (w : WaitingTransfer) (following : ℕ) → SameState m (nearer w following s₁) (nearer w following s₂)
  nearer_both transfer.Nothing following = going_both following transfer.Nothing
  nearer_both (transfer.Waits t n) following = go (leb n 1)
    where
      at : Bool → State → State
      at u s = cond u (transferred s t following) (going_on s following (transfer.Waits t (n - 1)))

      go : (u : Bool) → SameState m (at u s₁) (at u s₂)
      go true = transferred_both t following
      go false = going_both following (transfer.Waits t (n - 1))

  pub begun_both : (d : Bool) (t : Transfer) (following : ℕ) → SameState m (begun d t following s₁) (begun d t following s₂)
  begun_both true t following = going_both following (transfer.Waits t (delay_slots t))
  begun_both false t following = transferred_both t following

-- Landing touches neither the predicates nor leaves a load.
pub landed_predicates : (s : State) → (landed s).predicates ≡ s.predicates
unfolding landed with_register
landed_predicates s = go s.load
  where
    go : (l : WaitingLoad) → (landing l s).predicates ≡ s.predicates
    go Nothing = refl
    go (Waits r v) = refl

pub landed_none : (s : State) → (landed s).load ≡ Nothing
unfolding landed
landed_none s = go s.load refl
  where
    go : (l : WaitingLoad) → s.load ≡ l → (landing l s).load ≡ Nothing
    go Nothing e = e
    go (Waits r v) e = refl
