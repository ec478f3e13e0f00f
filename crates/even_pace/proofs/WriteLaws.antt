-- What slots and landing loads write to the states of both runs, and what shows of it.
use Rattle.std.specs.Prelude.{ℕ, zero, suc, ◌/◌, ◌<◌, ◌≤◌, Bool, true, false, List, ◌∷◌, ◌≡◌, length, get_or}
use Rattle.std.proofs.Math.Bool.{not}
use Rattle.std.proofs.lemmas.Bool.{false≢true}
use Rattle.std.proofs.Math.Path.{refl}
use Rattle.std.proofs.Common.{sym, ap, subst, ◌∙◌, arith}
use Rattle.std.proofs.Math.Decide.{dec_lt}
use borrow.Author.Tests.{not-false}
use Rattle.std.proofs.Math.Dec.{eqb-suc-zero}
use Rattle.std.proofs.Math.ListN.{get_or-eq_default}
use Rattle.isa.specs.declared.Special.{Special}
use Rattle.isa.specs.declared.Special.TheVariants.{S0, Sl, Sh, Ss, St, Srb, Sro, Sxb, Sxo}
use Rattle.core_state.specs.State.{State, with_register, with_predicate, with_special, with_product, with_stack, with_load, predicates_of}
use Rattle.core_state.specs.declared.WaitingLoad.{WaitingLoad}
use Rattle.core_state.specs.declared.WaitingLoad.TheVariants.{Nothing, Waits}
use Rattle.marking.specs.declared.Marking.{Marking}
use Rattle.marking.specs.Marking.{private_predicate, public_register, public_predicate, public_special}
use Rattle.even_pace.specs.Terms.{Same, SameState}
use Rattle.even_pace.specs.SameLaws.{same_refl, same_write_left}
use Rattle.even_pace.specs.StateLaws.{state_refl, waiting_register, some_none, with_registers_lem, with_predicates_lem, with_specials_lem, with_loads}

-- The predicates that a word in s0 makes.
abbrev made : ℕ → List Bool
made v = true ∷ predicates_of 7 (v / 2)

made_length : (v : ℕ) → length (made v) ≡ 8
unfolding predicates_of
made_length v = refl

-- A predicate past p0 that is public, where s0 is no public destination, lies past p7.
past : (m : Marking) (i : ℕ) → public_special m S0 ≡ false → private_predicate m (suc i) ≡ false → 8 ≤ suc i
past m i h p = go (dec_lt (suc i) 8)
  where
    go : Dec (suc i < 8) → 8 ≤ suc i
    go (yes q) = absurd (false≢true (sym (some_none (public_predicate m) 8 h (suc i) q) ∙ rw (eqb-suc-zero i, p)))
    go (no q) = omega (arith, q)

-- Lists of eight predicates with p0 true, the others being private.
all_private : (m : Marking) (p₁ p₂ : List Bool) → public_special m S0 ≡ false → length p₁ ≡ 8 → length p₂ ≡ 8 → get_or p₁ 0 false ≡ true
    → get_or p₂ 0 false ≡ true
    → Same (private_predicate m) false p₁ p₂
all_private m p₁ p₂ h x y u v = record { lengths = x ∙ sym y; places = go }
  where
    go : (i : ℕ) → private_predicate m i ≡ false → get_or p₁ i false ≡ get_or p₂ i false
    go zero p = u ∙ sym v
    go (suc i) p =
        let q = past m i h p in
        get_or-eq_default p₁ false {n = suc i} (rw x q) ∙ sym (get_or-eq_default p₂ false {n = suc i} (rw y q))

-- Written to both runs: equal values wherever the destination is public.
module _ {m : Marking} {s₁ s₂ : State} (a : SameState m s₁ s₂) where
  word_both : (v₁ v₂ : ℕ) → (public_special m S0 ≡ true → v₁ ≡ v₂) → Same (private_predicate m) false (made v₁) (made v₂)
  word_both v₁ v₂ h = go (public_special m S0) refl
    where
      go : (t : Bool) → public_special m S0 ≡ t → Same (private_predicate m) false (made v₁) (made v₂)
      go true e = subst (λ (v : ℕ). Same (private_predicate m) false (made v₁) (made v)) (h e) (same_refl (made v₁))
      go false e = all_private m (made v₁) (made v₂) e (made_length v₁) (made_length v₂) refl refl

  pub special_both : (d : Special) (v₁ v₂ : ℕ) → (public_special m d ≡ true → v₁ ≡ v₂) → SameState m (with_special s₁ d v₁) (with_special s₂ d v₂)
  unfolding with_special
  special_both S0 v₁ v₂ h = with_predicates_lem a (made v₁) (made v₂) (word_both v₁ v₂ h)
  special_both Sl v₁ v₂ h =
      let x = a.specials in
      with_specials_lem a _ _ (record { sl = λ p. h (ap not p); sh = x.sh; ss = x.ss; st = x.st; srb = x.srb; sro = x.sro; sxb = x.sxb; sxo = x.sxo })
  special_both Sh v₁ v₂ h =
      let x = a.specials in
      with_specials_lem a _ _ (record { sl = x.sl; sh = λ p. h (ap not p); ss = x.ss; st = x.st; srb = x.srb; sro = x.sro; sxb = x.sxb; sxo = x.sxo })
  special_both Ss v₁ v₂ h =
      let x = a.specials in
      with_specials_lem a _ _ (record { sl = x.sl; sh = x.sh; ss = h refl; st = x.st; srb = x.srb; sro = x.sro; sxb = x.sxb; sxo = x.sxo })
  special_both St v₁ v₂ h =
      let x = a.specials in
      with_specials_lem a _ _ (record { sl = x.sl; sh = x.sh; ss = x.ss; st = h refl; srb = x.srb; sro = x.sro; sxb = x.sxb; sxo = x.sxo })
  special_both Srb v₁ v₂ h =
      let x = a.specials in
      with_specials_lem a _ _ (record { sl = x.sl; sh = x.sh; ss = x.ss; st = x.st; srb = h refl; sro = x.sro; sxb = x.sxb; sxo = x.sxo })
  special_both Sro v₁ v₂ h =
      let x = a.specials in
      with_specials_lem a _ _ (record { sl = x.sl; sh = x.sh; ss = x.ss; st = x.st; srb = x.srb; sro = h refl; sxb = x.sxb; sxo = x.sxo })
  special_both Sxb v₁ v₂ h =
      let x = a.specials in
      with_specials_lem a _ _ (record { sl = x.sl; sh = x.sh; ss = x.ss; st = x.st; srb = x.srb; sro = x.sro; sxb = h refl; sxo = x.sxo })
  special_both Sxo v₁ v₂ h =
      let x = a.specials in
      with_specials_lem a _ _ (record { sl = x.sl; sh = x.sh; ss = x.ss; st = x.st; srb = x.srb; sro = x.sro; sxb = x.sxb; sxo = h refl })

  pub product_both : (l₁ l₂ h₁ h₂ : ℕ) → (m.sl ≡ false → l₁ ≡ l₂) → (m.sh ≡ false → h₁ ≡ h₂)
      → SameState m (with_product s₁ l₁ h₁) (with_product s₂ l₂ h₂)
  product_both l₁ l₂ h₁ h₂ p q =
      let x = a.specials in
      with_specials_lem a _ _ (record { sl = p; sh = q; ss = x.ss; st = x.st; srb = x.srb; sro = x.sro; sxb = x.sxb; sxo = x.sxo })

  pub stack_both : (st₁ st₂ ss₁ ss₂ : ℕ) → st₁ ≡ st₂ → ss₁ ≡ ss₂ → SameState m (with_stack s₁ st₁ ss₁) (with_stack s₂ st₂ ss₂)
  stack_both st₁ st₂ ss₁ ss₂ p q =
      let x = a.specials in
      with_specials_lem a _ _ (record { sl = x.sl; sh = x.sh; ss = q; st = p; srb = x.srb; sro = x.sro; sxb = x.sxb; sxo = x.sxo })

  pub load_both : (r v₁ v₂ : ℕ) → (public_register m r ≡ true → v₁ ≡ v₂) → SameState m (with_load s₁ (Waits r v₁)) (with_load s₂ (Waits r v₂))
  load_both r v₁ v₂ h =
      with_loads a (Waits r v₁) (Waits r v₂) (λ n v p. (λ e. ap (Waits r) (sym (h (is n v p v₁ e))) ∙ e, λ e. ap (Waits r) (h (is n v p v₂ e)) ∙ e))
    where
      is : (n v : ℕ) → public_register m n ≡ true → (w : ℕ) → Waits r w ≡ Waits n v → public_register m r ≡ true
      is n v p w e = ap (public_register m) (ap waiting_register e) ∙ p

-- Written to one run, where the destination is private: nothing shows.
module _ {m : Marking} (s : State) where
  pub register_quiet : (r v : ℕ) → public_register m r ≡ false → SameState m (with_register s r v) s
  unfolding with_register
  register_quiet r v h = with_registers_lem (state_refl s) _ _ (same_write_left (same_refl s.registers) r v h)

  pub predicate_quiet : (p : ℕ) (v : Bool) → public_predicate m p ≡ false → SameState m (with_predicate s p v) s
  unfolding with_predicate
  predicate_quiet p v h = with_predicates_lem (state_refl s) _ _ (same_write_left (same_refl s.predicates) p v h)

  pub product_quiet : (l h : ℕ) → m.sl ≡ true → m.sh ≡ true → SameState m (with_product s l h) s
  product_quiet l h p q = product_both (state_refl s) l _ h _ (λ e. absurd (false≢true (sym e ∙ p))) (λ e. absurd (false≢true (sym e ∙ q)))

  pub special_quiet : (d : Special) (v : ℕ) → public_special m d ≡ false → length s.predicates ≡ 8 → get_or s.predicates 0 false ≡ true
      → SameState m (with_special s d v) s
  unfolding with_special
  special_quiet S0 v h x y = with_predicates_lem (state_refl s) (made v) s.predicates (all_private m (made v) s.predicates h (made_length v) x refl y)
  special_quiet Sl v h x y = product_both (state_refl s) v _ _ _ (λ e. absurd (false≢true (sym e ∙ not-false _ h))) (λ e. refl)
  special_quiet Sh v h x y = product_both (state_refl s) _ _ v _ (λ e. refl) (λ e. absurd (false≢true (sym e ∙ not-false _ h)))
  special_quiet Ss v h x y = absurd (false≢true (sym h))
  special_quiet St v h x y = absurd (false≢true (sym h))
  special_quiet Srb v h x y = absurd (false≢true (sym h))
  special_quiet Sro v h x y = absurd (false≢true (sym h))
  special_quiet Sxb v h x y = absurd (false≢true (sym h))
  special_quiet Sxo v h x y = absurd (false≢true (sym h))

  -- A load to a private register begins to wait, or has waited.
  pub load_quiet : (l₁ l₂ : WaitingLoad) → ((r v : ℕ) → public_register m r ≡ true → l₁ ≡ Waits r v → ⊥)
      → ((r v : ℕ) → public_register m r ≡ true → l₂ ≡ Waits r v → ⊥)
      → SameState m (with_load s l₁) (with_load s l₂)
  load_quiet l₁ l₂ p q = with_loads (state_refl s) l₁ l₂ (λ r v h. (λ e. absurd (p r v h e), λ e. absurd (q r v h e)))

-- Loads that are no loads to a public register.
pub waits_private : (m : Marking) (n w : ℕ) → public_register m n ≡ false → (r v : ℕ) → public_register m r ≡ true → Waits n w ≡ Waits r v → ⊥
waits_private m n w h r v p e = false≢true (sym h ∙ ap (public_register m) (ap waiting_register e) ∙ p)

abbrev is_waiting : WaitingLoad → Bool
is_waiting Nothing = false
is_waiting (Waits r v) = true

pub waits_none : (m : Marking) (r v : ℕ) → public_register m r ≡ true → Nothing ≡ Waits r v → ⊥
waits_none m r v p e = false≢true (ap is_waiting e)
