-- A bundle whose effects are alike in both runs: it is judged alike, counts alike, and leaves what agrees.
use Rattle.std.specs.Prelude.{ℕ, ◌^◌, ◌≤◌, Bool, true, false, ◌≡◌}
use mathlib.Core.List.{List, []}
use Rattle.std.proofs.Math.Path.{refl, sym, ap, subst}
use Rattle.std.proofs.Common.{◌∙◌}
use Rattle.std.proofs.Math.ListN.{length, get_or}
use Rattle.stack_cache.specs.declared.StackControl.{StackControl}
use Rattle.settings.specs.declared.Settings.{Settings}
use Rattle.memory.specs.Access.{store_scale}
use Rattle.alu_effects.specs.declared.AluEffect.{AluEffect}
use Rattle.effects.specs.declared.Effect.{Effect}
use Rattle.effects.specs.declared.Effect.TheVariants as effect
use Rattle.replay.specs.Replay.{replay}
use Rattle.products.specs.declared.Products.TheVariants as products
use Rattle.core_state.specs.State.{State, state, specials, further, landed, arrived}
use Rattle.core_state.specs.declared.WaitingTransfer.{WaitingTransfer}
use Rattle.core_state.specs.declared.WaitingLoad.TheVariants.{Nothing}
use Rattle.answers.specs.TestLaws.{and_then, verdict_append}
use Rattle.method_cache.specs.MethodCache.{held_after, misses, words_fetched}
use Rattle.bundle_model.specs.Lookup.{lookups, lookup_tests, held_by}
use Rattle.bundle_model.specs.Refusal.{effect_tests, slot_tests}
use Rattle.bundle_model.specs.Execute.{one_cycle}
use Rattle.core_state.specs.Writes.{write_alu}
use Rattle.bundle_model.specs.Bundle.{write_one, onward, written, state_done, buffers_after, stack_moved, counts_of}
use Rattle.step_laws.proofs.KeptLaws.{arrived_cases}
use Rattle.step_laws.proofs.StackKept.{Passed, passed_open}
use Rattle.marking.specs.declared.Marking.{Marking}
use Rattle.even_pace.specs.Terms.{SameState, SameBuffers, Agree}
use Rattle.even_pace.specs.StateLaws.{with_held_lem}
use Rattle.even_pace.proofs.FlowLaws.{landed_both, landed_predicates, landed_none}
use Rattle.even_pace.proofs.ProductLaws.{arrived_both}
use Rattle.even_pace.specs.BufferLaws.{buffers_refl, buffers_sym, buffers_trans, store_both, store_quiet, moved_both}
use Rattle.even_pace.proofs.Alike.{SameEffect, of_alu, special, product, load, store, stack, transfer, trap, QuietEffect, quiet_alu, quiet_special, quiet_product, quiet_load, quiet_store, AlikeAlu, AlikeEffect, same_effect, quiet_effects, write_alu_alike, write_one_alike, onward_alike}
use Rattle.settings.specs.Setup.{Buffers, Setup}
use Rattle.answers.specs.Test.{verdict as verdict_of}

-- What of a state judges and counts a bundle: ss, st, the waiting transfer, the blocks held, and whether a handler is active.
judging : State → State
judging s = state [] [] (specials 0 0 s.specials.ss s.specials.st 0 0 0 0) 0 0 s.transfer Nothing (further products.Nothing s.further.held (replay s.further.replay.active 0 0))

tests_judging : (g : Settings) (x : Setup) (s : State) (e : Effect) → effect_tests g x s e ≡ effect_tests g x (judging s) e
unfolding judging
tests_judging g x s (effect.Alu a) = refl
tests_judging g x s (effect.Special d v) = refl
tests_judging g x s (effect.Product l h) = refl
tests_judging g x s (effect.Load k w r a) = refl
tests_judging g x s (effect.Store k w a v) = refl
tests_judging g x s (effect.Stack c n z) = refl
tests_judging g x s (effect.Transfer d t) = refl
tests_judging g x s (effect.Trap n handler) = refl

counts_judging : (g : Settings) (x : Setup) (s : State) (e : Effect) → counts_of g x s e ≡ counts_of g x (judging s) e
unfolding judging
counts_judging g x s (effect.Alu a) = refl
counts_judging g x s (effect.Special d v) = refl
counts_judging g x s (effect.Product l h) = refl
counts_judging g x s (effect.Load k w r a) = refl
counts_judging g x s (effect.Store k w a v) = refl
counts_judging g x s (effect.Stack c n z) = refl
counts_judging g x s (effect.Transfer d t) = refl
counts_judging g x s (effect.Trap n handler) = refl

moved_judging : (g : Settings) (x : Setup) (s : State) (c : StackControl) (n : ℕ) (b : Buffers) → stack_moved g x s c n b ≡ stack_moved g x (judging s) c n b
unfolding judging stack_moved
moved_judging g x s c n b = refl

module _ {m : Marking} (g : Settings) (x : Setup) {s₁ s₂ : State} (a : SameState m s₁ s₂) where
  same_judging : judging s₁ ≡ judging s₂
  unfolding judging
  same_judging = λ i. state [] [] (specials 0 0 (a.specials.ss i) (a.specials.st i) 0 0 0 0) 0 0 (a.transfer i) Nothing (further products.Nothing (a.further.held i) (replay (a.further.replay i).active 0 0))

  tests_same : (e : Effect) → effect_tests g x s₁ e ≡ effect_tests g x s₂ e
  tests_same e = tests_judging g x s₁ e ∙ ap (λ (s : State). effect_tests g x s e) same_judging ∙ sym (tests_judging g x s₂ e)

  counts_same : (e : Effect) → counts_of g x s₁ e ≡ counts_of g x s₂ e
  counts_same e = counts_judging g x s₁ e ∙ ap (λ (s : State). counts_of g x s e) same_judging ∙ sym (counts_judging g x s₂ e)

  -- The same effect is judged with the same number.
  pub verdict_both : {e₁ e₂ : Effect} → SameEffect m e₁ e₂ → verdict_of (effect_tests g x s₁ e₁) ≡ verdict_of (effect_tests g x s₂ e₂)
  verdict_both (of_alu h) = refl
  verdict_both (special h) = refl
  verdict_both (product h k) = refl
  verdict_both (load {k} {w} {r} {a = z} h) = ap verdict_of (tests_same (effect.Load k w r z))
  verdict_both (store {k} {w} {a = z} {v₁} h) = ap verdict_of (tests_same (effect.Store k w z v₁))
  verdict_both (stack {c} {n} {z}) = ap verdict_of (tests_same (effect.Stack c n z))
  verdict_both (transfer {d} {t}) = ap verdict_of (tests_same (effect.Transfer d t))
  verdict_both (trap {n} {handler}) = ap verdict_of (tests_same (effect.Trap n handler))

  counts_both : {e₁ e₂ : Effect} → SameEffect m e₁ e₂ → counts_of g x s₁ e₁ ≡ counts_of g x s₂ e₂
  unfolding misses words_fetched
  counts_both (of_alu h) = refl
  counts_both (special h) = refl
  counts_both (product h k) = refl
  counts_both (load h) = refl
  counts_both (store h) = refl
  counts_both (stack {c} {n} {z}) = counts_same (effect.Stack c n z)
  counts_both (transfer {d} {t}) = counts_same (effect.Transfer d t)
  counts_both (trap {n} {handler}) = counts_same (effect.Trap n handler)

-- The same blocks are looked up by effects that are alike: by the same effect, and none by a quiet one.
module _ {m : Marking} (x : Setup) where
  lookups_both : {e₁ e₂ : Effect} → SameEffect m e₁ e₂ → lookups x e₁ ≡ lookups x e₂
  lookups_both (of_alu h) = refl
  lookups_both (special h) = refl
  lookups_both (product h k) = refl
  lookups_both (load h) = refl
  lookups_both (store h) = refl
  lookups_both stack = refl
  lookups_both transfer = refl
  lookups_both trap = refl

  pub lookups_quiet : {e : Effect} → QuietEffect m e → lookups x e ≡ []
  lookups_quiet (quiet_alu h) = refl
  lookups_quiet (quiet_special h) = refl
  lookups_quiet (quiet_product h k) = refl
  lookups_quiet (quiet_load h) = refl
  lookups_quiet (quiet_store h) = refl

  lookups_alike : {e₁ e₂ : Effect} → AlikeEffect m e₁ e₂ → lookups x e₁ ≡ lookups x e₂
  lookups_alike (same_effect h) = lookups_both h
  lookups_alike (quiet_effects h k) = lookups_quiet h ∙ sym (lookups_quiet k)

  -- So all tests of slot one refuse it with the same number, and the same blocks are held then.
  pub slot_both : {e₁ e₂ : Effect} (g : Settings) {s₁ s₂ : State} → SameState m s₁ s₂ → SameEffect m e₁ e₂
      → verdict_of (slot_tests g x s₁ e₁) ≡ verdict_of (slot_tests g x s₂ e₂)
  unfolding slot_tests
  slot_both {e₁} {e₂} g {s₁} {s₂} a h =
      verdict_append (effect_tests g x s₁ e₁) (lookup_tests x.method x.code (lookups x e₁))
      ∙ (λ i. and_then (verdict_both g x a h i) (verdict_of (lookup_tests x.method x.code (lookups_both h i))))
      ∙ sym (verdict_append (effect_tests g x s₂ e₂) (lookup_tests x.method x.code (lookups x e₂)))

  held_alike : {e₁ e₂ : Effect} {s₁ s₂ : State} → SameState m s₁ s₂ → AlikeEffect m e₁ e₂ → held_by x s₁ e₁ ≡ held_by x s₂ e₂
  held_alike a h = λ i. held_after x.method x.code (a.further.held i) (lookups_alike h i)

-- A quiet effect counts one bundle and one cycle.
counts_quiet : {m : Marking} {e : Effect} (g : Settings) (x : Setup) (s : State) → QuietEffect m e → counts_of g x s e ≡ one_cycle
unfolding misses words_fetched
counts_quiet g x s (quiet_alu h) = refl
counts_quiet g x s (quiet_special h) = refl
counts_quiet g x s (quiet_product h k) = refl
counts_quiet g x s (quiet_load h) = refl
counts_quiet g x s (quiet_store h) = refl

pub counts_alike : {m : Marking} {e₁ e₂ : Effect} (g : Settings) (x : Setup) {s₁ s₂ : State} → SameState m s₁ s₂ → AlikeEffect m e₁ e₂
    → counts_of g x s₁ e₁ ≡ counts_of g x s₂ e₂
counts_alike g x a (same_effect h) = counts_both g x a h
counts_alike g x {s₁} {s₂} a (quiet_effects h k) = counts_quiet g x s₁ h ∙ sym (counts_quiet g x s₂ k)

-- Onto what slot one writes: no load waits, and the predicates are those of the start.
onto_none : (s : State) → (arrived (landed s)).load ≡ Nothing
onto_none s = arrived_cases (λ z. z.load ≡ Nothing) (landed s) (λ x. landed_none s)

onto_predicates : (s : State) → (arrived (landed s)).predicates ≡ s.predicates
onto_predicates s = arrived_cases (λ z. z.predicates ≡ s.predicates) (landed s) (λ x. landed_predicates s)

-- The buffers after a bundle.
module _ {m : Marking} (g : Settings) (x : Setup) (ordered : x.lo ≤ x.hi) {s₁ s₂ : State} (a : SameState m s₁ s₂)
    {b₁ b₂ : Buffers} (b : SameBuffers m x b₁ b₂) (inside : x.hi ≤ length b₁.main) where
  buffers_both : {e₁ e₂ : Effect} → SameEffect m e₁ e₂ → Passed g x s₁ e₁
      → SameBuffers m x (buffers_after g x s₁ e₁ b₁) (buffers_after g x s₂ e₂ b₂)
  unfolding buffers_after
  buffers_both (of_alu h) p = b
  buffers_both (special h) p = b
  buffers_both (product h k) p = b
  buffers_both (load h) p = b
  buffers_both (store {k} {w} {a = z} {v₁} {v₂} h) p = store_both m g x b s₁.specials.st s₁.specials.ss k z (2 ^ store_scale w) v₁ v₂ (passed_open _ g _ _ k z _ p) h
  buffers_both (stack {c} {n} {z}) p =
      let e = moved_judging g x s₁ c n b₂ ∙ ap (λ (s : State). stack_moved g x s c n b₂) (same_judging g x a) ∙ sym (moved_judging g x s₂ c n b₂) in
      subst (λ (z : Buffers). SameBuffers m x (stack_moved g x s₁ c n b₁) z) e (moved_both m g x ordered s₁ c n b inside)
  buffers_both transfer p = b
  buffers_both trap p = b

  buffers_quiet : {e : Effect} (s : State) (c : Buffers) → QuietEffect m e → Passed g x s e → SameBuffers m x (buffers_after g x s e c) c
  unfolding buffers_after
  buffers_quiet s c (quiet_alu h) p = buffers_refl c
  buffers_quiet s c (quiet_special h) p = buffers_refl c
  buffers_quiet s c (quiet_product h k) p = buffers_refl c
  buffers_quiet s c (quiet_load h) p = buffers_refl c
  buffers_quiet s c (quiet_store {k} {w} {a = z} {v} h) p = store_quiet m g x c s.specials.st s.specials.ss k z (2 ^ store_scale w) v (passed_open _ g _ _ k z _ p) h

  buffers_alike : {e₁ e₂ : Effect} → AlikeEffect m e₁ e₂ → Passed g x s₁ e₁ → Passed g x s₂ e₂
      → SameBuffers m x (buffers_after g x s₁ e₁ b₁) (buffers_after g x s₂ e₂ b₂)
  buffers_alike (same_effect h) p q = buffers_both h p
  buffers_alike (quiet_effects h k) p q = buffers_trans (buffers_quiet s₁ b₁ h p) (buffers_trans b (buffers_sym (buffers_quiet s₂ b₂ k q)))

  -- The state after a bundle.
  written_alike : {e₁ e₂ : Effect} {two₁ two₂ : AluEffect} (following : ℕ) → AlikeEffect m e₁ e₂ → AlikeAlu m two₁ two₂ → Passed g x s₁ e₁
      → length s₁.predicates ≡ 8 → length s₂.predicates ≡ 8 → get_or s₁.predicates 0 false ≡ true → get_or s₂.predicates 0 false ≡ true
      → SameState m (written g b₁ s₁ e₁ two₁ following) (written g b₂ s₂ e₂ two₂ following)
  unfolding written
  written_alike {e₁} {e₂} {two₁} {two₂} following e two p n₁ n₂ t₁ t₂ =
      let k₁ = onto_predicates s₁ in
      let k₂ = onto_predicates s₂ in
      let one = write_one_alike g x b a (arrived_both (landed_both a)) e p (onto_none s₁) (onto_none s₂) (ap length k₁ ∙ n₁) (ap length k₂ ∙ n₂)
      (ap (λ (l : List Bool). get_or l 0 false) k₁ ∙ t₁) (ap (λ (l : List Bool). get_or l 0 false) k₂ ∙ t₂) in
      let after₁ = write_alu two₁ (write_one g b₁ s₁ e₁ (arrived (landed s₁))) in
      let after₂ = write_alu two₂ (write_one g b₂ s₂ e₂ (arrived (landed s₂))) in
      subst (λ (w : WaitingTransfer). SameState m (onward e₁ s₁.transfer following after₁) (onward e₂ w following after₂))
      a.transfer (onward_alike (write_alu_alike one two) s₁.transfer following e)

  -- Both, and the blocks held.
  pub done_alike : {e₁ e₂ : Effect} {two₁ two₂ : AluEffect} (following : ℕ) → AlikeEffect m e₁ e₂ → AlikeAlu m two₁ two₂ → Passed g x s₁ e₁
      → Passed g x s₂ e₂
      → length s₁.predicates ≡ 8 → length s₂.predicates ≡ 8 → get_or s₁.predicates 0 false ≡ true → get_or s₂.predicates 0 false ≡ true
      → Agree m x (state_done g x b₁ s₁ e₁ two₁ following) (buffers_after g x s₁ e₁ b₁) (state_done g x b₂ s₂ e₂ two₂ following) (buffers_after g x s₂ e₂ b₂)
  done_alike following e two p q n₁ n₂ t₁ t₂ =
      record { state = with_held_lem (written_alike following e two p n₁ n₂ t₁ t₂) _ _ (held_alike x a e); buffers = buffers_alike e p q }
