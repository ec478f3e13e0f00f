-- The bundle at the fetch address in both runs: unless a load or store under a private guard is refused, it is answered and counted alike and leaves
-- what agrees.
use Rattle.std.specs.Prelude.{ℕ, ◌≤◌, Bool, true, false, ◌≡◌, refl, length, get_or, Ok, Err}
use Rattle.std.proofs.lemmas.Bool.{false≢true}
use Rattle.std.proofs.Common.{sym, ap, subst, ◌∙◌}
use Rattle.answers.specs.Refusal.{number}
use Rattle.isa.specs.declared.Bundle.{Bundle}
use Rattle.settings.specs.declared.Settings.{Settings}
use Rattle.answers.specs.Answer.{Returned, done, refused}
use Rattle.effects.specs.Effect.{slot_one, slot_two}
use Rattle.core_state.specs.State.{State, start_of}
use Rattle.answers.specs.TestLaws.{fine_both}
use Rattle.effects.specs.declared.Effect.{Effect}
use Rattle.bundle_model.specs.Lookup.{lookups, lookup_tests}
use Rattle.bundle_model.specs.Refusal.{effect_tests, slot_tests}
use Rattle.bundle_model.proofs.ExecuteLaws.{slot_plain}
use Rattle.step_laws.proofs.StackKept.{Passed}
use Rattle.bundle_model.specs.Bundle.{state_done, counts_of, buffers_after, Outcome, outcome, refused_or, bundle}
use Rattle.marking.specs.declared.Marking.{Marking}
use Rattle.marking_rules.specs.declared.Rule.{Rule}
use Rattle.marking_rules.specs.Rules.{breaks}
use Rattle.marking_rules.specs.RuleLaws.{keeps_each}
use Rattle.single_path.specs.CheckLaws.{Fine}
use Rattle.even_pace.specs.Terms.{Agree, has_private_access}
use Rattle.even_pace.proofs.Alike.{AlikeEffect, same_effect, quiet_effects}
use Rattle.even_pace.proofs.DoneLaws.{slot_both, lookups_quiet, counts_alike, done_alike}
use Rattle.even_pace.proofs.SlotLaws.{SlotCase, public_slot, private_slot, bundle_one, bundle_two}
use Rattle.settings.specs.Setup.{Buffers, Setup}
use Rattle.answers.specs.Test.{Verdict, verdict as verdict_of}
use Rattle.fetch.specs.Fetch.{is_undecodable, bundle_at, following_at}

-- Outcomes that agree.
pub record SameOutcome (m : Marking) (x : Setup) (o₁ o₂ : Outcome) : Type 0 where
  pub answer : o₁.answer ≡ o₂.answer
  pub counts : o₁.counts ≡ o₂.counts
  pub contents : Agree m x o₁.state o₁.buffers o₂.state o₂.buffers

-- A bundle that can be read, by what it holds and the address after it.
abbrev pub done_of : Settings → Setup → Bundle → ℕ → State → Buffers → Outcome
done_of g x i following s b =
    outcome done (state_done g x b s (slot_one (start_of x.table s) i) (slot_two (start_of x.table s) i) following)
    (counts_of g x s (slot_one (start_of x.table s) i)) (buffers_after g x s (slot_one (start_of x.table s) i) b)

abbrev pub outcome_of : Settings → Setup → Bundle → ℕ → State → Buffers → Outcome
outcome_of g x i following s b = refused_or (verdict_of (slot_tests g x s (slot_one (start_of x.table s) i))) s b (done_of g x i following s b)

pub bundle_outcome : {m : Marking} (g : Settings) (x : Setup) (s : State) (b : Buffers) → Fine m x.code s.fetch
    → bundle g x s b ≡ outcome_of g x (bundle_at x.code s.fetch) (following_at x.code s.fetch) s b
unfolding bundle verdict_of
bundle_outcome g x s b f = rw (f.inside, f.decodable)

-- Of the tests of slot one none of its effect refuses where none refuses.
slot_passed : (g : Settings) (x : Setup) (s : State) (e : Effect) → verdict_of (slot_tests g x s e) ≡ Ok tt → Passed g x s e
unfolding slot_tests
slot_passed g x s e p = (fine_both (effect_tests g x s e) (lookup_tests x.method x.code (lookups x e)) p).0

abbrev is_fine : Verdict → Bool
is_fine (Ok u) = true
is_fine (Err n) = false

abbrev number_of : Verdict → ℕ
number_of (Ok u) = 0
number_of (Err r) = number r

-- The predicates of a well-formed state.
pub record Grounded (s : State) : Type 0 where
  pub eight : length s.predicates ≡ 8
  pub first : get_or s.predicates 0 false ≡ true

module _ {m : Marking} (g : Settings) (x : Setup) (ordered : x.lo ≤ x.hi) {s₁ s₂ : State} {b₁ b₂ : Buffers}
    (a : Agree m x s₁ b₁ s₂ b₂) (inside : x.hi ≤ length b₁.main) (w₁ : Grounded s₁) (w₂ : Grounded s₂) where
  module _ (i : Bundle) (following : ℕ) (readable : is_undecodable i ≡ false) (kept : (r : Rule) → breaks m i r ≡ false) where
    -- No load or store of it under a private guard is refused.
    NoStop : State → Buffers → Verdict → Type 0
    NoStop s b v = has_private_access m i ≡ true → (n : ℕ) → (refused_or v s b (done_of g x i following s b)).answer ≡ refused n → ⊥

    done_both : AlikeEffect m (slot_one (start_of x.table s₁) i) (slot_one (start_of x.table s₂) i) → verdict_of (slot_tests g x s₁ (slot_one (start_of x.table s₁) i)) ≡ Ok tt
        → verdict_of (slot_tests g x s₂ (slot_one (start_of x.table s₂) i)) ≡ Ok tt
        → SameOutcome m x (done_of g x i following s₁ b₁) (done_of g x i following s₂ b₂)
    done_both h p q =
        record {
          answer = refl;
          counts = counts_alike g x a.state h;
          contents = done_alike g x ordered a.state a.buffers inside following h (bundle_two g x a.state w₁.eight i kept)
              (slot_passed g x s₁ _ p) (slot_passed g x s₂ _ q) w₁.eight w₂.eight w₁.first w₂.first;
        }

    outcome_alike : NoStop s₁ b₁ (verdict_of (slot_tests g x s₁ (slot_one (start_of x.table s₁) i)))
        → NoStop s₂ b₂ (verdict_of (slot_tests g x s₂ (slot_one (start_of x.table s₂) i)))
        → SameOutcome m x (outcome_of g x i following s₁ b₁) (outcome_of g x i following s₂ b₂)
    unfolding NoStop
    outcome_alike n₁ n₂ = go (bundle_one g x a.state w₁.eight i readable kept)
      where
        v₁ : Verdict
        v₁ = verdict_of (slot_tests g x s₁ (slot_one (start_of x.table s₁) i))

        v₂ : Verdict
        v₂ = verdict_of (slot_tests g x s₂ (slot_one (start_of x.table s₂) i))

        out : Verdict → Verdict → Type 0
        out z y = SameOutcome m x (refused_or z s₁ b₁ (done_of g x i following s₁ b₁)) (refused_or y s₂ b₂ (done_of g x i following s₂ b₂))

        judged : AlikeEffect m (slot_one (start_of x.table s₁) i) (slot_one (start_of x.table s₂) i) → (z y : Verdict) → v₁ ≡ z → v₂ ≡ y → z ≡ y → out z y
        judged h (Ok u) (Ok u') p q e = done_both h p q
        judged h (Ok u) (Err n) p q e = absurd (false≢true (sym (ap is_fine e)))
        judged h (Err n) (Ok u) p q e = absurd (false≢true (ap is_fine e))
        judged h (Err n) (Err k) p q e = record { answer = ap refused (ap number_of e); counts = refl; contents = a }

        passes : (s : State) (b : Buffers) (v : Verdict) (access : Bool) → has_private_access m i ≡ access → (access ≡ false → v ≡ Ok tt)
            → (has_private_access m i ≡ true → (n : ℕ) → (refused_or v s b (done_of g x i following s b)).answer ≡ refused n → ⊥) → v ≡ Ok tt
        passes s b v false e f h = f refl
        passes s b (Ok u) true e f h = refl
        passes s b (Err r) true e f h = absurd (h e (number r) refl)

        go : SlotCase m g x s₁ s₂ (has_private_access m i) (slot_one (start_of x.table s₁) i) (slot_one (start_of x.table s₂) i) → out v₁ v₂
        go (public_slot h) = judged (same_effect h) v₁ v₂ refl refl (slot_both x g a.state h)
        go (private_slot h k f₁ f₂) =
            let p = passes s₁ b₁ v₁ (has_private_access m i) refl (λ z. ap verdict_of (slot_plain g x s₁ _ (lookups_quiet x h)) ∙ f₁ z) n₁ in
            let q = passes s₂ b₂ v₂ (has_private_access m i) refl (λ z. ap verdict_of (slot_plain g x s₂ _ (lookups_quiet x k)) ∙ f₂ z) n₂ in
            judged (quiet_effects h k) v₁ v₂ refl refl (p ∙ sym q)

  -- A bundle at a walked address of accepted code.
  pub bundle_alike : Fine m x.code s₁.fetch
      → (has_private_access m (bundle_at x.code s₁.fetch) ≡ true → (n : ℕ) → (bundle g x s₁ b₁).answer ≡ refused n → ⊥)
      → (has_private_access m (bundle_at x.code s₂.fetch) ≡ true → (n : ℕ) → (bundle g x s₂ b₂).answer ≡ refused n → ⊥)
      → SameOutcome m x (bundle g x s₁ b₁) (bundle g x s₂ b₂)
  unfolding NoStop
  bundle_alike f n₁ n₂ =
      rw (p₁, p₂)
      (outcome_alike i following f.decodable (keeps_each m i f.keeping) (λ h n e. n₁ h n (ap answer_of p₁ ∙ e))
      (λ h n e. n₂ (ap (λ (z : ℕ). has_private_access m (bundle_at x.code z)) (sym a.state.fetch) ∙ h) n (ap answer_of p₂ ∙ e)))
    where
      i : Bundle
      i = bundle_at x.code s₁.fetch

      following : ℕ
      following = following_at x.code s₁.fetch

      answer_of : Outcome → Returned
      answer_of o = o.answer

      p₁ : bundle g x s₁ b₁ ≡ outcome_of g x i following s₁ b₁
      p₁ = bundle_outcome g x s₁ b₁ f

      p₂ : bundle g x s₂ b₂ ≡ outcome_of g x i following s₂ b₂
      p₂ =
          bundle_outcome g x s₂ b₂ (subst (Fine m x.code) a.state.fetch f)
          ∙ ap (λ (z : ℕ). outcome_of g x (bundle_at x.code z) (following_at x.code z) s₂ b₂) (sym a.state.fetch)
