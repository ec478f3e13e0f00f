-- A bundle, a bundle as it is tried, and a step by their cases: without Done nothing changes.
use Rattle.std.specs.Prelude.{ℕ, Bool, ◌++◌, ◌≡◌, length, Ok, Err}
use Rattle.std.proofs.Math.Bool.{true, false}
use Rattle.std.proofs.Math.Path.{refl}
use Rattle.std.proofs.Common.{ap, ◌∙◌}
use Rattle.answers.specs.declared.Refusal.{Refusal}
use Rattle.answers.specs.Refusal.{number}
use Rattle.settings.specs.declared.Settings.{Settings}
use Rattle.core_state.specs.State.{State, start_of, with_done, ended as has_ended}
use Rattle.effects.specs.declared.Effect.{Effect}
use Rattle.answers.specs.Answer.{Returned, accepted, done, ended, spent, refused}
use Rattle.settings.specs.Settings.{admits}
use Rattle.effects.specs.Effect.{slot_one, slot_two}
use Rattle.bundle_model.specs.Refusal.{bundle_tests}
use Rattle.replay.specs.Replay.{replay_ok}
use Rattle.answers.specs.TestLaws.{and_then, verdict_append}
use Rattle.bundle_model.specs.Interrupt.{entry_tests, entry_counts, taken}
use Rattle.bundle_model.specs.Bundle.{buffers_after, state_done, counts_of, Outcome, outcome, refused_or, bundle, finished, attempt, well_formed, readiness, step}
use Rattle.settings.specs.Setup.{Buffers, lent, Setup}
use Rattle.answers.specs.Test.{Verdict, verdict as verdict_of}
use Rattle.bundle_model.specs.Counts.{no_counts, plus}
use Rattle.fetch.specs.Fetch.{bundle_at, following_at}

-- What slot one does at the fetch address, how the bundle there is judged, and its outcome where it is done.
abbrev pub effect_at : Setup → State → Effect
effect_at x s = slot_one (start_of x.table s) (bundle_at x.code s.fetch)

abbrev pub judged : Settings → Setup → State → Verdict
judged g x s = verdict_of (bundle_tests g x s (effect_at x s))

abbrev pub state_after : Settings → Setup → State → Buffers → State
state_after g x s b = state_done g x b s (effect_at x s) (slot_two (start_of x.table s) (bundle_at x.code s.fetch)) (following_at x.code s.fetch)

abbrev pub done_outcome : Settings → Setup → State → Buffers → Outcome
done_outcome g x s b = outcome done (state_after g x s b) (counts_of g x s (effect_at x s)) (buffers_after g x s (effect_at x s) b)

module _ (g : Settings) (x : Setup) (s : State) (b : Buffers) where
  -- A bundle whose verdict is a refusal changes nothing and counts nothing.
  pub bundle_refused : (r : Refusal) → judged g x s ≡ Err r → bundle g x s b ≡ outcome (refused (number r)) s no_counts b
  unfolding bundle
  bundle_refused r e = rw e

  -- A bundle judged fine is done.
  pub bundle_done : judged g x s ≡ Ok tt → bundle g x s b ≡ done_outcome g x s b
  unfolding bundle
  bundle_done e = rw e

  -- What holds of the outcome of a bundle refused and of one done holds of a bundle.
  pub bundle_cases : (P : Outcome → Type 0) → ((r : Refusal) → judged g x s ≡ Err r → P (outcome (refused (number r)) s no_counts b))
      → (judged g x s ≡ Ok tt → P (done_outcome g x s b)) → P (bundle g x s b)
  unfolding bundle
  bundle_cases P ref fine = go (judged g x s) refl
    where
      go : (v : Verdict) → judged g x s ≡ v → P (refused_or v s b (done_outcome g x s b))
      go (Ok u) e = fine e
      go (Err r) e = ref r e

  -- A bundle that answers Refused changes nothing.
  pub bundle_unchanged : (n : ℕ) → (bundle g x s b).answer ≡ refused n → bundle g x s b ≡ outcome (refused n) s no_counts b
  bundle_unchanged n = bundle_cases (λ o. o.answer ≡ refused n → o ≡ outcome (refused n) s no_counts b) (λ m j e. ap (λ (a : Returned). outcome a s no_counts b) e) (λ j e. cc)

  -- A bundle that answers Done was judged fine.
  pub bundle_fine : (bundle g x s b).answer ≡ done → judged g x s ≡ Ok tt
  bundle_fine = bundle_cases (λ o. o.answer ≡ done → judged g x s ≡ Ok tt) (λ m j e. cc) (λ j e. j)

  -- What a bundle that answers Done leaves, where slot one's effect is known.
  pub bundle_done_as : (e : Effect) → effect_at x s ≡ e → (bundle g x s b).answer ≡ done
      → bundle g x s b ≡ outcome done (state_done g x b s e (slot_two (start_of x.table s) (bundle_at x.code s.fetch)) (following_at x.code s.fetch)) (counts_of g x s e) (buffers_after g x s e b)
  bundle_done_as e p d =
      bundle_done (bundle_fine d)
      ∙ ap (λ (y : Effect). outcome done (state_done g x b s y (slot_two (start_of x.table s) (bundle_at x.code s.fetch)) (following_at x.code s.fetch)) (counts_of g x s y) (buffers_after g x s y b)) p

-- A bundle as it is tried: a record that is due is let pass, and then the bundle from the state with the record taken.
pub record Passes (g : Settings) (x : Setup) (s : State) : Type 0 where
  pub entry : verdict_of (entry_tests x s) ≡ Ok tt
  pub slots : judged g x (taken x s) ≡ Ok tt

-- Its outcome where it is done.
abbrev pub attempt_done : Settings → Setup → State → Buffers → Outcome
attempt_done g x s b =
    let o = done_outcome g x (taken x s) b in outcome done (with_done o.state) (plus (entry_counts x s) o.counts) o.buffers

module _ (g : Settings) (x : Setup) (s : State) (b : Buffers) where
  -- What holds of an outcome that changes nothing and of the one done holds of a bundle as it is tried.
  pub attempt_cases : (P : Outcome → Type 0)
      → ((r : Refusal) → verdict_of (entry_tests x s ++ bundle_tests g x (taken x s) (effect_at x (taken x s))) ≡ Err r → P (outcome (refused (number r)) s no_counts b))
      → (Passes g x s → P (attempt_done g x s b)) → P (attempt g x s b)
  unfolding attempt
  attempt_cases P ref fine = go (verdict_of (entry_tests x s)) refl
    where
      inner : Verdict → Verdict
      inner v = and_then v (judged g x (taken x s))

      all : verdict_of (entry_tests x s ++ bundle_tests g x (taken x s) (effect_at x (taken x s))) ≡ inner (verdict_of (entry_tests x s))
      all = verdict_append (entry_tests x s) (bundle_tests g x (taken x s) (effect_at x (taken x s)))

      go : (v : Verdict) → verdict_of (entry_tests x s) ≡ v → P (refused_or v s b (finished s b (entry_counts x s) (bundle g x (taken x s) b)))
      go (Ok u) e =
          bundle_cases g x (taken x s) b (λ o. P (finished s b (entry_counts x s) o)) (λ r j. ref r (all ∙ ap inner e ∙ j)) (λ j. fine (record { entry = e; slots = j }))
      go (Err r) e = ref r (all ∙ ap inner e)

-- Whether an answer is done.
abbrev pub is_done : Returned → Bool
is_done accepted = false
is_done done = true
is_done ended = false
is_done spent = false
is_done (refused n) = false

-- What a step goes past before it does its bundle: settings inside the limits, a well-formed state, a list and a table that 15 lets pass,
-- and a state that has not ended.
pub record Going (x : Setup) (s : State) (b : Buffers) : Type 0 where
  pub admitted : admits (lent x b) ≡ true
  pub well_formed : well_formed x s ≡ true
  pub replay : replay_ok x.list x.table ≡ true
  pub not_ended : has_ended s (length x.code) ≡ false

module _ (x : Setup) (s : State) (b : Buffers) where
  -- A step with settings outside the limits is refused with 1 and changes nothing.
  pub step_settings : admits (lent x b) ≡ false → step x s b ≡ outcome (refused 1) s no_counts b
  unfolding step readiness
  step_settings p = rw p

  -- A step on a state that is not well formed is refused with 11 and changes nothing.
  pub step_state : admits (lent x b) ≡ true → well_formed x s ≡ false → step x s b ≡ outcome (refused 11) s no_counts b
  unfolding step readiness
  step_state p q = rw (p, q)

  -- A step with a list or a table that 15 describes is refused with it and changes nothing.
  pub step_replay : admits (lent x b) ≡ true → well_formed x s ≡ true → replay_ok x.list x.table ≡ false → step x s b ≡ outcome (refused 15) s no_counts b
  unfolding step readiness
  step_replay p q r = rw (p, q, r)

  -- Where the code has ended, a step leaves all as it is.
  pub step_ended : admits (lent x b) ≡ true → well_formed x s ≡ true → replay_ok x.list x.table ≡ true → has_ended s (length x.code) ≡ true
      → step x s b ≡ outcome ended s no_counts b
  unfolding step readiness
  step_ended p q v r = rw (p, q, v, r)

  -- Any other step is its bundle as it is tried.
  pub step_attempt : Going x s b → step x s b ≡ attempt (lent x b) x s b
  unfolding step readiness
  step_attempt p = rw (p.admitted, p.well_formed, p.replay, p.not_ended)
