-- A step by its cases, and what its answer tells: without Done nothing changes.
use Rattle.std.specs.Prelude.{Bool, not, cond, ◌≡◌, length}
use Rattle.std.proofs.Math.Bool.{true, false}
use Rattle.std.proofs.lemmas.Bool.{false≢true}
use Rattle.std.proofs.Math.Path.{refl}
use Rattle.std.proofs.Common.{sym, ap, ◌∙◌}
use Rattle.answers.specs.Refusal.{number}
use Rattle.answers.specs.declared.Refusal.TheVariants as refusal
use Rattle.core_state.specs.State.{State, ended as has_ended}
use Rattle.bundle_model.specs.declared.Readiness.TheVariants as ready
use Rattle.answers.specs.Answer.{Returned, done, ended, refused}
use Rattle.settings.specs.Settings.{admits}
use Rattle.replay.specs.Replay.{replay_ok}
use Rattle.bundle_model.specs.Bundle.{Outcome, outcome, attempt, well_formed, readiness, ready_or, step}
use Rattle.settings.specs.Setup.{Buffers, lent, Setup}
use Rattle.bundle_model.specs.Counts.{no_counts}
use Rattle.step_laws.specs.StepCases.{Going, Passes, attempt_cases, attempt_done, is_done}

module _ (x : Setup) (s : State) (b : Buffers) where
  -- What holds of the outcome of a step that changes nothing and of one whose bundle is done holds of a step.
  pub step_cases : (P : Outcome → Type 0) → ((a : Returned) → is_done a ≡ false → P (outcome a s no_counts b))
      → (Going x s b → Passes (lent x b) x s → P (attempt_done (lent x b) x s b)) → P (step x s b)
  unfolding step readiness
  step_cases P same fine = go (admits (lent x b)) (well_formed x s) (replay_ok x.list x.table) (has_ended s (length x.code)) refl refl refl refl
    where
      go : (u y w z : Bool) → admits (lent x b) ≡ u → well_formed x s ≡ y → replay_ok x.list x.table ≡ w → has_ended s (length x.code) ≡ z
          → P (ready_or (cond (not u) (ready.Refused refusal.Limits) (cond (not y) (ready.Refused refusal.IllFormed) (cond (not w) (ready.Refused refusal.Replay) (cond z ready.Ended ready.Ready)))) s b (attempt (lent x b) x s b))
      go false y w z p q v r = same (refused 1) refl
      go true false w z p q v r = same (refused 11) refl
      go true true false z p q v r = same (refused 15) refl
      go true true true true p q v r = same ended refl
      go true true true false p q v r =
          attempt_cases (lent x b) x s b P (λ r j. same (refused (number r)) refl) (fine (record { admitted = p; well_formed = q; replay = v; not_ended = r }))

  -- A step that answers anything but Done changes nothing.
  pub step_unchanged : (a : Returned) → is_done a ≡ false → (step x s b).answer ≡ a → step x s b ≡ outcome a s no_counts b
  step_unchanged a p = step_cases (λ o. o.answer ≡ a → o ≡ outcome a s no_counts b) (λ c q e. ap (λ (x : Returned). outcome x s no_counts b) e) (λ q j e. cc)

  -- A step that answers Done went past 1, 11, 15 and ended.
  pub step_going : (step x s b).answer ≡ done → Going x s b
  step_going = step_cases (λ o. o.answer ≡ done → Going x s b) (λ c q e. record { admitted = cc; well_formed = cc; replay = cc; not_ended = cc }) (λ q j e. q)

  -- Its bundle was judged fine.
  pub step_fine : (step x s b).answer ≡ done → Passes (lent x b) x s
  step_fine = step_cases (λ o. o.answer ≡ done → Passes (lent x b) x s) (λ c q e. record { entry = cc; slots = cc }) (λ q j e. j)

  -- Its outcome is that of the bundle done.
  pub step_done : (step x s b).answer ≡ done → step x s b ≡ attempt_done (lent x b) x s b
  step_done = step_cases (λ o. o.answer ≡ done → o ≡ attempt_done (lent x b) x s b) (λ c q e. absurd (false≢true (sym q ∙ ap is_done e))) (λ q j e. refl)
