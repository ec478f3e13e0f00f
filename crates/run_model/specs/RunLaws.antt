-- Counts from before, and what a run keeps.
use Rattle.std.specs.Prelude.{ℕ, zero, suc, true, ◌≡◌}
use Rattle.std.proofs.Common.{ap}
use Rattle.answers.specs.Answer.{Returned, accepted, done, ended, spent, refused}
use Rattle.settings.specs.Setup.{Setup, Buffers, lent}
use Rattle.core_state.specs.State.{State, Shaped}
use Rattle.bundle_model.specs.declared.Counts.{Counts}
use Rattle.bundle_model.specs.declared.Readiness.{Readiness}
use Rattle.bundle_model.specs.declared.Readiness.TheVariants.{Ready, Ended, Refused}
use Rattle.bundle_model.specs.Counts.{no_counts, plus, none_plus, plus_plus}
use Rattle.bundle_model.specs.Bundle.{Outcome, outcome, counted, well_formed, readiness, ready_or, step}
use Rattle.step_laws.proofs.KeptLaws.{step_shaped}
use Rattle.step_laws.proofs.WellLaws.{step_well_formed}
use Rattle.run_model.specs.Run.{run}
use Rattle.bundle_model.specs.Bundle.{if_done}

pub counted_counted : (c d : Counts) (o : Outcome) → counted (plus c d) o ≡ counted c (counted d o)
counted_counted c d o = ap (λ (x : Counts). outcome o.answer o.state x o.buffers) (plus_plus c d o.counts)

pub counted_none : (o : Outcome) → counted no_counts o ≡ o
counted_none o = ap (λ (x : Counts). outcome o.answer o.state x o.buffers) (none_plus o.counts)

-- What every step keeps, of the state, a run keeps.
run_keeps : (P : State → Type 0) (x : Setup) → ((s : State) (b : Buffers) → P s → P (step x s b).state) → (k : ℕ) (s : State) (b : Buffers) → P s → P (run x k s b).state
unfolding run
run_keeps P x h zero s b p = go (readiness (lent x b) x s)
  where
    go : (r : Readiness) → P (ready_or r s b (outcome spent s no_counts b)).state
    go Ready = p
    go Ended = p
    go (Refused n) = p
run_keeps P x h (suc k) s b p = go (step x s b).answer (h s b p) (run_keeps P x h k (step x s b).state (step x s b).buffers (h s b p))
  where
    go : (a : Returned) → P (step x s b).state → P (run x k (step x s b).state (step x s b).buffers).state
        → P (if_done a (counted (step x s b).counts (run x k (step x s b).state (step x s b).buffers)) (step x s b)).state
    go done q r = r
    go accepted q r = q
    go ended q r = q
    go spent q r = q
    go (refused n) q r = q

pub run_shaped : (x : Setup) (k : ℕ) (s : State) (b : Buffers) → Shaped s → Shaped (run x k s b).state
run_shaped x = run_keeps Shaped x (step_shaped x)

pub run_well_formed : (x : Setup) (k : ℕ) (s : State) (b : Buffers) → well_formed x s ≡ true → well_formed x (run x k s b).state ≡ true
run_well_formed x = run_keeps (λ s. well_formed x s ≡ true) x (step_well_formed x)
