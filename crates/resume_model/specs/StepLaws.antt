-- A step is a run with a budget of 1, but for the answer where its bundle is done.
use Rattle.std.specs.Prelude.{ℕ, zero, Bool, false, true, not, cond, ◌||◌, List, ◌≡◌, refl, eqb, ltb, length}
use Rattle.std.proofs.lemmas.Bool.{false≢true}
use Rattle.std.proofs.Common.{sym, ap, ◌∙◌}
use Rattle.answers.specs.Refusal.{number}
use Rattle.answers.specs.Answer.{Returned, accepted, done, ended, spent, refused}
use Rattle.settings.specs.Setup.{Setup, Buffers, buffers, settings, lent}
use Rattle.settings.specs.Settings.{admits}
use Rattle.core_state.specs.State.{State}
use Rattle.replay.specs.Replay.{replay_ok}
use Rattle.bundle_model.specs.declared.Counts.{Counts}
use Rattle.bundle_model.specs.declared.Readiness.{Readiness}
use Rattle.bundle_model.specs.declared.Readiness.TheVariants as ready
use Rattle.bundle_model.specs.Counts.{no_counts, plus, plus_none}
use Rattle.bundle_model.specs.Bundle.{Outcome, outcome, counted, if_done, readiness, ready_or, step}
use Rattle.step_laws.specs.StepCases.{is_done, attempt_done}
use Rattle.step_laws.proofs.StepCases.{step_cases}
use Rattle.run_model.specs.Run.{run}
use Rattle.record_model.specs.Record.{read_record, accepts, longest}
use Rattle.resume_model.specs.Resume.{Resumed, resumed_of, as_found, handed_out, from_record, as_step, resumed, restepped}

-- The outcome of a run with a budget of 1, answered as a step.
abbrev answered : Outcome → Outcome
answered o = outcome (as_step o.answer o.counts.bundles) o.state o.counts o.buffers

-- What a run does after a step that it goes past: nothing, with no budget left.
abbrev after : Setup → Outcome → Outcome
after x o = if_done o.answer (counted o.counts (run x zero o.state o.buffers)) o

after_done : (x : Setup) (o : Outcome) → o.answer ≡ done → o.counts.bundles ≡ 1 → o ≡ answered (counted o.counts (run x zero o.state o.buffers))
unfolding run as_step
after_done x o d one = go (readiness (lent x o.buffers) x o.state)
  where
    count : (plus o.counts no_counts).bundles ≡ 1
    count = ap (λ (c : Counts). c.bundles) (plus_none o.counts) ∙ one

    go : (r : Readiness) → o ≡ answered (counted o.counts (ready_or r o.state o.buffers (outcome spent o.state no_counts o.buffers)))
    go ready.Ready = λ i. outcome ((d ∙ sym (ap (λ (n : ℕ). cond (eqb n 1) done spent) count)) i) o.state (sym (plus_none o.counts) i) o.buffers
    go ready.Ended = λ i. outcome ((d ∙ sym (ap (λ (n : ℕ). cond (eqb n 1) done ended) count)) i) o.state (sym (plus_none o.counts) i) o.buffers
    go (ready.Refused k) = λ i. outcome ((d ∙ sym (ap (λ (n : ℕ). cond (eqb n 1) done (refused (number k))) count)) i) o.state (sym (plus_none o.counts) i) o.buffers

step_run : (x : Setup) (s : State) (b : Buffers) → step x s b ≡ answered (run x 1 s b)
unfolding run as_step
step_run x s b = step_cases x s b (λ o. o ≡ answered (after x o)) same (λ g j. after_done x (attempt_done (lent x b) x s b) refl refl)
  where
    same : (a : Returned) → is_done a ≡ false → outcome a s no_counts b ≡ answered (after x (outcome a s no_counts b))
    same done e = absurd (false≢true (sym e))
    same accepted e = refl
    same ended e = refl
    same spent e = refl
    same (refused n) e = refl

-- So from a record too.
abbrev pub as_stepped : Resumed → Resumed
as_stepped r = resumed_of (as_step r.answer r.counts.bundles) r.counts r.written r.main r.local r.out

pub restep_resume : (x : Setup) (w : ℕ) (bytes main local out : List ℕ) → restepped x w bytes main local out ≡ as_stepped (resumed x 1 w bytes main local out)
unfolding from_record as_step
restep_resume x w bytes main local out =
    go (not (admits (settings x (length main) (length local) w))) (ltb (length out) (longest w) || not (accepts x w bytes)) (not (replay_ok x.list x.table))
  where
    given : Bool → Bool → Bool → Outcome → Resumed
    given t u r o = cond t (as_found 1 main local out) (cond u (as_found 14 main local out) (cond r (as_found 15 main local out) (handed_out o out)))

    go : (t u r : Bool) → given t u r (step x (read_record bytes).state (buffers main local (read_record bytes).cache))
        ≡ as_stepped (given t u r (run x 1 (read_record bytes).state (buffers main local (read_record bytes).cache)))
    go true u r = refl
    go false true r = refl
    go false false true = refl
    go false false false = ap (λ (o : Outcome). handed_out o out) (step_run x (read_record bytes).state (buffers main local (read_record bytes).cache))
