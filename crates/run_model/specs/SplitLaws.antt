-- A run of m bundles and then, if it is spent, of n more is a run of m + n; and a run keeps the lengths of what it is lent.
use Rattle.std.specs.Prelude.{ℕ, zero, suc, ◌+◌, Bool, true, false, ◌≡◌, refl}
use Rattle.std.proofs.lemmas.Bool.{false≢true}
use Rattle.std.proofs.Common.{sym, ap, ◌∙◌, zero-add, arith}
use Rattle.answers.specs.Answer.{Returned, accepted, done, ended, spent, refused}
use Rattle.settings.specs.Setup.{Setup, Buffers, lent}
use Rattle.core_state.specs.State.{State}
use Rattle.bundle_model.specs.declared.Counts.{Counts}
use Rattle.bundle_model.specs.declared.Readiness.{Readiness}
use Rattle.bundle_model.specs.declared.Readiness.TheVariants as ready
use Rattle.bundle_model.specs.Counts.{no_counts}
use Rattle.bundle_model.specs.Bundle.{Outcome, outcome, counted, attempt, readiness, ready_or, step}
use Rattle.step_laws.specs.StepCases.{attempt_cases}
use Rattle.step_laws.proofs.StackKept.{SameLengths, lengths_same, step_lengths}
use Rattle.run_model.specs.Run.{run}
use Rattle.bundle_model.specs.Bundle.{if_done}
use Rattle.run_model.specs.RunLaws.{counted_counted, counted_none}
use Rattle.run_model.specs.Loop.{goes_on, ending}
use Rattle.run_model.specs.LoopLaws.{run_advanced}

-- By cases: a run spent, and every other answer.
abbrev pub if_spent : {A : Type 0} → Returned → A → A → A
if_spent spent a other = a
if_spent done a other = other
if_spent accepted a other = other
if_spent ended a other = other
if_spent (refused n) a other = other

-- A run that is spent goes on with a budget from where it stopped, and its counts are summed; another run stays as it is.
abbrev pub continued : Setup → ℕ → Outcome → Outcome
continued x n o = if_spent o.answer (counted o.counts (run x n o.state o.buffers)) o

-- Where no bundle is to be tried, a run's budget does not matter.
not_ready : (x : Setup) (n : ℕ) (s : State) (b : Buffers) (r : Readiness) → readiness (lent x b) x s ≡ r
    → continued x n (ready_or r s b (outcome spent s no_counts b)) ≡ run x n s b
not_ready x n s b ready.Ready e = counted_none (run x n s b)
not_ready x n s b ready.Ended e = sym (run_advanced x s b n ∙ ap (λ (r : Readiness). ending x (ready_or r s b (goes_on x n s b))) e)
not_ready x n s b (ready.Refused m) e = sym (run_advanced x s b n ∙ ap (λ (r : Readiness). ending x (ready_or r s b (goes_on x n s b))) e)

-- Whether an answer is spent; no step's is.
abbrev is_spent : Returned → Bool
is_spent a = if_spent a true false

step_not_spent : (x : Setup) (s : State) (b : Buffers) → is_spent (step x s b).answer ≡ false
unfolding step
step_not_spent x s b = go (readiness (lent x b) x s)
  where
    go : (r : Readiness) → is_spent (ready_or r s b (attempt (lent x b) x s b)).answer ≡ false
    go ready.Ready = attempt_cases (lent x b) x s b (λ o. is_spent o.answer ≡ false) (λ n j. refl) (λ j. refl)
    go ready.Ended = refl
    go (ready.Refused n) = refl

-- So a step is not continued.
stays : (x : Setup) (n : ℕ) (o : Outcome) → is_spent o.answer ≡ false → o ≡ continued x n o
stays x n o = go o.answer
  where
    go : (a : Returned) → is_spent a ≡ false → o ≡ if_spent a (counted o.counts (run x n o.state o.buffers)) o
    go spent e = absurd (false≢true (sym e))
    go done e = refl
    go accepted e = refl
    go ended e = refl
    go (refused k) e = refl

-- Behind counts from before.
continued_counted : (x : Setup) (n : ℕ) (c : Counts) (o : Outcome) → counted c (continued x n o) ≡ continued x n (counted c o)
continued_counted x n c o = go o.answer
  where
    go : (a : Returned) → counted c (if_spent a (counted o.counts (run x n o.state o.buffers)) o)
        ≡ if_spent a (counted (counted c o).counts (run x n o.state o.buffers)) (counted c o)
    go spent = sym (counted_counted c o.counts (run x n o.state o.buffers))
    go done = refl
    go accepted = refl
    go ended = refl
    go (refused k) = refl

-- For every state, well formed or not, and all settings.
pub run_split : (x : Setup) (m n : ℕ) (s : State) (b : Buffers) → run x (m + n) s b ≡ continued x n (run x m s b)
unfolding run
run_split x zero n s b = ap (λ (k : ℕ). run x k s b) (zero-add n) ∙ sym (not_ready x n s b (readiness (lent x b) x s) refl)
run_split x (suc m) n s b =
    let e : suc m + n ≡ suc (m + n) = omega arith in
    ap (λ (k : ℕ). run x k s b) e ∙ go (step x s b).answer (run_split x m n (step x s b).state (step x s b).buffers)
  where
    go : (a : Returned) → run x (m + n) (step x s b).state (step x s b).buffers ≡ continued x n (run x m (step x s b).state (step x s b).buffers)
        → if_done a (counted (step x s b).counts (run x (m + n) (step x s b).state (step x s b).buffers)) (step x s b)
        ≡ continued x n (if_done a (counted (step x s b).counts (run x m (step x s b).state (step x s b).buffers)) (step x s b))
    go done h = ap (counted (step x s b).counts) h ∙ continued_counted x n (step x s b).counts (run x m (step x s b).state (step x s b).buffers)
    go accepted h = stays x n (step x s b) (step_not_spent x s b)
    go ended h = stays x n (step x s b) (step_not_spent x s b)
    go spent h = stays x n (step x s b) (step_not_spent x s b)
    go (refused k) h = stays x n (step x s b) (step_not_spent x s b)

-- The lengths of what is lent.
pub run_lengths : (x : Setup) (k : ℕ) (s : State) (b : Buffers) → SameLengths b (run x k s b).buffers
unfolding run
run_lengths x zero s b = go (readiness (lent x b) x s)
  where
    go : (r : Readiness) → SameLengths b (ready_or r s b (outcome spent s no_counts b)).buffers
    go ready.Ready = lengths_same b
    go ready.Ended = lengths_same b
    go (ready.Refused n) = lengths_same b
run_lengths x (suc k) s b = go (step x s b).answer (step_lengths x s b) (run_lengths x k (step x s b).state (step x s b).buffers)
  where
    go : (a : Returned) → SameLengths b (step x s b).buffers → SameLengths (step x s b).buffers (run x k (step x s b).state (step x s b).buffers).buffers
        → SameLengths b (if_done a (counted (step x s b).counts (run x k (step x s b).state (step x s b).buffers)) (step x s b)).buffers
    go done p q = record { main = q.main ∙ p.main; local = q.local ∙ p.local; cache = q.cache ∙ p.cache }
    go accepted p q = p
    go ended p q = p
    go spent p q = p
    go (refused n) p q = p
