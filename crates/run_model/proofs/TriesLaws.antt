-- A run is what its list of tried bundles says: answer, contents, counts, and the number of bundles done.
use Prim.Native.Nat.{ℕ, zero, suc, ◌+◌}
use Rattle.std.specs.Prelude.{false, List, [], ◌∷◌, ◌≡◌}
use Rattle.std.proofs.Math.Path.{refl, sym, ap}
use Rattle.std.proofs.Common.{◌∙◌, arith}
use Rattle.answers.specs.Refusal.{number}
use Rattle.answers.specs.Answer.{Returned, accepted, done, ended, spent, refused}
use Rattle.core_state.specs.State.{State}
use Rattle.bundle_model.specs.declared.Counts.{Counts}
use Rattle.bundle_model.specs.declared.Readiness.{Readiness}
use Rattle.bundle_model.specs.declared.Readiness.TheVariants.{Ready, Ended, Refused}
use Rattle.bundle_model.specs.Bundle.{Outcome, outcome, counted, attempt, readiness, ready_or, step}
use Rattle.step_laws.specs.StepCases.{is_done, attempt_cases}
use Rattle.step_laws.proofs.StepCases.{step_cases}
use Rattle.run_model.specs.Run.{run, Tried, tried_at, when_ready, tries, end_of, done_in}
use Rattle.bundle_model.specs.Bundle.{if_done}
use Rattle.run_model.specs.RunLaws.{counted_counted, counted_none}
use Rattle.settings.specs.Setup.{Buffers, lent, Setup}
use Rattle.bundle_model.specs.Interrupt.{taken}
use Rattle.bundle_model.specs.Counts.{no_counts, plus}

-- How many bundles a step counts: 1 where it is done.
pub step_one : (x : Setup) (s : State) (b : Buffers) → (step x s b).counts.bundles ≡ if_done (step x s b).answer 1 0
step_one x s b = step_cases x s b (λ o. o.counts.bundles ≡ if_done o.answer 1 0) none (λ p j. refl)
  where
    none : (a : Returned) → is_done a ≡ false → ◌≡◌ {A = ℕ} 0 (if_done a 1 0)
    none done e = cc
    none accepted e = refl
    none ended e = refl
    none spent e = refl
    none (refused n) e = refl

-- What a step gives where no bundle is tried.
step_readiness : (x : Setup) (s : State) (b : Buffers) (r : Readiness) → readiness (lent x b) x s ≡ r
    → step x s b ≡ ready_or r s b (attempt (lent x b) x s b)
unfolding step
step_readiness x s b r e = ap (λ (y : Readiness). ready_or y s b (attempt (lent x b) x s b)) e

-- A step never answers spent.
step_spent : (x : Setup) (s : State) (b : Buffers) → (step x s b).answer ≡ spent → (i k : ℕ) → i ≡ k
step_spent x s b e = go (readiness (lent x b) x s) refl
  where
    go : (r : Readiness) → readiness (lent x b) x s ≡ r → (i k : ℕ) → i ≡ k
    go Ready p =
        attempt_cases (lent x b) x s b (λ o. o.answer ≡ spent → (i k : ℕ) → i ≡ k) (λ n j q i k. cc) (λ j q i k. cc)
        (ap (λ (o : Outcome). o.answer) (sym (step_readiness x s b Ready p)) ∙ e)
    go Ended p = λ i k. let q : ended ≡ spent = ap (λ (o : Outcome). o.answer) (sym (step_readiness x s b Ended p)) ∙ e in cc
    go (Refused r) p = λ i k. let q : refused (number r) ≡ spent = ap (λ (o : Outcome). o.answer) (sym (step_readiness x s b (Refused r) p)) ∙ e in cc

module _ (x : Setup) (s : State) (b : Buffers) (before : Counts) where
  -- The rest of a run after a step, and the list of tried bundles from it on, by what the step gives.
  abbrev going : (State → Buffers → Outcome) → Outcome → Outcome
  going rest o = counted before (if_done o.answer (counted o.counts (rest o.state o.buffers)) o)

  abbrev listed : (State → Buffers → Counts → List Tried) → Readiness → Outcome → List Tried
  listed rest r o = when_ready r (tried_at (taken x s).fetch before o ∷ if_done o.answer (rest o.state o.buffers (plus before o.counts)) [])

  by_answer : (rest : State → Buffers → Outcome) (list : State → Buffers → Counts → List Tried)
      → ((s' : State) (b' : Buffers) (c : Counts) → counted c (rest s' b') ≡ end_of x s' b' c (list s' b' c))
      → (o : Outcome) (a : Returned)
      → counted before (if_done a (counted o.counts (rest o.state o.buffers)) o)
      ≡ if_done a (end_of x o.state o.buffers (plus before o.counts) (if_done a (list o.state o.buffers (plus before o.counts)) [])) (counted before o)
  by_answer rest list h o done = sym (counted_counted before o.counts (rest o.state o.buffers)) ∙ h o.state o.buffers (plus before o.counts)
  by_answer rest list h o accepted = refl
  by_answer rest list h o ended = refl
  by_answer rest list h o spent = refl
  by_answer rest list h o (refused n) = refl

  by_readiness : (rest : State → Buffers → Outcome) (list : State → Buffers → Counts → List Tried)
      → ((s' : State) (b' : Buffers) (c : Counts) → counted c (rest s' b') ≡ end_of x s' b' c (list s' b' c))
      → (r : Readiness) → readiness (lent x b) x s ≡ r
      → going rest (step x s b) ≡ end_of x s b before (listed list r (step x s b))
  unfolding end_of
  by_readiness rest list h Ready e = by_answer rest list h (step x s b) (step x s b).answer
  by_readiness rest list h Ended e =
      ap (going rest) (step_readiness x s b Ended e) ∙ sym (ap (λ (r : Readiness). counted before (ready_or r s b (outcome spent s no_counts b))) e)
  by_readiness rest list h (Refused n) e =
      ap (going rest) (step_readiness x s b (Refused n) e) ∙ sym (ap (λ (r : Readiness). counted before (ready_or r s b (outcome spent s no_counts b))) e)

  -- The number of bundles done, by what the step gives.
  abbrev after : (State → Buffers → Outcome) → Outcome → Outcome
  after rest o = if_done o.answer (counted o.counts (rest o.state o.buffers)) o

  bundles_by_answer : (o rest : Outcome) (list : List Tried) (a : Returned) → o.counts.bundles ≡ if_done a 1 0 → rest.counts.bundles ≡ done_in list
      → (if_done a (counted o.counts rest) o).counts.bundles ≡ if_done a 1 0 + done_in (if_done a list [])
  unfolding done_in
  bundles_by_answer o rest list done h q = λ i. h i + q i
  bundles_by_answer o rest list accepted h q = h
  bundles_by_answer o rest list ended h q = h
  bundles_by_answer o rest list spent h q = h
  bundles_by_answer o rest list (refused n) h q = h

  bundles_by_readiness : (rest : State → Buffers → Outcome) (list : State → Buffers → Counts → List Tried)
      → ((s' : State) (b' : Buffers) (c : Counts) → (rest s' b').counts.bundles ≡ done_in (list s' b' c))
      → (r : Readiness) → readiness (lent x b) x s ≡ r → (after rest (step x s b)).counts.bundles ≡ done_in (listed list r (step x s b))
  unfolding done_in
  bundles_by_readiness rest list h Ready e =
      bundles_by_answer (step x s b) _ _ (step x s b).answer (step_one x s b) (h (step x s b).state (step x s b).buffers _)
  bundles_by_readiness rest list h Ended e = ap (λ (o : Outcome). (after rest o).counts.bundles) (step_readiness x s b Ended e)
  bundles_by_readiness rest list h (Refused n) e = ap (λ (o : Outcome). (after rest o).counts.bundles) (step_readiness x s b (Refused n) e)

module _ (x : Setup) where
  -- What is left to do from here, with the counts from before, is what the list of the bundles tried from here ends in.
  pub from_here : (k : ℕ) (s : State) (b : Buffers) (before : Counts) → counted before (run x k s b) ≡ end_of x s b before (tries x k s b before)
  unfolding run tries end_of
  from_here zero s b before = refl
  from_here (suc k) s b before =
      by_readiness x s b before (run x k) (tries x k) (λ s' b' c. from_here k s' b' c) (readiness (lent x b) x s) refl

  -- A run's answer, state, buffers and counts are those that its list of tried bundles ends in.
  pub run_tries : (k : ℕ) (s : State) (b : Buffers) → run x k s b ≡ end_of x s b no_counts (tries x k s b no_counts)
  run_tries k s b = sym (counted_none (run x k s b)) ∙ from_here k s b no_counts

  -- The bundles that a run counts are those of the list that were done.
  pub run_bundles : (k : ℕ) (s : State) (b : Buffers) (before : Counts) → (run x k s b).counts.bundles ≡ done_in (tries x k s b before)
  unfolding run tries done_in
  run_bundles zero s b before = go (readiness (lent x b) x s)
    where
      go : (r : Readiness) → (ready_or r s b (outcome spent s no_counts b)).counts.bundles ≡ 0
      go Ready = refl
      go Ended = refl
      go (Refused n) = refl
  run_bundles (suc k) s b before =
      bundles_by_readiness x s b before (run x k) (tries x k) (λ s' b' c. run_bundles k s' b' c) (readiness (lent x b) x s) refl

  -- A run that answers spent has done as many bundles as its budget.
  pub run_spent : (k : ℕ) (s : State) (b : Buffers) → (run x k s b).answer ≡ spent → (run x k s b).counts.bundles ≡ k
  unfolding run
  run_spent zero s b = go (readiness (lent x b) x s)
    where
      go : (r : Readiness) → (ready_or r s b (outcome spent s no_counts b)).answer ≡ spent → (ready_or r s b (outcome spent s no_counts b)).counts.bundles ≡ 0
      go Ready e = refl
      go Ended e = refl
      go (Refused n) e = refl
  run_spent (suc k) s b = go (step x s b).answer refl (run_spent k (step x s b).state (step x s b).buffers) (step_one x s b)
    where
      rest : Outcome
      rest = run x k (step x s b).state (step x s b).buffers

      go : (a : Returned) → (step x s b).answer ≡ a → (rest.answer ≡ spent → rest.counts.bundles ≡ k) → (step x s b).counts.bundles ≡ if_done a 1 0
          → (if_done a (counted (step x s b).counts rest) (step x s b)).answer ≡ spent
          → (if_done a (counted (step x s b).counts rest) (step x s b)).counts.bundles ≡ suc k
      go done p h q e = omega (arith, q, h e)
      go accepted p h q e = cc
      go ended p h q e = cc
      go spent p h q e = step_spent x s b p _ _
      go (refused n) p h q e = cc
