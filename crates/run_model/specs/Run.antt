-- A run with a budget: the bundle repeated, and beside it the list of the bundles that it tries.
use Rattle.std.specs.Prelude.{ℕ, zero, suc, ◌+◌, List, [], ◌∷◌, ◌++◌}
use Rattle.answers.specs.Answer.{Returned, spent}
use Rattle.core_state.specs.State.{State}
use Rattle.bundle_model.specs.declared.Counts.{Counts}
use Rattle.bundle_model.specs.declared.Readiness.{Readiness}
use Rattle.bundle_model.specs.declared.Readiness.TheVariants.{Ready, Ended, Refused}
use Rattle.bundle_model.specs.Interrupt.{entry_lookups, taken}
use Rattle.bundle_model.specs.Bundle.{Outcome, outcome, counted, if_done, readiness, ready_or, step}
use Rattle.settings.specs.Setup.{Buffers, lent, Setup}
use Rattle.bundle_model.specs.Lookup.{lookups}
use Rattle.step_laws.specs.StepCases.{effect_at}
use Rattle.bundle_model.specs.Counts.{no_counts, plus}

-- A run with no budget left: 1, 11, 15, ended, spent.
abbrev pub stopped : Setup → State → Buffers → Outcome
stopped x s b = ready_or (readiness (lent x b) x s) s b (outcome spent s no_counts b)

-- A run: a bundle that is done is followed by the run of the rest, and any other answer of the step is the run's. A run is spent if its budget is used up and the state has not ended.
unfoldable pub run : Setup → ℕ → State → Buffers → Outcome
run x zero s b = stopped x s b
run x (suc k) s b =
    let o = step x s b in
    let rest = run x k o.state o.buffers in
    if_done o.answer (counted o.counts rest) o

-- A tried bundle: its fetch address, which is the handler's where a record is taken with it, whether it was done or refused and with which number, the counts so far, and the state and
-- the buffers after it.
pub record Tried : Type 0 where
  pub fetch : ℕ
  pub answer : Returned
  pub counts : Counts
  pub state : State
  pub buffers : Buffers

abbrev pub tried_at : ℕ → Counts → Outcome → Tried
tried_at fetch before o = record { fetch = fetch; answer = o.answer; counts = plus before o.counts; state = o.state; buffers = o.buffers }

-- A list that is empty where no bundle is to be tried.
abbrev pub when_ready : {A : Type 0} → Readiness → List A → List A
when_ready Ready l = l
when_ready Ended l = []
when_ready (Refused n) l = []

-- The bundles that a run tries, each from the state and buffers that the one before left, the first from those handed in. A refused
-- one is tried too, and ends the list. The last argument is what the bundles before have counted.
unfoldable pub tries : Setup → ℕ → State → Buffers → Counts → List Tried
tries x zero s b before = []
tries x (suc k) s b before =
    let o = step x s b in
    let t = tried_at (taken x s).fetch before o in
    let rest = tries x k o.state o.buffers t.counts in
    when_ready (readiness (lent x b) x s) (t ∷ if_done o.answer rest [])

-- What a list of tried bundles ends in: the refusal of its last, or, where the last was done, ended or spent; with the state, the
-- buffers and the counts after the last that was done.
unfoldable pub end_of : Setup → State → Buffers → Counts → List Tried → Outcome
end_of x s b before [] = counted before (stopped x s b)
end_of x s b before (t ∷ rest) =
    if_done t.answer (end_of x t.state t.buffers t.counts rest) (outcome t.answer t.state t.counts t.buffers)

-- How many of a list of tried bundles were done.
unfoldable pub done_in : List Tried → ℕ
done_in [] = 0
done_in (t ∷ rest) = if_done t.answer 1 0 + done_in rest

-- The bases that a run looks up in the method cache, in order: those of the bundles that it does, of each first that of a record taken.
abbrev pub bundle_lookups : Setup → State → List ℕ
bundle_lookups x s = entry_lookups x s ++ lookups x (effect_at x (taken x s))

unfoldable pub bases_looked : Setup → ℕ → State → Buffers → List ℕ
bases_looked x zero s b = []
bases_looked x (suc k) s b =
    let o = step x s b in
    if_done o.answer (bundle_lookups x s ++ bases_looked x k o.state o.buffers) []
