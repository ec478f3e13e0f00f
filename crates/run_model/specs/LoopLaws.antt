-- A step and a run go through the same loop.
use Prim.Native.Nat.{ℕ, zero, suc, ◌+◌, ◌-◌, ◌≤◌, ◌<◌}
use Rattle.std.specs.Prelude.{Bool, not, cond, ◌≡◌, length}
use Rattle.std.proofs.Math.Bool.{true, false}
use Rattle.std.proofs.Math.Path.{refl}
use Rattle.std.proofs.Common.{sym, ap, subst, ◌∙◌, arith, add-one}
use Rattle.answers.specs.Answer.{Returned, accepted, done, ended, spent, refused}
use Rattle.settings.specs.declared.Settings.{Settings}
use Rattle.settings.specs.Settings.{admits}
use Rattle.settings.specs.Setup.{Setup, Buffers, lent}
use Rattle.replay.specs.Replay.{replay_ok}
use Rattle.core_state.specs.State.{State, ended as has_ended}
use Rattle.bundle_model.specs.declared.Counts.{Counts}
use Rattle.bundle_model.specs.declared.Readiness.{Readiness}
use Rattle.bundle_model.specs.declared.Readiness.TheVariants as ready
use Rattle.bundle_model.specs.Counts.{no_counts, plus, plus_none, Few, few_more, few_plus}
use Rattle.bundle_model.specs.Bundle.{Outcome, outcome, counted, attempt, well_formed, readiness, ready_or, step}
use Rattle.step_laws.specs.StepCases.{is_done, step_attempt, step_ended}
use Rattle.bundle_model.proofs.BundleLaws.{ready_admits, ready_well_formed, ready_replay, ready_not_ended}
use Rattle.step_laws.proofs.StackKept.{attempt_lengths, lent_same}
use Rattle.step_laws.proofs.CountLaws.{attempt_few}
use Rattle.step_laws.proofs.WellLaws.{attempt_well_formed}
use Rattle.settings.specs.SettingsLaws.{area_ordered, capacity_ok_lem}
use Rattle.run_model.specs.Run.{run}
use Rattle.bundle_model.specs.Bundle.{if_done}
use Rattle.run_model.specs.RunLaws.{counted_counted}
use Rattle.run_model.specs.Loop.{goes_on, advanced, ending}

-- Turns of the loop: with no budget left, at an ended state, at a refused bundle, and past one that is done.
module _ (x : Setup) where
  pub goes_none : (k : ℕ) (s : State) (b : Buffers) → k ≤ 0 → goes_on x k s b ≡ outcome done s no_counts b
  unfolding goes_on
  goes_none zero s b p = refl
  goes_none (suc k) s b p = absurd (omega arith)

  pub goes_ended : (k : ℕ) (s : State) (b : Buffers) → 0 < k → has_ended s (length x.code) ≡ true → goes_on x k s b ≡ outcome ended s no_counts b
  unfolding goes_on
  goes_ended zero s b p e = absurd (omega arith)
  goes_ended (suc k) s b p e = rw e

  goes_bundle : (k : ℕ) (s : State) (b : Buffers) (o : Outcome) → has_ended s (length x.code) ≡ false → o ≡ attempt (lent x b) x s b
      → goes_on x (suc k) s b ≡ if_done o.answer (counted o.counts (goes_on x k o.state o.buffers)) o
  unfolding goes_on
  goes_bundle k s b o e p =
      rw e (ap (λ (y : Outcome). if_done y.answer (counted y.counts (goes_on x k y.state y.buffers)) y) (sym p))

  pub goes_stops : (k : ℕ) (s : State) (b : Buffers) (o : Outcome) → 0 < k → has_ended s (length x.code) ≡ false → o ≡ attempt (lent x b) x s b
      → is_done o.answer ≡ false → goes_on x k s b ≡ o
  goes_stops zero s b o h e p q = absurd (omega arith)
  goes_stops (suc k) s b o h e p q = goes_bundle k s b o e p ∙ go o.answer q
    where
      go : (a : Returned) → is_done a ≡ false → if_done a (counted o.counts (goes_on x k o.state o.buffers)) o ≡ o
      go done r = cc
      go accepted r = refl
      go ended r = refl
      go spent r = refl
      go (refused n) r = refl

  pub goes_past : (k k' : ℕ) (s : State) (b : Buffers) (o : Outcome) → k ≡ k' + 1 → has_ended s (length x.code) ≡ false → o ≡ attempt (lent x b) x s b
      → o.answer ≡ done → goes_on x k s b ≡ counted o.counts (goes_on x k' o.state o.buffers)
  goes_past k k' s b o h e p q =
      ap (λ (n : ℕ). goes_on x n s b) (h ∙ add-one k')
      ∙ goes_bundle k' s b o e p
      ∙ ap (λ (a : Returned). if_done a (counted o.counts (goes_on x k' o.state o.buffers)) o) q

  -- The end of a run, with counts from before.
  ending_counted : (c : Counts) (o : Outcome) → counted c (ending x o) ≡ ending x (counted c o)
  ending_counted c o = go o.answer
    where
      go : (a : Returned) → counted c (if_done a (outcome (cond (has_ended o.state (length x.code)) ended spent) o.state o.counts o.buffers) o)
          ≡ if_done a (outcome (cond (has_ended o.state (length x.code)) ended spent) o.state (plus c o.counts) o.buffers) (counted c o)
      go done = refl
      go accepted = refl
      go ended = refl
      go spent = refl
      go (refused n) = refl

  -- From settings inside the limits and a well-formed state on, nothing but the end is to be judged.
  pub run_goes : (k : ℕ) (s : State) (b : Buffers) → admits (lent x b) ≡ true → well_formed x s ≡ true → replay_ok x.list x.table ≡ true → run x k s b ≡ ending x (goes_on x k s b)
  unfolding run goes_on readiness
  run_goes zero s b a w v = rw (a, w, v) (go (has_ended s (length x.code)))
    where
      go : (t : Bool) → ready_or (cond t ready.Ended ready.Ready) s b (outcome spent s no_counts b) ≡ outcome (cond t ended spent) s no_counts b
      go true = refl
      go false = refl
  run_goes (suc k) s b a w v = go (has_ended s (length x.code)) refl (run_goes k (attempt (lent x b) x s b).state (attempt (lent x b) x s b).buffers)
    where
      o : Outcome
      o = attempt (lent x b) x s b

      after : Outcome → Outcome → Outcome
      after y rest = if_done y.answer (counted y.counts rest) y

      Next : Type 0
      Next = admits (lent x o.buffers) ≡ true → well_formed x o.state ≡ true → replay_ok x.list x.table ≡ true → run x k o.state o.buffers ≡ ending x (goes_on x k o.state o.buffers)

      kept : admits (lent x o.buffers) ≡ true
      kept = ap admits (lent_same x b o.buffers (attempt_lengths (lent x b) x s b (area_ordered (lent x b) a))) ∙ a

      -- The end of what was not done is that itself.
      same : (y : Returned) → is_done y ≡ false → o.answer ≡ y → o ≡ ending x o
      same y n e = sym (ap (λ (z : Returned). if_done z (outcome (cond (has_ended o.state (length x.code)) ended spent) o.state o.counts o.buffers) o) e ∙ not_done y n)
        where
          not_done : (z : Returned) → is_done z ≡ false → if_done z (outcome (cond (has_ended o.state (length x.code)) ended spent) o.state o.counts o.buffers) o ≡ o
          not_done done m = cc
          not_done accepted m = refl
          not_done ended m = refl
          not_done spent m = refl
          not_done (refused n) m = refl

      by_answer : (y : Returned) → o.answer ≡ y → Next
          → if_done y (counted o.counts (run x k o.state o.buffers)) o ≡ ending x (if_done y (counted o.counts (goes_on x k o.state o.buffers)) o)
      by_answer done e next = ap (counted o.counts) (next kept (attempt_well_formed (lent x b) x s b (capacity_ok_lem (lent x b) a) w) v) ∙ ending_counted o.counts (goes_on x k o.state o.buffers)
      by_answer accepted e next = same accepted refl e
      by_answer ended e next = same ended refl e
      by_answer spent e next = same spent refl e
      by_answer (refused n) e next = same (refused n) refl e

      go : (t : Bool) → has_ended s (length x.code) ≡ t → Next
          → after (step x s b) (run x k (step x s b).state (step x s b).buffers) ≡ ending x (cond t (outcome ended s no_counts b) (after o (goes_on x k o.state o.buffers)))
      go true e next = ap (λ (y : Outcome). after y (run x k y.state y.buffers)) (step_ended x s b a w v e)
      go false e next =
          ap (λ (y : Outcome). after y (run x k y.state y.buffers)) (step_attempt x s b (record { admitted = a; well_formed = w; replay = v; not_ended = e }))
          ∙ by_answer o.answer refl next

-- What a run gives where no bundle is to be tried.
abbrev is_ready : Readiness → Bool
is_ready ready.Ready = true
is_ready ready.Ended = false
is_ready (ready.Refused n) = false

run_not_ready : (x : Setup) (k : ℕ) (s : State) (b : Buffers) (r : Readiness) → readiness (lent x b) x s ≡ r → is_ready r ≡ false
    → run x k s b ≡ ending x (ready_or r s b (goes_on x k s b))
unfolding run step
run_not_ready x zero s b r e n = rw e (go r n)
  where
    go : (q : Readiness) → is_ready q ≡ false → ready_or q s b (outcome spent s no_counts b) ≡ ending x (ready_or q s b (goes_on x zero s b))
    go ready.Ready m = cc
    go ready.Ended m = refl
    go (ready.Refused n) m = refl
run_not_ready x (suc k) s b r e n = rw e (go r n)
  where
    go : (q : Readiness) → is_ready q ≡ false
        → if_done (ready_or q s b (attempt (lent x b) x s b)).answer (counted (ready_or q s b (attempt (lent x b) x s b)).counts (run x k (ready_or q s b (attempt (lent x b) x s b)).state (ready_or q s b (attempt (lent x b) x s b)).buffers)) (ready_or q s b (attempt (lent x b) x s b))
        ≡ ending x (ready_or q s b (goes_on x (suc k) s b))
    go ready.Ready m = cc
    go ready.Ended m = refl
    go (ready.Refused n) m = refl

-- A step is a turn of the loop with a budget of 1, and a run one with its budget.
module _ (x : Setup) (s : State) (b : Buffers) where
  pub step_advanced : step x s b ≡ advanced x 1 s b
  unfolding step goes_on
  step_advanced = go (readiness (lent x b) x s) refl
    where
      o : Outcome
      o = attempt (lent x b) x s b

      one : (a : Returned) → o.answer ≡ a → o ≡ if_done a (outcome done o.state (plus o.counts no_counts) o.buffers) o
      one done e = λ i. outcome (e i) o.state (sym (plus_none o.counts) i) o.buffers
      one accepted e = refl
      one ended e = refl
      one spent e = refl
      one (refused n) e = refl

      go : (r : Readiness) → readiness (lent x b) x s ≡ r → ready_or r s b o
          ≡ ready_or r s b (cond (has_ended s (length x.code)) (outcome ended s no_counts b) (if_done o.answer (outcome done o.state (plus o.counts no_counts) o.buffers) o))
      go ready.Ready e = rw (ready_not_ended (lent x b) x s e) (one o.answer refl)
      go ready.Ended e = refl
      go (ready.Refused n) e = refl

  pub run_advanced : (k : ℕ) → run x k s b ≡ ending x (advanced x k s b)
  run_advanced k = go (readiness (lent x b) x s) refl
    where
      go : (r : Readiness) → readiness (lent x b) x s ≡ r → run x k s b ≡ ending x (ready_or r s b (goes_on x k s b))
      go ready.Ready e = run_goes x k s b (ready_admits (lent x b) x s e) (ready_well_formed (lent x b) x s e) (ready_replay (lent x b) x s e)
      go ready.Ended e = run_not_ready x k s b ready.Ended e refl
      go (ready.Refused n) e = run_not_ready x k s b (ready.Refused n) e refl

-- One turn of the loop, which has counted c so far: what a bundle gives, summed, and the rest from there on.
module _ (x : Setup) (g : Settings) (s : State) (b : Buffers) (c : Counts) (r : Outcome) (e : r ≡ counted c (attempt g x s b)) (same : g ≡ lent x b)
    (left : ℕ) (more : 0 < left) (n : has_ended s (length x.code) ≡ false) where
  here : attempt g x s b ≡ attempt (lent x b) x s b
  here = ap (λ (h : Settings). attempt h x s b) same

  -- What is not done is the end.
  pub turn_stops : is_done r.answer ≡ false → r ≡ counted c (goes_on x left s b)
  turn_stops d =
      let f : is_done (attempt g x s b).answer ≡ false = ap (λ (o : Outcome). is_done o.answer) (sym e) ∙ d in
      e ∙ sym (ap (counted c) (goes_stops x left s b (attempt g x s b) more n here f))

  -- A bundle done is counted, and the rest goes on.
  pub turn_goes_on : r.answer ≡ done → counted r.counts (goes_on x (left - 1) r.state r.buffers) ≡ counted c (goes_on x left s b)
  turn_goes_on d =
      let o = attempt g x s b in
      let f : o.answer ≡ done = ap (λ (y : Outcome). y.answer) (sym e) ∙ d in
      ap (λ (y : Outcome). counted y.counts (goes_on x (left - 1) y.state y.buffers)) e
      ∙ counted_counted c o.counts (goes_on x (left - 1) o.state o.buffers)
      ∙ ap (counted c) (sym (goes_past x left (left - 1) s b o (omega arith) n here f))

  -- It counts one bundle more.
  pub turn_few : (budget : ℕ) → left ≤ budget → admits g ≡ true → Few (budget - left) c → Few (budget - (left - 1)) r.counts
  turn_few budget h a f =
      few_more (budget - left + 1) (budget - (left - 1)) r.counts (omega (arith, h, more))
      (subst (λ (y : Outcome). Few (budget - left + 1) y.counts) (sym e) (few_plus (budget - left) 1 c (attempt g x s b).counts f (attempt_few g x s b a (ap (λ (h : Settings). h.method) same))))
