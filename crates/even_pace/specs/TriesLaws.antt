-- The recursion of a run and of the list of the bundles that it tries.
use Prim.Native.Nat.{ℕ, zero, suc}
use Rattle.std.specs.Prelude.{true, false, cond, ◌≡◌, length}
use mathlib.Core.List.{List, [], ◌∷◌}
use Rattle.std.proofs.Math.Path.{refl}
use Rattle.std.proofs.Common.{ap}
use Rattle.answers.specs.Answer.{Returned, accepted, done, ended, spent, refused}
use Rattle.settings.specs.Settings.{admits}
use Rattle.replay.specs.Replay.{replay_ok}
use Rattle.core_state.specs.State.{State, ended as has_ended}
use Rattle.bundle_model.specs.declared.Counts.{Counts}
use Rattle.bundle_model.specs.Bundle.{Outcome, outcome, counted, if_done, well_formed, readiness, attempt}
use Rattle.bundle_model.specs.Interrupt.{taken}
use Rattle.step_laws.specs.StepCases.{is_done, Going, step_attempt, step_ended, step_replay}
use Rattle.run_model.specs.Run.{run, Tried, tried_at, tries}
use Rattle.settings.specs.Setup.{Buffers, lent, Setup}
use Rattle.bundle_model.specs.Counts.{no_counts, plus}

-- By cases on done is by cases on a truth value.
if_done_lem : {A : Type 0} (a : Returned) (z y : A) → if_done a z y ≡ cond (is_done a) z y
if_done_lem done z y = refl
if_done_lem accepted z y = refl
if_done_lem ended z y = refl
if_done_lem spent z y = refl
if_done_lem (refused n) z y = refl

-- Where 15 describes list or table, no bundle is tried, and all is left as found.
module _ (x : Setup) (s : State) (b : Buffers) (admitted : admits (lent x b) ≡ true) (well : well_formed x s ≡ true)
    (wrong : replay_ok x.list x.table ≡ false) where
  pub tries_wrong : (k : ℕ) (c : Counts) → tries x k s b c ≡ []
  unfolding tries readiness
  tries_wrong zero c = refl
  tries_wrong (suc k) c = rw (admitted, well, wrong)

  pub run_wrong : (k : ℕ) → run x k s b ≡ outcome (refused 15) s no_counts b
  unfolding run readiness
  run_wrong zero = rw (admitted, well, wrong)
  run_wrong (suc k) = rw (step_replay x s b admitted well wrong)

module _ (x : Setup) (k : ℕ) (s : State) (b : Buffers) (admitted : admits (lent x b) ≡ true) (well : well_formed x s ≡ true)
    (replayed : replay_ok x.list x.table ≡ true) where
  -- With no budget left.
  pub run_none : (c : Counts) → tries x 0 s b c ≡ []
  unfolding tries
  run_none c = refl

  pub run_last_ended : has_ended s (length x.code) ≡ true → run x 0 s b ≡ outcome ended s no_counts b
  unfolding run readiness
  run_last_ended e = rw (admitted, well, replayed, e)

  pub run_spent : has_ended s (length x.code) ≡ false → run x 0 s b ≡ outcome spent s no_counts b
  unfolding run readiness
  run_spent e = rw (admitted, well, replayed, e)

  -- An ended state.
  pub tries_ended : (c : Counts) → has_ended s (length x.code) ≡ true → tries x (suc k) s b c ≡ []
  unfolding tries readiness
  tries_ended c e = rw (admitted, well, replayed, e)

  pub run_ended : has_ended s (length x.code) ≡ true → run x (suc k) s b ≡ outcome ended s no_counts b
  unfolding run
  run_ended e = rw (step_ended x s b admitted well replayed e)

  module _ (e : has_ended s (length x.code) ≡ false) where
    going : Going x s b
    going = record { admitted = admitted; well_formed = well; replay = replayed; not_ended = e }

    abbrev o : Outcome
    o = attempt (lent x b) x s b

    -- Any other state: a bundle is tried, and followed by the others if it is done.
    pub tries_going : (c : Counts)
        → tries x (suc k) s b c ≡ tried_at (taken x s).fetch c o ∷ cond (is_done o.answer) (tries x k o.state o.buffers (plus c o.counts)) []
    unfolding tries readiness
    tries_going c =
        rw (step_attempt x s b going, admitted, well, replayed, e)
        (ap (λ (l : List Tried). tried_at (taken x s).fetch c o ∷ l) (if_done_lem o.answer (tries x k o.state o.buffers (plus c o.counts)) []))

    pub run_going : run x (suc k) s b ≡ cond (is_done o.answer) (counted o.counts (run x k o.state o.buffers)) o
    unfolding run
    run_going = rw (step_attempt x s b going) (if_done_lem o.answer (counted o.counts (run x k o.state o.buffers)) o)
