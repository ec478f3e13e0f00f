-- Even pace of what the functions `check` and `run` return, from their contracts; and states of which even pace speaks.
use Rattle.std.specs.Prelude.{ℕ, true, ◌≡◌, List, length}
use Rattle.std.proofs.Math.Option.{some}
use Rattle.std.proofs.Common.{sym, ap, subst, ◌∙◌}
use Rattle.std.proofs.Math.ListN.{get_elem?}
use Rattle.answers.specs.Answer.{accepted}
use Rattle.settings.specs.Setup.{Setup, replaying, Buffers}
use Rattle.core_state.specs.State.{Shaped}
use Rattle.bundle_model.specs.Counts.{no_counts}
use Rattle.bundle_model.specs.Bundle.{Outcome, well_formed}
use Rattle.run_model.specs.Run.{run, Tried, tries}
use Rattle.run_model.specs.RunLaws.{run_shaped, run_well_formed}
use Rattle.state.specs.declared.State as struct
use Rattle.state.specs.Whole.{state_of}
use Rattle.state.specs.Open.{opening}
use Rattle.state.specs.OpenLaws.{opened_shaped, opened_well_formed}
use Rattle.run.specs.declared.Ran.{Ran}
use Rattle.run.specs.Ran.{whole}
use Rattle.marking.specs.declared.Marking.{Marking}
use Rattle.single_path.specs.declared.Checked.{Checked}
use Rattle.single_path.specs.declared.Checked.TheVariants.{Accepted}
use Rattle.single_path.specs.Check.{returned, checked}
use Rattle.even_pace.specs.Terms.{Agree, Stops}
use Rattle.even_pace.proofs.BundleLaws.{SameOutcome}
use Rattle.even_pace.proofs.Theorem.{even_runs}

-- What the contract of `run` says of what it returns: the outcome of the run, and the shape of the state handed in.
pub record Ran-as (x : Setup) (budget : ℕ) (start : struct.State) (b : Buffers) (r : Ran) (after : Buffers) : Type 0 where
  pub outcome : whole r after ≡ run x budget (state_of start) b
  pub shaped : Shaped (state_of start)

-- The check has accepted the code, and two runs of it, from well-formed states that agree on everything public, met no stopping event: then
-- they returned the same answer and the same counts, and left what agrees. The check is asked without list and table, of which it says nothing.
pub even_returns : (z : Setup) (list table : List ℕ) (budget : ℕ) (m : Marking) (q₁ q₂ : struct.State) (b₁ b₂ : Buffers) (v : Checked) (r₁ r₂ : Ran) (after₁ after₂ : Buffers)
    → returned v ≡ checked z (length b₁.main) (length b₁.local) (length b₁.cache) m → v ≡ Accepted
    → let x = replaying list table z in
    Ran-as x budget q₁ b₁ r₁ after₁ → Ran-as x budget q₂ b₂ r₂ after₂
    → well_formed x (state_of q₁) ≡ true → well_formed x (state_of q₂) ≡ true → Agree m x (state_of q₁) b₁ (state_of q₂) b₂
    → ((j : ℕ) (t : Tried) → get_elem? (tries x budget (state_of q₁) b₁ no_counts) j ≡ some t → ¬ Stops m x.code t)
    → ((j : ℕ) (t : Tried) → get_elem? (tries x budget (state_of q₂) b₂ no_counts) j ≡ some t → ¬ Stops m x.code t)
    → SameOutcome m x (whole r₁ after₁) (whole r₂ after₂)
unfolding checked
even_returns z list table budget m q₁ q₂ b₁ b₂ v r₁ r₂ after₁ after₂ c e p₁ p₂ w₁ w₂ a n₁ n₂ =
    let x = replaying list table z in
    subst (λ (o : Outcome). SameOutcome m x o (whole r₂ after₂)) (sym p₁.outcome)
    (subst (λ (o : Outcome). SameOutcome m x (run x budget (state_of q₁) b₁) o) (sym p₂.outcome)
    (even_runs x budget m (state_of q₁) (state_of q₂) b₁ b₂ (sym c ∙ ap returned e) p₁.shaped p₂.shaped w₁ w₂ a n₁ n₂))

-- What any run leaves of a state that was opened has the shape and is well formed.
module _ (x : Setup) (b : Buffers) (entry k : ℕ) (c : Buffers) where
  pub ran_shaped : Shaped (run x k (opening x b entry).state c).state
  ran_shaped = run_shaped x k (opening x b entry).state c (opened_shaped x b entry)

  pub ran_well_formed : (opening x b entry).answer ≡ accepted → well_formed x (run x k (opening x b entry).state c).state ≡ true
  ran_well_formed e = run_well_formed x k (opening x b entry).state c (opened_well_formed x b entry e)
