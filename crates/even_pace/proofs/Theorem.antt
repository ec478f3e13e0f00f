-- Demand 3, proved.
use Rattle.std.specs.Prelude.{ℕ, true, List, ◌⊎◌, ◌≡◌, refl, length}
use Rattle.std.proofs.Common.{inl, inr}
use Rattle.std.proofs.Math.Option.{some}
use Rattle.std.proofs.Math.ListN.{get_elem?}
use Rattle.word.specs.BoolLaws.{and_left}
use Rattle.settings.specs.Settings.{admits}
use Rattle.core_state.specs.State.{State, Shaped}
use Rattle.bundle_model.specs.Bundle.{Outcome, well_formed}
use Rattle.run_model.specs.Run.{run, Tried, tries}
use Rattle.marking.specs.declared.Marking.{Marking}
use Rattle.marking.specs.Marking.{marking_ok}
use Rattle.single_path.specs.CheckLaws.{accepted_passes, accepted_fine}
use Rattle.even_pace.specs.Terms.{Accepted, Agree, Stops, EvenPace}
use Rattle.even_pace.specs.Statement.{Demand3}
use Rattle.even_pace.proofs.BundleLaws.{SameOutcome}
use Rattle.even_pace.proofs.ListLaws.{Result}
use Rattle.even_pace.proofs.Pace.{pace}
use Rattle.settings.specs.Setup.{Buffers, settings, Setup}
use Rattle.bundle_model.specs.Counts.{no_counts}

module _ (x : Setup) (budget : ℕ) (m : Marking) (s₁ s₂ : State) (b₁ b₂ : Buffers) where
  abbrev T₁ : List Tried
  T₁ = tries x budget s₁ b₁ no_counts

  abbrev T₂ : List Tried
  T₂ = tries x budget s₂ b₂ no_counts

  lists : Accepted x m b₁ → Shaped s₁ → Shaped s₂ → well_formed x s₁ ≡ true → well_formed x s₂ ≡ true
      → Agree m x s₁ b₁ s₂ b₂ → Result m x T₁ T₂ (run x budget s₁ b₁) (run x budget s₂ b₂)
  lists e x₁ x₂ w₁ w₂ a =
      let main = length b₁.main in
      let local = length b₁.local in
      let words = length b₁.cache in
      let admitted = and_left (admits (settings x main local words)) (marking_ok m) (accepted_passes x main local words m e) in
      pace m x main local words admitted (accepted_fine x main local words m e) budget s₁ b₁ s₂ b₂ no_counts
      (record { main_length = refl; local_length = refl; cache_length = refl; shaped₁ = x₁; shaped₂ = x₂; well₁ = w₁; well₂ = w₂; agree = a })

  -- Where neither run meets a stopping event, what the runs return agrees: answers, counts, and the public contents of states and
  -- buffers.
  pub even_runs : Accepted x m b₁ → Shaped s₁ → Shaped s₂ → well_formed x s₁ ≡ true → well_formed x s₂ ≡ true
      → Agree m x s₁ b₁ s₂ b₂
      → ((j : ℕ) (t : Tried) → get_elem? T₁ j ≡ some t → ¬ Stops m x.code t) → ((j : ℕ) (t : Tried) → get_elem? T₂ j ≡ some t → ¬ Stops m x.code t)
      → SameOutcome m x (run x budget s₁ b₁) (run x budget s₂ b₂)
  even_runs e x₁ x₂ w₁ w₂ a n₁ n₂ = go (lists e x₁ x₂ w₁ w₂ a)
    where
      go : Result m x T₁ T₂ (run x budget s₁ b₁) (run x budget s₂ b₂)
          → SameOutcome m x (run x budget s₁ b₁) (run x budget s₂ b₂)
      go (inr w) = w.same
      go (inl r) = stop r.1.stops
        where
          stop : Stops m x.code r.1.t₁ ⊎ Stops m x.code r.1.t₂ → SameOutcome m x (run x budget s₁ b₁) (run x budget s₂ b₂)
          stop (inl h) = absurd (n₁ r.0 r.1.t₁ r.1.tried₁ h)
          stop (inr h) = absurd (n₂ r.0 r.1.t₂ r.1.tried₂ h)

-- Every two runs of the same accepted code keep even pace.
pub even_pace : Demand3
even_pace x budget m s₁ s₂ b₁ b₂ e x₁ x₂ w₁ w₂ a = go (lists x budget m s₁ s₂ b₁ b₂ e x₁ x₂ w₁ w₂ a)
  where
    go : {T₁ T₂ : List Tried} {o₁ o₂ : Outcome} → Result m x T₁ T₂ o₁ o₂ → EvenPace m x T₁ T₂ o₁.answer o₂.answer
    go (inl r) = inl r
    go (inr w) = inr (record { each = w.each; lengths = w.lengths; answers = w.same.answer })
