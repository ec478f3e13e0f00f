-- Demand 3 as a statement, for every code, settings, marking and budget, and every two runs.
use Rattle.std.specs.Prelude.{ℕ, true, ◌≡◌}
use Rattle.core_state.specs.State.{State, Shaped}
use Rattle.bundle_model.specs.Bundle.{well_formed}
use Rattle.run_model.specs.Run.{run, tries}
use Rattle.marking.specs.declared.Marking.{Marking}
use Rattle.even_pace.specs.Terms.{Accepted, Agree, EvenPace}
use Rattle.settings.specs.Setup.{Buffers, Setup}
use Rattle.bundle_model.specs.Counts.{no_counts}

-- Take accepted code, and two runs of it whose settings, marking, budget, and list and table of interrupts are the same. If both first states are
-- well formed and all that is public is the same in both, the runs keep even pace. A state's lists of registers and predicates have the lengths
-- that its type gives them. Nothing is asked of list and table: where 15 describes them, both runs answer it and try no bundle.
abbrev pub Demand3 : Type 0
Demand3 = (x : Setup) (budget : ℕ) (m : Marking) (s₁ s₂ : State) (b₁ b₂ : Buffers)
    → Accepted x m b₁
    → Shaped s₁ → Shaped s₂ → well_formed x s₁ ≡ true → well_formed x s₂ ≡ true
    → Agree m x s₁ b₁ s₂ b₂
    → EvenPace m x (tries x budget s₁ b₁ no_counts) (tries x budget s₂ b₂ no_counts)
    (run x budget s₁ b₁).answer (run x budget s₂ b₂).answer
