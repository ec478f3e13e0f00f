-- What a run gives, as the outcome of a run.
use Rattle.std.specs.Prelude.{Bool, cond, ◌≡◌, refl, length}
use Rattle.std.proofs.Common.{ap, ◌∙◌}
use Rattle.answers.specs.declared.Refusal.{Refusal}
use Rattle.answers.specs.Refusal.{number}
use Rattle.answers.specs.Answer.{Returned, ended, spent, refused}
use Rattle.settings.specs.Setup.{Setup, Buffers}
use Rattle.core_state.specs.State.{State, ended as has_ended}
use Rattle.state.specs.Whole.{state_of}
use Rattle.bundle_model.specs.declared.Answer.{Answer}
use Rattle.bundle_model.specs.declared.Answer.TheVariants.{Done, Ended, Refused}
use Rattle.bundle_model.specs.Bundle.{Outcome, outcome, returned as answered}
use Rattle.bundle_model.specs.declared.Counts.{Counts}
use Rattle.run_model.specs.Loop.{ending}
use Rattle.run.specs.declared.RunAnswer.{RunAnswer}
use Rattle.run.specs.declared.RunAnswer.TheVariants as answer
use Rattle.run.specs.declared.Ran.{Ran}

-- What each answer of the function returns.
abbrev pub returned : RunAnswer → Returned
returned answer.Ended = ended
returned answer.Spent = spent
returned (answer.Refused r) = refused (number r)

-- The outcome of what a run gives back, with the buffers that it leaves.
abbrev pub whole : Ran → Buffers → Outcome
whole r b = outcome (returned r.answer) (state_of r.state) r.counts b

-- How a run ends whose bundles were answered so, by whether its state has ended.
abbrev pub ends_with : Answer Refusal → Bool → Returned
ends_with Done t = cond t ended spent
ends_with Ended t = ended
ends_with (Refused r) t = refused (number r)

-- So the end of what was advanced is the run's.
pub ends_as : (x : Setup) (a : Answer Refusal) (t : Bool) (q : RunAnswer) (s s' : State) (c : Counts) (b : Buffers) → returned q ≡ ends_with a t
    → t ≡ has_ended s (length x.code) → s' ≡ s → outcome (returned q) s' c b ≡ ending x (outcome (answered a) s c b)
ends_as x a t q s s' c b e f h = (λ i. outcome (e i) (h i) c b) ∙ ap (λ (u : Bool). outcome (ends_with a u) s c b) f ∙ go a
  where
    go : (a : Answer Refusal) → outcome (ends_with a (has_ended s (length x.code))) s c b ≡ ending x (outcome (answered a) s c b)
    go Done = refl
    go Ended = refl
    go (Refused n) = refl
