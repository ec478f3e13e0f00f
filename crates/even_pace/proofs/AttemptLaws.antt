-- A bundle as it is tried, in both runs: an interrupt is due in both or in neither, is taken or refused alike, and the bundle is done from
-- states that agree.
use Rattle.std.specs.Prelude.{ℕ, ◌≤◌, Bool, true, false, ◌&&◌, ◌≡◌, refl, eqb, length, Ok, Err}
use Rattle.std.proofs.Math.Bool.{cond}
use Rattle.std.proofs.lemmas.Bool.{false≢true}
use mathlib.Core.List.{[], ◌∷◌}
use Rattle.std.proofs.Common.{sym, ap, ◌∙◌}
use Rattle.std.proofs.Math.Path.{subst}
use Rattle.answers.specs.declared.Refusal.TheVariants as refusal
use Rattle.answers.specs.Answer.{Returned, accepted, done, ended, spent, refused}
use Rattle.answers.specs.Test.{Verdict, test, verdict as verdict_of}
use Rattle.replay.specs.Replay.{replay, handler_of, due_in, one_more}
use Rattle.method_cache.specs.MethodCache.{held_after, misses, words_fetched}
use Rattle.settings.specs.declared.Settings.{Settings}
use Rattle.settings.specs.Setup.{Buffers, Setup}
use Rattle.fetch.specs.Fetch.{bundle_at}
use Rattle.core_state.specs.State.{State, none_waits, entered, one_place_on, with_held, with_done}
use Rattle.bundle_model.specs.declared.Counts.{Counts}
use Rattle.bundle_model.specs.Counts.{no_counts, plus}
use Rattle.bundle_model.specs.Lookup.{looked_up, lookup_tests}
use Rattle.bundle_model.specs.Interrupt.{due, handler_due, entry_lookups, entry_tests, entry_counts, taken}
use Rattle.bundle_model.specs.InterruptLaws.{taken_cases}
use Rattle.bundle_model.specs.Bundle.{Outcome, outcome, refused_or, if_done, finished, bundle, attempt}
use Rattle.marking.specs.declared.Marking.{Marking}
use Rattle.single_path.specs.CheckLaws.{Fine}
use Rattle.even_pace.specs.Terms.{SameState, Agree, of_access, has_private_access}
use Rattle.even_pace.specs.StateLaws.{with_held_lem, with_replay_lem}
use Rattle.even_pace.proofs.FlowLaws.{entered_both}
use Rattle.even_pace.proofs.BundleLaws.{SameOutcome, Grounded, bundle_alike}
use Rattle.even_pace.proofs.StopLaws.{refused_for_access}

-- What is public decides whether an interrupt is due, which, and what is judged, looked up and counted of it.
module _ {m : Marking} (x : Setup) {s₁ s₂ : State} (a : SameState m s₁ s₂) where
  due_same : due x s₁ ≡ due x s₂
  unfolding due
  due_same = λ i. due_in x.list (a.further.replay i) && none_waits (a.transfer i)

  handler_same : handler_due x s₁ ≡ handler_due x s₂
  handler_same = λ i. handler_of x.list x.table (a.further.replay i).place

  lookups_same : entry_lookups x s₁ ≡ entry_lookups x s₂
  unfolding entry_lookups
  lookups_same = λ i. cond (due_same i) (looked_up x (handler_same i) (handler_same i)) []

  entry_same : entry_tests x s₁ ≡ entry_tests x s₂
  unfolding entry_tests
  entry_same = λ i. cond (due_same i) (test refusal.NoHandler (eqb (handler_same i) 0) ∷ lookup_tests x.method x.code (lookups_same i)) []

  counted_same : entry_counts x s₁ ≡ entry_counts x s₂
  counted_same = λ i.
      record {
        bundles = 0;
        cycles = 0;
        spilled = 0;
        filled = 0;
        misses = misses x.method x.code (a.further.held i) (lookups_same i);
        fetched = words_fetched x.method x.code (a.further.held i) (lookups_same i);
      }

  place_both : SameState m (one_place_on s₁) (one_place_on s₂)
  place_both = with_replay_lem a _ _ (λ i. let r = a.further.replay i in replay r.active (one_more r.place) r.done)

  done_both : SameState m (with_done s₁) (with_done s₂)
  done_both = with_replay_lem a _ _ (λ i. let r = a.further.replay i in replay r.active r.place (one_more r.done))

-- So the bundle is done from states that agree.
pub taken_both : {m : Marking} (x : Setup) {s₁ s₂ : State} → SameState m s₁ s₂ → SameState m (taken x s₁) (taken x s₂)
unfolding taken
taken_both {m} x {s₁} {s₂} a = go (due x s₁) (due x s₂) (due_same x a)
  where
    at : Bool → State → State
    at t s = cond t (with_held (one_place_on (entered s (handler_due x s) s.fetch)) (held_after x.method x.code s.further.held (entry_lookups x s))) s

    go : (t u : Bool) → t ≡ u → SameState m (at t s₁) (at u s₂)
    go true true e =
        with_held_lem (place_both x (entered_both a (handler_due x s₁) (handler_due x s₂) s₁.fetch s₂.fetch (handler_same x a) a.fetch)) _ _
        (λ i. held_after x.method x.code (a.further.held i) (lookups_same x a i))
    go true false e = absurd (false≢true (sym e))
    go false true e = absurd (false≢true e)
    go false false e = a

-- Taking leaves the predicates.
taken_grounded : (x : Setup) (s : State) → Grounded s → Grounded (taken x s)
unfolding entered
taken_grounded x s w = taken_cases Grounded x s w (λ e held. record { eight = w.eight; first = w.first })

-- What is made of a bundle done or refused.
finished_answer : (s : State) (b : Buffers) (c : Counts) (o : Outcome) → (finished s b c o).answer ≡ o.answer
finished_answer s b c o = go o.answer
  where
    go : (r : Returned) → (if_done r (outcome done (with_done o.state) (plus c o.counts) o.buffers) (outcome r s no_counts b)).answer ≡ r
    go accepted = refl
    go done = refl
    go ended = refl
    go spent = refl
    go (refused n) = refl

module _ {m : Marking} (x : Setup) {s₁ s₂ : State} {b₁ b₂ : Buffers} (a : Agree m x s₁ b₁ s₂ b₂) where
  finished_alike : (c₁ c₂ : Counts) (o₁ o₂ : Outcome) → c₁ ≡ c₂ → SameOutcome m x o₁ o₂ → SameOutcome m x (finished s₁ b₁ c₁ o₁) (finished s₂ b₂ c₂ o₂)
  finished_alike c₁ c₂ o₁ o₂ e o = subst (out o₁.answer) o.answer (go o₁.answer)
    where
      out : Returned → Returned → Type 0
      out z y = SameOutcome m x (if_done z (outcome done (with_done o₁.state) (plus c₁ o₁.counts) o₁.buffers) (outcome z s₁ no_counts b₁))
          (if_done y (outcome done (with_done o₂.state) (plus c₂ o₂.counts) o₂.buffers) (outcome y s₂ no_counts b₂))

      go : (z : Returned) → out z z
      go accepted = record { answer = refl; counts = refl; contents = a }
      go done =
          record {
            answer = refl;
            counts = λ i. plus (e i) (o.counts i);
            contents = record { state = done_both x o.contents.state; buffers = o.contents.buffers };
          }
      go ended = record { answer = refl; counts = refl; contents = a }
      go spent = record { answer = refl; counts = refl; contents = a }
      go (refused n) = record { answer = refl; counts = refl; contents = a }

-- No load or store under a private guard is refused in it, at the address at which it is tried.
abbrev pub NoAccessRefused : Marking → Settings → Setup → State → Buffers → Type 0
NoAccessRefused m g x s b = (n : ℕ) → (attempt g x s b).answer ≡ refused n → of_access n ≡ true → has_private_access m (bundle_at x.code (taken x s).fetch) ≡ true → ⊥

module _ {m : Marking} (g : Settings) (x : Setup) (ordered : x.lo ≤ x.hi) {s₁ s₂ : State} {b₁ b₂ : Buffers}
    (a : Agree m x s₁ b₁ s₂ b₂) (inside : x.hi ≤ length b₁.main) (w₁ : Grounded s₁) (w₂ : Grounded s₂) where
  -- A bundle that is tried at a walked address of accepted code. An interrupt that is refused is so in both, and leaves all as found.
  pub attempt_alike : Fine m x.code (taken x s₁).fetch → NoAccessRefused m g x s₁ b₁ → NoAccessRefused m g x s₂ b₂
      → SameOutcome m x (attempt g x s₁ b₁) (attempt g x s₂ b₂)
  unfolding attempt
  attempt_alike f n₁ n₂ = subst (out (verdict_of (entry_tests x s₁))) (ap verdict_of (entry_same x a.state)) (go (verdict_of (entry_tests x s₁)) refl)
    where
      made : State → Buffers → Outcome
      made s b = finished s b (entry_counts x s) (bundle g x (taken x s) b)

      out : Verdict → Verdict → Type 0
      out z y = SameOutcome m x (refused_or z s₁ b₁ (made s₁ b₁)) (refused_or y s₂ b₂ (made s₂ b₂))

      same : SameState m (taken x s₁) (taken x s₂)
      same = taken_both x a.state

      -- The bundle's own answer is that of the whole.
      free : (s : State) (b : Buffers) → Fine m x.code (taken x s).fetch → verdict_of (entry_tests x s) ≡ Ok tt
          → ((n : ℕ) → (refused_or (verdict_of (entry_tests x s)) s b (made s b)).answer ≡ refused n → of_access n ≡ true
          → has_private_access m (bundle_at x.code (taken x s).fetch) ≡ true → ⊥)
          → has_private_access m (bundle_at x.code (taken x s).fetch) ≡ true → (n : ℕ) → (bundle g x (taken x s) b).answer ≡ refused n → ⊥
      free s b fine e h access n q =
          h n (ap (λ (v : Verdict). (refused_or v s b (made s b)).answer) e ∙ finished_answer s b (entry_counts x s) (bundle g x (taken x s) b) ∙ q)
          (refused_for_access g x (taken x s) b n fine access q) access

      go : (v : Verdict) → verdict_of (entry_tests x s₁) ≡ v → out v v
      go (Err n) e = record { answer = refl; counts = refl; contents = a }
      go (Ok u) e =
          finished_alike x a _ _ _ _ (counted_same x a.state)
          (bundle_alike g x ordered (record { state = same; buffers = a.buffers }) inside (taken_grounded x s₁ w₁) (taken_grounded x s₂ w₂) f
          (free s₁ b₁ f e n₁) (free s₂ b₂ (subst (Fine m x.code) same.fetch f) (sym (ap verdict_of (entry_same x a.state)) ∙ e) n₂))
