-- The two whole lists, by recursion on the budget.
use Rattle.std.specs.Prelude.{ℕ, zero, suc, ◌≤◌, Bool, true, false, cond, ◌&&◌, List, [], ◌∷◌, ◌⊎◌, ◌≡◌, refl, length}
use Rattle.std.proofs.lemmas.Bool.{false≢true}
use Rattle.std.proofs.Common.{inl, inr, sym, ap, subst, ◌∙◌}
use Rattle.std.proofs.Math.Dec.{eqb}
use Rattle.settings.specs.declared.Settings.{Settings}
use Rattle.answers.specs.Answer.{Returned, accepted, done, ended, spent, refused}
use Rattle.settings.specs.Settings.{admits}
use Rattle.replay.specs.Replay.{replay_ok}
use Rattle.settings.specs.SettingsLaws.{area_ordered, area_inside, capacity_ok_lem}
use Rattle.core_state.specs.State.{State, Shaped, none_waits, ended as has_ended}
use Rattle.bundle_model.specs.declared.Counts.{Counts}
use Rattle.bundle_model.specs.Interrupt.{taken}
use Rattle.bundle_model.specs.Bundle.{Outcome, outcome, counted, well_formed, attempt}
use Rattle.step_laws.specs.StepCases.{is_done}
use Rattle.step_laws.proofs.KeptLaws.{attempt_shaped}
use Rattle.step_laws.proofs.WellFormedLaws.{well_parts, well_formed_parts}
use Rattle.step_laws.proofs.StackKept.{attempt_lengths}
use Rattle.run_model.specs.Run.{run, Tried, tried_at, tries}
use Rattle.marking.specs.declared.Marking.{Marking}
use Rattle.single_path.specs.Check.{Walked}
use Rattle.single_path.specs.WalkLaws.{walked_decided}
use Rattle.single_path.specs.CheckLaws.{Fine}
use Rattle.even_pace.specs.Terms.{Agree, of_access, has_private_access, SameTried, Stops, not_walked, refused_access}
use Rattle.even_pace.proofs.BundleLaws.{SameOutcome, Grounded}
use Rattle.even_pace.proofs.StopLaws.{answer_number, is_refused}
use Rattle.even_pace.proofs.AttemptLaws.{taken_both, attempt_alike}
use Rattle.step_laws.proofs.WellLaws.{attempt_well_formed}
use Rattle.even_pace.proofs.ListLaws.{even_none, stops_here, Result, before}
use Rattle.even_pace.specs.TriesLaws.{tries_wrong, run_wrong, run_none, run_last_ended, run_spent, tries_ended, run_ended, tries_going, run_going}
use Rattle.settings.specs.Setup.{Buffers, lent, settings, Setup}
use Rattle.bundle_model.specs.Counts.{no_counts, plus}
use Rattle.fetch.specs.Fetch.{bundle_at}

-- At a walked address being a stopping event is decided.
access_stops : (m : Marking) (code : List ℕ) (t : Tried) → Walked code t.fetch → Dec (Stops m code t)
access_stops m code t w = go t.answer refl
  where
    -- No constructor but that of a refused access is left, and what it asks for is not so.
    none : ((n : ℕ) → t.answer ≡ refused n → of_access n ≡ true → has_private_access m (bundle_at code t.fetch) ≡ true → ⊥) → ¬ Stops m code t
    none h (not_walked n) = n w
    none h (refused_access n p q r) = h n p q r

    at : (n : ℕ) (y z : Bool) → t.answer ≡ refused n → of_access n ≡ y → has_private_access m (bundle_at code t.fetch) ≡ z → Dec (Stops m code t)
    at n true true e f h = yes (refused_access n e f h)
    at n true false e f h = no (none (λ k p q r. false≢true (sym h ∙ r)))
    at n false z e f h = no (none (λ k p q r. false≢true (sym f ∙ ap of_access (ap answer_number (sym e ∙ p)) ∙ q)))

    go : (a : Returned) → t.answer ≡ a → Dec (Stops m code t)
    go accepted e = no (none (λ n p q r. false≢true (ap is_refused (sym e ∙ p))))
    go done e = no (none (λ n p q r. false≢true (ap is_refused (sym e ∙ p))))
    go ended e = no (none (λ n p q r. false≢true (ap is_refused (sym e ∙ p))))
    go spent e = no (none (λ n p q r. false≢true (ap is_refused (sym e ∙ p))))
    go (refused n) e = at n (of_access n) (has_private_access m (bundle_at code t.fetch)) e refl refl

module _ (m : Marking) (x : Setup) (main local words : ℕ)
    (admitted : admits (settings x main local words) ≡ true) (fine : (a : ℕ) → Walked x.code a → Fine m x.code a) where
  abbrev g : Settings
  g = settings x main local words

  -- Two runs that are to be compared.
  pub record Pair (s₁ : State) (b₁ : Buffers) (s₂ : State) (b₂ : Buffers) : Type 0 where
    pub main_length : length b₁.main ≡ main
    pub local_length : length b₁.local ≡ local
    pub cache_length : length b₁.cache ≡ words
    pub shaped₁ : Shaped s₁
    pub shaped₂ : Shaped s₂
    pub well₁ : well_formed x s₁ ≡ true
    pub well₂ : well_formed x s₂ ≡ true
    pub agree : Agree m x s₁ b₁ s₂ b₂

  module _ {s₁ : State} {b₁ : Buffers} {s₂ : State} {b₂ : Buffers} (p : Pair s₁ b₁ s₂ b₂) where
    lent₁ : lent x b₁ ≡ g
    lent₁ = λ i. settings x (p.main_length i) (p.local_length i) (p.cache_length i)

    lent₂ : lent x b₂ ≡ g
    lent₂ =
        let l = sym p.agree.buffers.main.lengths ∙ p.main_length in
        let n = sym p.agree.buffers.local.lengths ∙ p.local_length in
        let c = sym p.agree.buffers.cache.lengths ∙ p.cache_length in
        λ i. settings x (l i) (n i) (c i)

    admitted₁ : admits (lent x b₁) ≡ true
    admitted₁ = ap admits lent₁ ∙ admitted

    admitted₂ : admits (lent x b₂) ≡ true
    admitted₂ = ap admits lent₂ ∙ admitted

    -- Both have ended, or neither.
    ended_both : has_ended s₁ (length x.code) ≡ has_ended s₂ (length x.code)
    unfolding has_ended
    ended_both = λ i. eqb (p.agree.state.fetch i) (length x.code) && none_waits (p.agree.state.transfer i)

    grounded : (s : State) → Shaped s → well_formed x s ≡ true → Grounded s
    grounded s h w = record { eight = h.predicates; first = (well_formed_parts s (well_parts x s w)).true_predicate }

    same_as_found : (a : Returned) → SameOutcome m x (outcome a s₁ no_counts b₁) (outcome a s₂ no_counts b₂)
    same_as_found a = record { answer = refl; counts = refl; contents = p.agree }

    ordered : x.lo ≤ x.hi
    ordered = area_ordered g admitted

    -- What a bundle leaves is compared again.
    onward : SameOutcome m x (attempt g x s₁ b₁) (attempt g x s₂ b₂)
        → Pair (attempt g x s₁ b₁).state (attempt g x s₁ b₁).buffers (attempt g x s₂ b₂).state (attempt g x s₂ b₂).buffers
    onward o =
        let k = attempt_lengths g x s₁ b₁ ordered in
        record {
          main_length = k.main ∙ p.main_length;
          local_length = k.local ∙ p.local_length;
          cache_length = k.cache ∙ p.cache_length;
          shaped₁ = attempt_shaped g x s₁ b₁ p.shaped₁;
          shaped₂ = attempt_shaped g x s₂ b₂ p.shaped₂;
          well₁ = attempt_well_formed g x s₁ b₁ (capacity_ok_lem g admitted) p.well₁;
          well₂ = attempt_well_formed g x s₂ b₂ (capacity_ok_lem g admitted) p.well₂;
          agree = o.contents;
        }

    -- A bundle that is tried in both, with what follows it where the runs are alike in it.
    tried : (c : Counts) (T₁ T₂ : List Tried) (r₁ r₂ : Outcome)
        → (SameOutcome m x (attempt g x s₁ b₁) (attempt g x s₂ b₂) → Result m x T₁ T₂ r₁ r₂)
        → Result m x (tried_at (taken x s₁).fetch c (attempt g x s₁ b₁) ∷ cond (is_done (attempt g x s₁ b₁).answer) T₁ [])
        (tried_at (taken x s₂).fetch c (attempt g x s₂ b₂) ∷ cond (is_done (attempt g x s₂ b₂).answer) T₂ [])
        (cond (is_done (attempt g x s₁ b₁).answer) (counted (attempt g x s₁ b₁).counts r₁) (attempt g x s₁ b₁))
        (cond (is_done (attempt g x s₂ b₂).answer) (counted (attempt g x s₂ b₂).counts r₂) (attempt g x s₂ b₂))
    tried c T₁ T₂ r₁ r₂ rest = go (walked_decided x.code (taken x s₁).fetch)
      where
        o₁ : Outcome
        o₁ = attempt g x s₁ b₁

        o₂ : Outcome
        o₂ = attempt g x s₂ b₂

        t₁ : Tried
        t₁ = tried_at (taken x s₁).fetch c o₁

        t₂ : Tried
        t₂ = tried_at (taken x s₂).fetch c o₂

        fetch : (taken x s₁).fetch ≡ (taken x s₂).fetch
        fetch = (taken_both x p.agree.state).fetch

        out : Bool → Bool → Type 0
        out d e = Result m x (t₁ ∷ cond d T₁ []) (t₂ ∷ cond e T₂ []) (cond d (counted o₁.counts r₁) o₁) (cond e (counted o₂.counts r₂) o₂)

        here : Stops m x.code t₁ ⊎ Stops m x.code t₂ → out (is_done o₁.answer) (is_done o₂.answer)
        here s = inl (0, stops_here t₁ t₂ (cond (is_done o₁.answer) T₁ []) (cond (is_done o₂.answer) T₂ []) fetch s)

        alike : SameOutcome m x o₁ o₂ → ¬ Stops m x.code t₁ → ¬ Stops m x.code t₂ → out (is_done o₁.answer) (is_done o₂.answer)
        alike s n₁ n₂ =
            subst (out (is_done o₁.answer)) (ap is_done s.answer)
            (before m x (is_done o₁.answer)
            (record { goes₁ = n₁; goes₂ = n₂; same = record { fetch = fetch; counts = λ i. plus c (s.counts i); contents = s.contents } }) s (rest s))

        walks : Walked x.code (taken x s₁).fetch → Dec (Stops m x.code t₁) → Dec (Stops m x.code t₂) → out (is_done o₁.answer) (is_done o₂.answer)
        walks w (yes q) d = here (inl q)
        walks w (no n₁) (yes q) = here (inr q)
        walks w (no n₁) (no n₂) =
            let inside : x.hi ≤ length b₁.main = subst (λ (n : ℕ). x.hi ≤ n) (sym p.main_length) (area_inside g admitted) in
            alike (attempt_alike g x ordered p.agree inside (grounded s₁ p.shaped₁ p.well₁) (grounded s₂ p.shaped₂ p.well₂) (fine (taken x s₁).fetch w)
            (λ n e o h. n₁ (refused_access n e o h)) (λ n e o h. n₂ (refused_access n e o h))) n₁ n₂

        go : Dec (Walked x.code (taken x s₁).fetch) → out (is_done o₁.answer) (is_done o₂.answer)
        go (no n) = here (inl (not_walked n))
        go (yes w) = walks w (access_stops m x.code t₁ w) (access_stops m x.code t₂ (subst (Walked x.code) fetch w))

  -- With a list and a table that 15 lets pass.
  replayed_pace : replay_ok x.list x.table ≡ true → (k : ℕ) (s₁ : State) (b₁ : Buffers) (s₂ : State) (b₂ : Buffers) (c : Counts) → Pair s₁ b₁ s₂ b₂
      → Result m x (tries x k s₁ b₁ c) (tries x k s₂ b₂ c) (run x k s₁ b₁) (run x k s₂ b₂)
  replayed_pace replayed zero s₁ b₁ s₂ b₂ c p = go (has_ended s₁ (length x.code)) refl
    where
      go : (t : Bool) → has_ended s₁ (length x.code) ≡ t
          → Result m x (tries x zero s₁ b₁ c) (tries x zero s₂ b₂ c) (run x zero s₁ b₁) (run x zero s₂ b₂)
      go true e =
          rw (
            run_none x 0 s₁ b₁ (admitted₁ p) p.well₁ replayed c,
            run_none x 0 s₂ b₂ (admitted₂ p) p.well₂ replayed c,
            run_last_ended x 0 s₁ b₁ (admitted₁ p) p.well₁ replayed e,
            run_last_ended x 0 s₂ b₂ (admitted₂ p) p.well₂ replayed (sym (ended_both p) ∙ e),
          )
          (inr (record { each = even_none (Stops m x.code) (SameTried m x); lengths = refl; same = same_as_found p ended }))
      go false e =
          rw (
            run_none x 0 s₁ b₁ (admitted₁ p) p.well₁ replayed c,
            run_none x 0 s₂ b₂ (admitted₂ p) p.well₂ replayed c,
            run_spent x 0 s₁ b₁ (admitted₁ p) p.well₁ replayed e,
            run_spent x 0 s₂ b₂ (admitted₂ p) p.well₂ replayed (sym (ended_both p) ∙ e),
          )
          (inr (record { each = even_none (Stops m x.code) (SameTried m x); lengths = refl; same = same_as_found p spent }))
  replayed_pace replayed (suc k) s₁ b₁ s₂ b₂ c p =
      go (has_ended s₁ (length x.code)) refl (λ s. replayed_pace replayed k (o₁ g).state (o₁ g).buffers (o₂ g).state (o₂ g).buffers (plus c (o₁ g).counts) (onward p s))
    where
      o₁ : Settings → Outcome
      o₁ z = attempt z x s₁ b₁

      o₂ : Settings → Outcome
      o₂ z = attempt z x s₂ b₂

      rest : State → Buffers → Counts → List Tried
      rest s b n = tries x k s b (plus c n)

      Out : Settings → Settings → Type 0
      Out z y = Result m x (tried_at (taken x s₁).fetch c (o₁ z) ∷ cond (is_done (o₁ z).answer) (rest (o₁ z).state (o₁ z).buffers (o₁ z).counts) [])
          (tried_at (taken x s₂).fetch c (o₂ y) ∷ cond (is_done (o₂ y).answer) (rest (o₂ y).state (o₂ y).buffers (o₂ y).counts) [])
          (cond (is_done (o₁ z).answer) (counted (o₁ z).counts (run x k (o₁ z).state (o₁ z).buffers)) (o₁ z))
          (cond (is_done (o₂ y).answer) (counted (o₂ y).counts (run x k (o₂ y).state (o₂ y).buffers)) (o₂ y))

      go : (t : Bool) → has_ended s₁ (length x.code) ≡ t
          → (SameOutcome m x (o₁ g) (o₂ g) → Result m x (rest (o₁ g).state (o₁ g).buffers (o₁ g).counts) (rest (o₂ g).state (o₂ g).buffers (o₁ g).counts)
          (run x k (o₁ g).state (o₁ g).buffers) (run x k (o₂ g).state (o₂ g).buffers))
          → Result m x (tries x (suc k) s₁ b₁ c) (tries x (suc k) s₂ b₂ c) (run x (suc k) s₁ b₁) (run x (suc k) s₂ b₂)
      go true e ih =
          let f = sym (ended_both p) ∙ e in
          rw (
            tries_ended x k s₁ b₁ (admitted₁ p) p.well₁ replayed c e,
            tries_ended x k s₂ b₂ (admitted₂ p) p.well₂ replayed c f,
            run_ended x k s₁ b₁ (admitted₁ p) p.well₁ replayed e,
            run_ended x k s₂ b₂ (admitted₂ p) p.well₂ replayed f,
          )
          (inr (record { each = even_none (Stops m x.code) (SameTried m x); lengths = refl; same = same_as_found p ended }))
      go false e ih =
          let f = sym (ended_both p) ∙ e in
          let same : Out g g = tried p c (rest (o₁ g).state (o₁ g).buffers (o₁ g).counts) (rest (o₂ g).state (o₂ g).buffers (o₂ g).counts)
          (run x k (o₁ g).state (o₁ g).buffers) (run x k (o₂ g).state (o₂ g).buffers)
          (λ s. subst (λ (n : Counts). Result m x (rest (o₁ g).state (o₁ g).buffers (o₁ g).counts) (rest (o₂ g).state (o₂ g).buffers n)
          (run x k (o₁ g).state (o₁ g).buffers) (run x k (o₂ g).state (o₂ g).buffers)) s.counts (ih s)) in
          let both : Out (lent x b₁) (lent x b₂)
          = subst (λ (z : Settings). Out z (lent x b₂)) (sym (lent₁ p)) (subst (Out g) (sym (lent₂ p)) same) in
          rw (
            tries_going x k s₁ b₁ (admitted₁ p) p.well₁ replayed e c,
            tries_going x k s₂ b₂ (admitted₂ p) p.well₂ replayed f c,
            run_going x k s₁ b₁ (admitted₁ p) p.well₁ replayed e,
            run_going x k s₂ b₂ (admitted₂ p) p.well₂ replayed f,
          )
          both

  -- With others both runs answer 15 and try nothing.
  pub pace : (k : ℕ) (s₁ : State) (b₁ : Buffers) (s₂ : State) (b₂ : Buffers) (c : Counts) → Pair s₁ b₁ s₂ b₂
      → Result m x (tries x k s₁ b₁ c) (tries x k s₂ b₂ c) (run x k s₁ b₁) (run x k s₂ b₂)
  pace k s₁ b₁ s₂ b₂ c p = go (replay_ok x.list x.table) refl
    where
      go : (t : Bool) → replay_ok x.list x.table ≡ t → Result m x (tries x k s₁ b₁ c) (tries x k s₂ b₂ c) (run x k s₁ b₁) (run x k s₂ b₂)
      go true e = replayed_pace e k s₁ b₁ s₂ b₂ c p
      go false e =
          rw (
            tries_wrong x s₁ b₁ (admitted₁ p) p.well₁ e k c,
            tries_wrong x s₂ b₂ (admitted₂ p) p.well₂ e k c,
            run_wrong x s₁ b₁ (admitted₁ p) p.well₁ e k,
            run_wrong x s₂ b₂ (admitted₂ p) p.well₂ e k,
          )
          (inr (record { each = even_none (Stops m x.code) (SameTried m x); lengths = refl; same = same_as_found p (refused 15) }))
