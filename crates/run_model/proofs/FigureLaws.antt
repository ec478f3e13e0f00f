-- Misses and words fetched are defined over the sequence of the bases looked up: a run's two figures, and the blocks held at its end, are
-- those of the bases that it looked up.
use Rattle.std.specs.Prelude.{ℕ, zero, suc, ◌+◌, false, List, [], ◌++◌, ◌≡◌}
use Rattle.std.proofs.lemmas.Bool.{false≢true}
use Rattle.std.proofs.Math.Path.{refl}
use Rattle.std.proofs.Common.{sym, ap, ◌∙◌}
use Rattle.answers.specs.Answer.{Returned, accepted, done, ended, spent, refused}
use Rattle.method_cache.specs.MethodCache.{held_after, misses, words_fetched}
use Rattle.method_cache.proofs.CacheLaws.{held_append, misses_append, fetched_append}
use Rattle.settings.specs.Setup.{Setup, Buffers, lent}
use Rattle.core_state.specs.State.{State}
use Rattle.bundle_model.specs.declared.Readiness.{Readiness}
use Rattle.bundle_model.specs.declared.Readiness.TheVariants.{Ready, Ended, Refused}
use Rattle.bundle_model.specs.Lookup.{lookups, held_by, misses_by, fetched_by}
use Rattle.bundle_model.specs.Interrupt.{entry_lookups, entry_counts, taken}
use Rattle.bundle_model.specs.InterruptLaws.{taken_held}
use Rattle.bundle_model.specs.Counts.{no_counts}
use Rattle.bundle_model.specs.Bundle.{Outcome, outcome, counted, readiness, ready_or, step}
use Rattle.step_laws.specs.StepCases.{effect_at, attempt_done, is_done}
use Rattle.step_laws.proofs.StepCases.{step_cases}
use Rattle.run_model.specs.Run.{run, bundle_lookups, bases_looked}
use Rattle.bundle_model.specs.Bundle.{if_done}

-- The figures of an outcome, and the blocks held then, are those of a sequence of bases looked up from these blocks on.
pub record Figures (x : Setup) (held bases : List ℕ) (o : Outcome) : Type 0 where
  pub misses : o.counts.misses ≡ misses x.method x.code held bases
  pub fetched : o.counts.fetched ≡ words_fetched x.method x.code held bases
  pub held_last : o.state.further.held ≡ held_after x.method x.code held bases

-- What a bundle as it is tried looks up: the record's, and then, from what that leaves, slot one's.
record BundleFigures (x : Setup) (s : State) : Type 0 where
  misses : (entry_counts x s).misses + misses_by x (taken x s) (effect_at x (taken x s)) ≡ misses x.method x.code s.further.held (bundle_lookups x s)
  fetched : (entry_counts x s).fetched + fetched_by x (taken x s) (effect_at x (taken x s)) ≡ words_fetched x.method x.code s.further.held (bundle_lookups x s)
  held_last : held_by x (taken x s) (effect_at x (taken x s)) ≡ held_after x.method x.code s.further.held (bundle_lookups x s)

bundle_figures : (x : Setup) (s : State) → BundleFigures x s
bundle_figures x s =
    let h = s.further.held in
    let entry = entry_lookups x s in
    let slot = lookups x (effect_at x (taken x s)) in
    let c = x.method in
    record {
      misses = ap (λ (l : List ℕ). misses c x.code h entry + misses c x.code l slot) (taken_held x s) ∙ sym (misses_append c x.code h entry slot);
      fetched = ap (λ (l : List ℕ). words_fetched c x.code h entry + words_fetched c x.code l slot) (taken_held x s) ∙ sym (fetched_append c x.code h entry slot);
      held_last = ap (λ (l : List ℕ). held_after c x.code l slot) (taken_held x s) ∙ sym (held_append c x.code h entry slot);
    }

-- What is looked up from a state on, and what comes of it, by what the step from there gives.
module _ (x : Setup) (k : ℕ) (s : State) where
  abbrev bases : Outcome → List ℕ
  bases o = if_done o.answer (bundle_lookups x s ++ bases_looked x k o.state o.buffers) []

  abbrev whole : Outcome → Outcome
  whole o = if_done o.answer (counted o.counts (run x k o.state o.buffers)) o

  figures_none : (b : Buffers) (a : Returned) → is_done a ≡ false → Figures x s.further.held (bases (outcome a s no_counts b)) (whole (outcome a s no_counts b))
  unfolding held_after misses words_fetched
  figures_none b done e = absurd (false≢true (sym e))
  figures_none b accepted e = record { misses = refl; fetched = refl; held_last = refl }
  figures_none b ended e = record { misses = refl; fetched = refl; held_last = refl }
  figures_none b spent e = record { misses = refl; fetched = refl; held_last = refl }
  figures_none b (refused n) e = record { misses = refl; fetched = refl; held_last = refl }

  figures_done : (b : Buffers)
      → ((t : State) (d : Buffers) → Figures x t.further.held (bases_looked x k t d) (run x k t d))
      → Figures x s.further.held (bases (attempt_done (lent x b) x s b)) (whole (attempt_done (lent x b) x s b))
  figures_done b rest =
      let o = attempt_done (lent x b) x s b in
      let h = s.further.held in
      let entry = entry_lookups x s in
      let slot = lookups x (effect_at x (taken x s)) in
      let own = bundle_figures x s in
      let next = bases_looked x k o.state o.buffers in
      let r = rest o.state o.buffers in
      record {
        misses = (λ i. own.misses i + r.misses i) ∙ ap (λ (l : List ℕ). misses x.method x.code h (entry ++ slot) + misses x.method x.code l next) own.held_last ∙ sym (misses_append x.method x.code h (entry ++ slot) next);
        fetched = (λ i. own.fetched i + r.fetched i) ∙ ap (λ (l : List ℕ). words_fetched x.method x.code h (entry ++ slot) + words_fetched x.method x.code l next) own.held_last ∙ sym (fetched_append x.method x.code h (entry ++ slot) next);
        held_last = r.held_last ∙ ap (λ (l : List ℕ). held_after x.method x.code l next) own.held_last ∙ sym (held_append x.method x.code h (entry ++ slot) next);
      }

-- For every state, well formed or not, and every budget.
pub run_figures : (x : Setup) (k : ℕ) (s : State) (b : Buffers) → Figures x s.further.held (bases_looked x k s b) (run x k s b)
unfolding run bases_looked held_after misses words_fetched
run_figures x zero s b = go (readiness (lent x b) x s)
  where
    go : (r : Readiness) → Figures x s.further.held [] (ready_or r s b (outcome spent s no_counts b))
    go Ready = record { misses = refl; fetched = refl; held_last = refl }
    go Ended = record { misses = refl; fetched = refl; held_last = refl }
    go (Refused n) = record { misses = refl; fetched = refl; held_last = refl }
run_figures x (suc k) s b =
    step_cases x s b (λ o. Figures x s.further.held (bases x k s o) (whole x k s o)) (figures_none x k s b) (λ p j. figures_done x k s b (run_figures x k))
