-- What carrying slot one out leaves of the blocks held and of the counts, for effects that look nothing up.
use Rattle.std.specs.Prelude.{ℕ, List, [], ◌≡◌, Result, Ok, Err}
use Rattle.std.proofs.Math.Path.{refl, sym}
use Rattle.std.proofs.Common.{ap, ◌∙◌}
use Rattle.answers.specs.declared.Refusal.{Refusal}
use Rattle.method_cache.specs.MethodCache.{held_after, misses, words_fetched}
use Rattle.method_cache.specs.Words.{held_in}
use Rattle.settings.specs.declared.Settings.{Settings}
use Rattle.settings.specs.Setup.{Setup}
use Rattle.effects.specs.declared.Effect.{Effect}
use Rattle.core_state.specs.State.{State, with_held}
use Rattle.bundle_model.specs.declared.Carried.{Carried}
use Rattle.bundle_model.specs.Lookup.{lookups, held_by}
use Rattle.bundle_model.specs.Counts.{no_counts, plus, plus_none, counts_in}
use Rattle.bundle_model.specs.Bundle.{spilled_by, filled_by}
use Rattle.bundle_model.specs.Execute.{extra_cycles, extra_of, counted_by, held_left, Tallied, carrying}

-- Where slot one is refused, all is left.
pub tallied_refused : (n : Refusal) (g : Settings) (x : Setup) (t : State) (w c : List ℕ) (e : Effect) → Tallied (Err n) g x (with_held t (held_in w)) e w w c c
tallied_refused n g x t w c e = record { held = refl; counts = sym (plus_none (counts_in c)); fixed = λ f. f }

module _ (g : Settings) (x : Setup) (t : State) (w : List ℕ) (e : Effect) (none : lookups x e ≡ []) where
  abbrev s : State
  s = with_held t (held_in w)

  held_same : (r : Result Carried Refusal) → held_in w ≡ held_left r (held_in w) (held_by x s e)
  unfolding held_after
  held_same (Err n) = refl
  held_same (Ok d) = sym (ap (held_after x.method x.code (held_in w)) none)

  -- Whatever it counts.
  pub tallied_as : (r : Result Carried Refusal) (c d : List ℕ) → counts_in d ≡ plus (counts_in c) (counted_by r (extra_of g x s e)) → Tallied r g x (with_held t (held_in w)) e w w c d
  tallied_as r c d p = record { held = held_same r; counts = p; fixed = λ f. f }

  no_extra : extra_cycles e ≡ 0 → spilled_by g s e ≡ 0 → filled_by s e ≡ 0 → extra_of g x s e ≡ no_counts
  unfolding misses words_fetched
  no_extra p q r =
      λ i. record {
        bundles = 0;
        cycles = p i;
        spilled = q i;
        filled = r i;
        misses = misses x.method x.code (held_in w) (none i);
        fetched = words_fetched x.method x.code (held_in w) (none i);
      }

  -- Where it counts nothing.
  pub tallied_none : (r : Result Carried Refusal) (c : List ℕ) → extra_cycles e ≡ 0 → spilled_by g (with_held t (held_in w)) e ≡ 0 → filled_by (with_held t (held_in w)) e ≡ 0
      → Tallied r g x (with_held t (held_in w)) e w w c c
  tallied_none r c p q z = tallied_as r c c (go r)
    where
      go : (y : Result Carried Refusal) → counts_in c ≡ plus (counts_in c) (counted_by y (extra_of g x s e))
      go (Err n) = sym (plus_none (counts_in c))
      go (Ok d) = sym (ap (plus (counts_in c)) (no_extra p q z) ∙ plus_none (counts_in c))
