-- A record that is due, and one that is not.
use Rattle.std.specs.Prelude.{ℕ, Bool, true, false, cond, List, [], ◌∷◌, ◌≡◌, refl, eqb}
use Rattle.std.proofs.Common.{sym, ap, ◌∙◌}
use Rattle.answers.specs.declared.Refusal.TheVariants as refusal
use Rattle.answers.specs.Test.{Test, test}
use Rattle.method_cache.specs.MethodCache.{held_after}
use Rattle.settings.specs.Setup.{Setup}
use Rattle.core_state.specs.State.{State, entered, one_place_on, with_held}
use Rattle.bundle_model.specs.Lookup.{looked_up, lookup_tests}
use Rattle.bundle_model.specs.LookupLaws.{looked_cases}
use Rattle.bundle_model.specs.Interrupt.{due, handler_due, entry_lookups, entry_tests, taken}

module _ (x : Setup) (s : State) where
  -- What is judged, looked up and done where one is due.
  pub due_lookups : due x s ≡ true → entry_lookups x s ≡ looked_up x (handler_due x s) (handler_due x s)
  unfolding entry_lookups
  due_lookups e = rw e

  pub due_tests : due x s ≡ true → entry_tests x s ≡ test refusal.NoHandler (eqb (handler_due x s) 0) ∷ lookup_tests x.method x.code (entry_lookups x s)
  unfolding entry_tests
  due_tests e = rw e

  pub due_taken : due x s ≡ true
      → taken x s ≡ with_held (one_place_on (entered s (handler_due x s) s.fetch)) (held_after x.method x.code s.further.held (entry_lookups x s))
  unfolding taken
  due_taken e = rw e

  -- Nothing where none is.
  pub none_lookups : due x s ≡ false → entry_lookups x s ≡ []
  unfolding entry_lookups
  none_lookups e = rw e

  pub none_tests : due x s ≡ false → entry_tests x s ≡ []
  unfolding entry_tests
  none_tests e = rw e

  pub none_taken : due x s ≡ false → taken x s ≡ s
  unfolding taken
  none_taken e = rw e

-- What holds of a state and of that with its record taken holds of the state from which the bundle is done.
pub taken_cases : (P : State → Type 0) (x : Setup) (s : State) → P s
    → (due x s ≡ true → (held : List ℕ) → P (with_held (one_place_on (entered s (handler_due x s) s.fetch)) held)) → P (taken x s)
unfolding taken
taken_cases P x s none one = go (due x s) refl
  where
    go : (t : Bool) → due x s ≡ t
        → P (cond t (with_held (one_place_on (entered s (handler_due x s) s.fetch)) (held_after x.method x.code s.further.held (entry_lookups x s))) s)
    go true e = one e _
    go false e = none

-- The blocks held then are those after the record's lookup.
pub taken_held : (x : Setup) (s : State) → (taken x s).further.held ≡ held_after x.method x.code s.further.held (entry_lookups x s)
unfolding taken entry_lookups held_after
taken_held x s = go (due x s)
  where
    bases : Bool → List ℕ
    bases t = cond t (looked_up x (handler_due x s) (handler_due x s)) []

    go : (t : Bool) → (cond t (with_held (one_place_on (entered s (handler_due x s) s.fetch)) (held_after x.method x.code s.further.held (bases t))) s).further.held
        ≡ held_after x.method x.code s.further.held (bases t)
    go true = refl
    go false = refl

-- What holds of no base, and of one while the cache is on, holds of what is looked up for a record.
pub entry_cases : (P : List ℕ → Type 0) (x : Setup) (s : State) → P [] → ((base : ℕ) → x.method.on ≡ true → P (base ∷ [])) → P (entry_lookups x s)
unfolding entry_lookups
entry_cases P x s none one = go (due x s)
  where
    go : (t : Bool) → P (cond t (looked_up x (handler_due x s) (handler_due x s)) [])
    go true = looked_cases P x none one (handler_due x s) (handler_due x s)
    go false = none
