-- What a lookup that 13 lets pass keeps and counts.
use Rattle.std.specs.Prelude.{ℕ, ◌≤◌, Bool, true, false, cond, List, [], ◌∷◌, ◌≡◌, eqb, Ok, Err}
use Rattle.std.proofs.Common.{arith}
use Rattle.answers.specs.declared.Refusal.TheVariants as refusal
use Rattle.answers.specs.Test.{test, verdict as verdict_of}
use Rattle.answers.specs.TestLaws.{fine_applies, fine_both}
use Rattle.method_cache.specs.MethodCache.{capacity_ok, bad_block, held_after, misses, words_fetched, held_ok}
use Rattle.method_cache.proofs.CacheLaws.{capacity_on, looked_ok, misses_few, fetched_few}
use Rattle.settings.specs.Setup.{Setup}
use Rattle.effects.specs.declared.Effect.{Effect}
use Rattle.core_state.specs.State.{State}
use Rattle.bundle_model.specs.Lookup.{looked_up, lookups, lookup_tests, held_by, misses_by, fetched_by}
use Rattle.bundle_model.specs.Interrupt.{due, handler_due, entry_lookups, entry_tests, entry_counts}
use Rattle.bundle_model.specs.InterruptLaws.{entry_cases}
use Rattle.bundle_model.specs.LookupLaws.{lookups_cases}

-- 13 describes nothing that is looked up, and nothing that an effect looks up.
abbrev pub FineLookups : Setup → List ℕ → Type 0
FineLookups x l = verdict_of (lookup_tests x.method x.code l) ≡ Ok tt

abbrev pub Found : Setup → Effect → Type 0
Found x e = FineLookups x (lookups x e)

-- Nothing, or one block while the method cache is on.
abbrev pub OneAtMost : Setup → List ℕ → Type 1
OneAtMost x l = (P : List ℕ → Type 0) → P [] → ((base : ℕ) → x.method.on ≡ true → P (base ∷ [])) → P l

module _ (x : Setup) (held l : List ℕ) (few : OneAtMost x l) (ok : capacity_ok x.method ≡ true) (found : FineLookups x l) where
  fine : (base : ℕ) → FineLookups x (base ∷ []) → bad_block x.method x.code base ≡ false
  unfolding lookup_tests
  fine base f = fine_applies 13 (lookup_tests x.method x.code (base ∷ [])) f

  -- What 11 lets pass of the blocks held, it lets pass after the lookups.
  kept : held_ok x.method x.code held ≡ true → held_ok x.method x.code (held_after x.method x.code held l) ≡ true
  unfolding held_after
  kept h =
      few (λ k. FineLookups x k → held_ok x.method x.code (held_after x.method x.code held k) ≡ true) (λ f. h)
      (λ base on f. looked_ok x.method x.code held base (capacity_on x.method ok on) (fine base f) on h) found

  -- One miss and 4,096 words at most.
  one_miss : misses x.method x.code held l ≤ 1
  unfolding misses
  one_miss =
      few (λ k. FineLookups x k → misses x.method x.code held k ≤ 1) (λ f. omega arith)
      (λ base on f. misses_few x.method x.code held base (capacity_on x.method ok on) (fine base f)) found

  one_block : words_fetched x.method x.code held l ≤ 4096
  unfolding words_fetched
  one_block =
      few (λ k. FineLookups x k → words_fetched x.method x.code held k ≤ 4096) (λ f. omega arith)
      (λ base on f. fetched_few x.method x.code held base (capacity_on x.method ok on) (fine base f)) found

-- So it is of what slot one looks up.
module _ (x : Setup) (s : State) (e : Effect) (ok : capacity_ok x.method ≡ true) (found : Found x e) where
  one : OneAtMost x (lookups x e)
  one P none some = lookups_cases P x none some e

  pub held_kept : held_ok x.method x.code s.further.held ≡ true → held_ok x.method x.code (held_by x s e) ≡ true
  held_kept = kept x s.further.held (lookups x e) one ok found

  pub misses_small : misses_by x s e ≤ 1
  misses_small = one_miss x s.further.held (lookups x e) one ok found

  pub fetched_small : fetched_by x s e ≤ 4096
  fetched_small = one_block x s.further.held (lookups x e) one ok found

-- And of what is looked up for a record that is let pass.
pub entry_found : (x : Setup) (s : State) → verdict_of (entry_tests x s) ≡ Ok tt → FineLookups x (entry_lookups x s)
unfolding entry_tests entry_lookups lookup_tests
entry_found x s = go (due x s)
  where
    go : (t : Bool) → verdict_of (cond t (test refusal.NoHandler (eqb (handler_due x s) 0) ∷ lookup_tests x.method x.code (cond t (looked_up x (handler_due x s) (handler_due x s)) [])) []) ≡ Ok tt
        → FineLookups x (cond t (looked_up x (handler_due x s) (handler_due x s)) [])
    go true f = (fine_both (test refusal.NoHandler (eqb (handler_due x s) 0) ∷ []) (lookup_tests x.method x.code (looked_up x (handler_due x s) (handler_due x s))) f).1
    go false f = f

module _ (x : Setup) (s : State) (ok : capacity_ok x.method ≡ true) (found : FineLookups x (entry_lookups x s)) where
  one_entry : OneAtMost x (entry_lookups x s)
  one_entry P none some = entry_cases P x s none some

  pub entry_kept : held_ok x.method x.code s.further.held ≡ true → held_ok x.method x.code (held_after x.method x.code s.further.held (entry_lookups x s)) ≡ true
  entry_kept = kept x s.further.held (entry_lookups x s) one_entry ok found

  pub entry_misses : (entry_counts x s).misses ≤ 1
  entry_misses = one_miss x s.further.held (entry_lookups x s) one_entry ok found

  pub entry_fetched : (entry_counts x s).fetched ≤ 4096
  entry_fetched = one_block x s.further.held (entry_lookups x s) one_entry ok found
