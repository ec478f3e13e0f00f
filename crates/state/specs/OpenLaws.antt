-- What an opening hands back: a state that 1 and 11 let pass, or, refused, one that every step and run refuses.
use Rattle.std.specs.Prelude.{ℕ, Bool, not, cond, ◌&&◌, ◌≡◌, leb, length, replicate}
use Rattle.std.proofs.Math.Bool.{true, false}
use Rattle.std.proofs.lemmas.Bool.{false≢true}
use Rattle.std.proofs.Math.Path.{refl}
use Rattle.std.proofs.Common.{ap, ◌∙◌, arith, le-leb}
use Rattle.answers.specs.Answer.{accepted, refused}
use Rattle.method_cache.specs.MethodCache.{bytes_held, held_good, held_ok}
use Rattle.settings.specs.Settings.{admits}
use Rattle.settings.specs.Setup.{Setup, Buffers, lent}
use Rattle.products.specs.Products.{products_ok}
use Rattle.core_state.specs.State.{Shaped, predicates_of, parts_ok, fresh, blank}
use Rattle.bundle_model.specs.Counts.{no_counts}
use Rattle.bundle_model.specs.Bundle.{Outcome, outcome, well_formed, step}
use Rattle.run_model.specs.Run.{run}
use Rattle.run_model.specs.RefusalLaws.{among, bundle_numbers, run_number, step_refuses, run_refuses}
use Rattle.state.specs.Open.{Open, open_of, entry_ok, opening}

-- The fresh state and the blank one have their 32 registers and 8 predicates; 11 lets the fresh one pass, and never the blank one.
pub fresh_shaped : (n hi entry : ℕ) → Shaped (fresh n hi entry)
unfolding fresh predicates_of
fresh_shaped n hi entry = record { registers = refl; predicates = refl }

blank_shaped : Shaped blank
unfolding blank
blank_shaped = record { registers = refl; predicates = refl }

pub fresh_well_formed : (x : Setup) (n hi entry : ℕ) → well_formed x (fresh n hi entry) ≡ true
unfolding fresh well_formed parts_ok products_ok held_ok held_good bytes_held
fresh_well_formed x n hi entry = go x.method.on
  where
    go : (t : Bool) → cond t (leb 0 x.method.blocks && leb 0 x.method.bytes) true ≡ true
    go true = rw (le-leb 0 x.method.blocks (omega arith), le-leb 0 x.method.bytes (omega arith)) refl
    go false = refl

blank_ill_formed : (x : Setup) → well_formed x blank ≡ false
unfolding blank well_formed parts_ok
blank_ill_formed x = refl

-- Every step and run of the blank state, of any code under any settings, is refused with 1 or 11, and all stays as found.
module _ (x : Setup) (b : Buffers) where
  abbrev turned_away : Outcome
  turned_away = outcome (refused (cond (admits (lent x b)) 11 1)) blank no_counts b

  pub blank_refused : (step x blank b ≡ turned_away) × ((k : ℕ) → run x k blank b ≡ turned_away)
  blank_refused = (step_refuses x blank b (blank_ill_formed x), λ k. run_refuses x k blank b (blank_ill_formed x))

module _ (x : Setup) (b : Buffers) (entry : ℕ) where
  -- Accepted: 1 and 2 let settings and entry pass, and the fresh state was built.
  pub record Accepted : Type 0 where
    pub admitted : admits (lent x b) ≡ true
    pub entry_ok_lem : entry_ok (length x.code) entry ≡ true
    pub built : opening x b entry ≡ open_of accepted (fresh (length x.code) x.hi entry) (replicate (length b.cache) 0)

  abbrev judged : Bool → Bool → Open
  judged t u =
      cond (not t) (open_of (refused 1) blank b.cache)
      (cond (not u) (open_of (refused 2) blank b.cache) (open_of accepted (fresh (length x.code) x.hi entry) (replicate (length b.cache) 0)))

  -- The three ways of an opening.
  pub settings_refused : admits (lent x b) ≡ false → opening x b entry ≡ open_of (refused 1) blank b.cache
  unfolding opening
  settings_refused e = rw e

  pub entry_refused : admits (lent x b) ≡ true → entry_ok (length x.code) entry ≡ false → opening x b entry ≡ open_of (refused 2) blank b.cache
  unfolding opening
  entry_refused e f = rw (e, f)

  pub nothing_refused : admits (lent x b) ≡ true → entry_ok (length x.code) entry ≡ true
      → opening x b entry ≡ open_of accepted (fresh (length x.code) x.hi entry) (replicate (length b.cache) 0)
  unfolding opening
  nothing_refused e f = rw (e, f)

  pub opened : (opening x b entry).answer ≡ accepted → Accepted
  unfolding opening
  opened = go (admits (lent x b)) (entry_ok (length x.code) entry) refl refl
    where
      go : (t u : Bool) → admits (lent x b) ≡ t → entry_ok (length x.code) entry ≡ u → (judged t u).answer ≡ accepted → Accepted
      go true true p q e = record { admitted = p; entry_ok_lem = q; built = nothing_refused p q }
      go true false p q e = absurd (false≢true cc)
      go false u p q e = absurd (false≢true cc)

  -- Refused: what is handed back is the blank state.
  pub unopened : (n : ℕ) → (opening x b entry).answer ≡ refused n → (opening x b entry).state ≡ blank
  unfolding opening
  unopened n = go (admits (lent x b)) (entry_ok (length x.code) entry)
    where
      go : (t u : Bool) → (judged t u).answer ≡ refused n → (judged t u).state ≡ blank
      go true true e = absurd (false≢true cc)
      go true false e = refl
      go false u e = refl

  -- What is built is well formed, and whatever is handed back has the shape that even pace asks for.
  pub opened_well_formed : (opening x b entry).answer ≡ accepted → well_formed x (opening x b entry).state ≡ true
  opened_well_formed e = ap (λ (o : Open). well_formed x o.state) (opened e).built ∙ fresh_well_formed x (length x.code) x.hi entry

  pub opened_shaped : Shaped (opening x b entry).state
  unfolding opening
  opened_shaped = go (admits (lent x b)) (entry_ok (length x.code) entry)
    where
      go : (t u : Bool) → Shaped (judged t u).state
      go true true = fresh_shaped (length x.code) x.hi entry
      go true false = blank_shaped
      go false u = blank_shaped

  -- Under the settings of the opening a run from the state that was built, also of code and memories that were filled later, is refused by a
  -- bundle or not at all: never with 1 or 11.
  pub opened_runs : (y : Setup) (c : Buffers) (k n : ℕ) → (opening x b entry).answer ≡ accepted → lent y c ≡ lent x b → (run y k (opening x b entry).state c).answer ≡ refused n
      → among bundle_numbers n ≡ true
  opened_runs y c k n e same =
      let well : well_formed y (opening x b entry).state ≡ true = ap (λ (o : Open). well_formed y o.state) (opened e).built ∙ fresh_well_formed y (length x.code) x.hi entry in
      run_number y k (opening x b entry).state c n (ap admits same ∙ (opened e).admitted) well
