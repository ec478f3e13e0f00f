-- The numbers that steps and runs are refused with: never 10; and where 1 lets the settings pass and 11 the state, those behind them.
use Prim.Native.Nat.{ℕ, zero, suc}
use Rattle.std.specs.Prelude.{Bool, not, ◌&&◌, ◌||◌, List, [], ◌∷◌, ◌++◌, ◌≡◌, eqb, Ok, Err}
use Rattle.std.proofs.Math.Bool.{true, false, cond}
use Rattle.std.proofs.lemmas.Bool.{false≢true}
use Rattle.std.proofs.Math.Path.{refl, ap, subst}
use Rattle.std.proofs.Common.{◌∙◌}
use Rattle.answers.specs.declared.Refusal.{Refusal}
use Rattle.answers.specs.Refusal.{number}
use Rattle.word.specs.BoolLaws.{and_left, and_right}
use Rattle.answers.specs.declared.Refusal.TheVariants as refusal
use Rattle.answers.specs.Answer.{Returned, accepted, done, ended, spent, refused}
use Rattle.answers.specs.Test.{Test, test, verdict}
use Rattle.method_cache.specs.declared.Method.{Method}
use Rattle.settings.specs.declared.Settings.{Settings}
use Rattle.settings.specs.Settings.{admits}
use Rattle.settings.specs.Setup.{Setup, Buffers, lent}
use Rattle.effects.specs.declared.Effect.{Effect}
use Rattle.effects.specs.declared.Effect.TheVariants as effect
use Rattle.fetch.specs.Fetch.{fetch_tests}
use Rattle.replay.specs.Replay.{replay_ok}
use Rattle.core_state.specs.State.{State, ended as has_ended}
use Rattle.bundle_model.specs.declared.Readiness.{Readiness}
use Rattle.bundle_model.specs.declared.Readiness.TheVariants as ready
use Rattle.bundle_model.specs.Counts.{no_counts}
use Rattle.bundle_model.specs.Lookup.{lookups, lookup_tests}
use Rattle.bundle_model.specs.Refusal.{effect_tests, slot_tests, bundle_tests}
use Rattle.bundle_model.specs.Interrupt.{due, handler_due, entry_lookups, entry_tests, taken}
use Rattle.bundle_model.specs.Bundle.{outcome, counted, attempt, well_formed, readiness, ready_or, step}
use Rattle.step_laws.specs.StepCases.{effect_at, attempt_cases}
use Rattle.step_laws.proofs.StackKept.{lent_same, step_lengths}
use Rattle.step_laws.proofs.WellLaws.{step_well_formed}
use Rattle.run_model.specs.Run.{run}
use Rattle.bundle_model.specs.Bundle.{if_done}

-- Whether a number is one of these; whether all tests have such numbers.
abbrev pub among : List ℕ → ℕ → Bool
among [] n = false
among (m ∷ ms) n = eqb n m || among ms n

abbrev numbered : List ℕ → List Test → Bool
numbered ns [] = true
numbered ns (t ∷ ts) = among ns (number t.refusal) && numbered ns ts

numbered_append : (ns : List ℕ) (ts us : List Test) → numbered ns ts ≡ true → numbered ns us ≡ true → numbered ns (ts ++ us) ≡ true
numbered_append ns [] us p q = q
numbered_append ns (t ∷ ts) us p q =
    rw (and_left (among ns (number t.refusal)) (numbered ns ts) p, numbered_append ns ts us (and_right (among ns (number t.refusal)) (numbered ns ts) p) q) refl

numbered_refused : (ns : List ℕ) (ts : List Test) (r : Refusal) → numbered ns ts ≡ true → verdict ts ≡ Err r → among ns (number r) ≡ true
unfolding verdict
numbered_refused ns [] r p e = cc
numbered_refused ns (t ∷ ts) r p e =
    go t.applies e (and_left (among ns (number t.refusal)) (numbered ns ts) p) (numbered_refused ns ts r (and_right (among ns (number t.refusal)) (numbered ns ts) p))
  where
    go : (a : Bool) → cond a (Err t.refusal) (verdict ts) ≡ Err r → among ns (number t.refusal) ≡ true
        → (verdict ts ≡ Err r → among ns (number r) ≡ true) → among ns (number r) ≡ true
    go true f q h = let same : t.refusal ≡ r = cc in subst (λ (m : Refusal). among ns (number m) ≡ true) same q
    go false f q h = h f

-- The numbers behind 1 and 11, in the order in which they are first judged.
abbrev pub bundle_numbers : List ℕ
bundle_numbers = 15 ∷ 17 ∷ 13 ∷ 2 ∷ 3 ∷ 16 ∷ 4 ∷ 5 ∷ 7 ∷ 8 ∷ 6 ∷ []

effect_numbered : (g : Settings) (x : Setup) (s : State) (e : Effect) → numbered bundle_numbers (effect_tests g x s e) ≡ true
effect_numbered g x s (effect.Alu a) = refl
effect_numbered g x s (effect.Special d v) = refl
effect_numbered g x s (effect.Product l h) = refl
effect_numbered g x s (effect.Load k w r a) = refl
effect_numbered g x s (effect.Store k w a v) = refl
effect_numbered g x s (effect.Stack c n m) = refl
effect_numbered g x s (effect.Transfer d t) = refl
effect_numbered g x s (effect.Trap vector handler) = refl

lookup_numbered : (c : Method) (code bs : List ℕ) → numbered bundle_numbers (lookup_tests c code bs) ≡ true
unfolding lookup_tests
lookup_numbered c code [] = refl
lookup_numbered c code (b ∷ bs) = lookup_numbered c code bs

bundle_numbered : (g : Settings) (x : Setup) (s : State) (e : Effect) → numbered bundle_numbers (bundle_tests g x s e) ≡ true
unfolding slot_tests
bundle_numbered g x s e =
    numbered_append bundle_numbers (fetch_tests x.code s.fetch) (slot_tests g x s e) refl
    (numbered_append bundle_numbers (effect_tests g x s e) (lookup_tests x.method x.code (lookups x e)) (effect_numbered g x s e) (lookup_numbered x.method x.code (lookups x e)))

entry_numbered : (x : Setup) (s : State) → numbered bundle_numbers (entry_tests x s) ≡ true
unfolding entry_tests
entry_numbered x s = go (due x s)
  where
    go : (t : Bool) → numbered bundle_numbers (cond t (test refusal.NoHandler (eqb (handler_due x s) 0) ∷ lookup_tests x.method x.code (entry_lookups x s)) []) ≡ true
    go true = lookup_numbered x.method x.code (entry_lookups x s)
    go false = refl

-- Numbers with which steps and runs refuse: those behind 1 and 11, and those with which something that lasts lets them be refused before.
module _ (x : Setup) (ns : List ℕ) (wider : (n : ℕ) → among bundle_numbers n ≡ true → among ns n ≡ true)
    (Holds : State → Buffers → Type 0) (lasts : (s : State) (b : Buffers) → Holds s b → Holds (step x s b).state (step x s b).buffers)
    (before : (s : State) (b : Buffers) (r : Refusal) → Holds s b → readiness (lent x b) x s ≡ ready.Refused r → among ns (number r) ≡ true) where
  told : {m n : ℕ} → m ≡ n → among ns m ≡ true → among ns n ≡ true
  told e p = subst (λ (k : ℕ). among ns k ≡ true) e p

  step_among : (s : State) (b : Buffers) (n : ℕ) → Holds s b → (step x s b).answer ≡ refused n → among ns n ≡ true
  unfolding step
  step_among s b n h e = go (readiness (lent x b) x s) refl e
    where
      go : (r : Readiness) → readiness (lent x b) x s ≡ r → (ready_or r s b (attempt (lent x b) x s b)).answer ≡ refused n → among ns n ≡ true
      go ready.Ready f p = attempt_cases (lent x b) x s b (λ o. o.answer ≡ refused n → among ns n ≡ true)
          (λ r j q. let same : number r ≡ n = cc in told same (wider (number r) (numbered_refused bundle_numbers (entry_tests x s ++ bundle_tests (lent x b) x (taken x s) (effect_at x (taken x s))) r
          (numbered_append bundle_numbers (entry_tests x s) _ (entry_numbered x s) (bundle_numbered (lent x b) x (taken x s) (effect_at x (taken x s)))) j))) (λ j q. cc) p
      go ready.Ended f p = cc
      go (ready.Refused r) f p = let same : number r ≡ n = cc in told same (before s b r h f)

  run_among : (k : ℕ) (s : State) (b : Buffers) (n : ℕ) → Holds s b → (run x k s b).answer ≡ refused n → among ns n ≡ true
  unfolding run
  run_among zero s b n h e = go (readiness (lent x b) x s) refl e
    where
      go : (r : Readiness) → readiness (lent x b) x s ≡ r → (ready_or r s b (outcome spent s no_counts b)).answer ≡ refused n → among ns n ≡ true
      go ready.Ready f p = cc
      go ready.Ended f p = cc
      go (ready.Refused r) f p = let same : number r ≡ n = cc in told same (before s b r h f)
  run_among (suc k) s b n h e = go (step x s b).answer refl e (run_among k (step x s b).state (step x s b).buffers n (lasts s b h))
    where
      go : (t : Returned) → (step x s b).answer ≡ t
          → (if_done t (counted (step x s b).counts (run x k (step x s b).state (step x s b).buffers)) (step x s b)).answer ≡ refused n
          → ((run x k (step x s b).state (step x s b).buffers).answer ≡ refused n → among ns n ≡ true) → among ns n ≡ true
      go done f p rest = rest p
      go accepted f p rest = step_among s b n h p
      go ended f p rest = step_among s b n h p
      go spent f p rest = step_among s b n h p
      go (refused m) f p rest = step_among s b n h p

module _ (x : Setup) where
  -- What is judged before a bundle has one of three numbers, and where 1 and 11 let pass it is 15.
  before_number : (g : Settings) (s : State) (r : Refusal) → readiness g x s ≡ ready.Refused r → among (1 ∷ 11 ∷ bundle_numbers) (number r) ≡ true
  unfolding readiness
  before_number g s r = go (admits g) (well_formed x s) (replay_ok x.list x.table) (has_ended s g.code)
    where
      go : (u y w z : Bool) → cond (not u) (ready.Refused refusal.Limits) (cond (not y) (ready.Refused refusal.IllFormed) (cond (not w) (ready.Refused refusal.Replay) (cond z ready.Ended ready.Ready))) ≡ ready.Refused r
          → among (1 ∷ 11 ∷ bundle_numbers) (number r) ≡ true
      go false y w z e = let same : refusal.Limits ≡ r = cc in subst (λ (m : Refusal). among (1 ∷ 11 ∷ bundle_numbers) (number m) ≡ true) same refl
      go true false w z e = let same : refusal.IllFormed ≡ r = cc in subst (λ (m : Refusal). among (1 ∷ 11 ∷ bundle_numbers) (number m) ≡ true) same refl
      go true true false z e = let same : refusal.Replay ≡ r = cc in subst (λ (m : Refusal). among (1 ∷ 11 ∷ bundle_numbers) (number m) ≡ true) same refl
      go true true true true e = cc
      go true true true false e = cc

  ready_number : (g : Settings) (s : State) (r : Refusal) → admits g ≡ true → well_formed x s ≡ true → readiness g x s ≡ ready.Refused r → among bundle_numbers (number r) ≡ true
  unfolding readiness
  ready_number g s r a w e = go (replay_ok x.list x.table) (has_ended s g.code) (rw (a, w) at e)
    where
      go : (w z : Bool) → cond (not w) (ready.Refused refusal.Replay) (cond z ready.Ended ready.Ready) ≡ ready.Refused r → among bundle_numbers (number r) ≡ true
      go false z f = let same : refusal.Replay ≡ r = cc in subst (λ (m : Refusal). among bundle_numbers (number m) ≡ true) same refl
      go true true f = cc
      go true false f = cc

  -- From settings that 1 lets pass and a state that 11 lets pass a run is refused with another number.
  abbrev Let : State → Buffers → Type 0
  Let s b = (admits (lent x b) ≡ true) × (well_formed x s ≡ true)

  pub run_number : (k : ℕ) (s : State) (b : Buffers) (n : ℕ) → admits (lent x b) ≡ true → well_formed x s ≡ true → (run x k s b).answer ≡ refused n → among bundle_numbers n ≡ true
  run_number k s b n a w =
      run_among x bundle_numbers (λ m p. p) Let
      (λ t d h. (ap admits (lent_same x d (step x t d).buffers (step_lengths x t d)) ∙ h.0, step_well_formed x t d h.1))
      (λ t d m h. ready_number (lent x d) t m h.0 h.1) k s b n (a, w)

  -- No step and no run is refused with 10, whatever is handed in.
  more : (n : ℕ) → among bundle_numbers n ≡ true → among (1 ∷ 11 ∷ bundle_numbers) n ≡ true
  more n p = go (eqb n 1) (eqb n 11) (among bundle_numbers n) p
    where
      go : (t u v : Bool) → v ≡ true → (t || (u || v)) ≡ true
      go true u v e = refl
      go false true v e = refl
      go false false v e = e

  pub step_never_ten : (s : State) (b : Buffers) → (step x s b).answer ≡ refused 10 → ⊥
  step_never_ten s b e = false≢true (step_among x (1 ∷ 11 ∷ bundle_numbers) more (λ t d. Unit {0}) (λ t d h. tt) (λ t d m h. before_number (lent x d) t m) s b 10 tt e)

  pub run_never_ten : (k : ℕ) (s : State) (b : Buffers) → (run x k s b).answer ≡ refused 10 → ⊥
  run_never_ten k s b e = false≢true (run_among x (1 ∷ 11 ∷ bundle_numbers) more (λ t d. Unit {0}) (λ t d h. tt) (λ t d m h. before_number (lent x d) t m) k s b 10 tt e)

  -- A state that 11 describes is refused by every step and run, with 1 or 11, and all stays as found.
  unready : (s : State) (g : Settings) → well_formed x s ≡ false → readiness g x s ≡ ready.Refused (cond (admits g) refusal.IllFormed refusal.Limits)
  unfolding readiness
  unready s g w = rw w (go (admits g))
    where
      go : (t : Bool) → cond (not t) (ready.Refused refusal.Limits) (ready.Refused refusal.IllFormed) ≡ ready.Refused (cond t refusal.IllFormed refusal.Limits)
      go true = refl
      go false = refl

  unready_number : (t : Bool) → number (cond t refusal.IllFormed refusal.Limits) ≡ cond t 11 1
  unready_number true = refl
  unready_number false = refl

  pub step_refuses : (s : State) (b : Buffers) → well_formed x s ≡ false → step x s b ≡ outcome (refused (cond (admits (lent x b)) 11 1)) s no_counts b
  unfolding step
  step_refuses s b w = rw (unready s (lent x b) w, unready_number (admits (lent x b)))

  pub run_refuses : (k : ℕ) (s : State) (b : Buffers) → well_formed x s ≡ false → run x k s b ≡ outcome (refused (cond (admits (lent x b)) 11 1)) s no_counts b
  unfolding run step
  run_refuses zero s b w = rw (unready s (lent x b) w, unready_number (admits (lent x b)))
  run_refuses (suc k) s b w = rw (unready s (lent x b) w, unready_number (admits (lent x b)))
