-- Evidence for the definitions: the theorem applied to a program; for each rule a program that breaks it alone and whose runs are
-- uneven; what of waiting loads is private; and stopping events.
use Rattle.std.specs.Prelude.{ℕ, zero, suc, Bool, true, false, List, [], ◌∷◌, ◌⊎◌, ◌≡◌, refl}
use Rattle.std.proofs.lemmas.Bool.{false≢true}
use Rattle.std.proofs.Common.{inl, inr, sym, ap, subst, ◌∙◌, arith}
use Rattle.std.proofs.Math.Option.{some}
use Rattle.std.proofs.Math.ListN.{get_elem?}
use Rattle.answers.specs.Answer.{Returned, ended, refused}
use Rattle.core_state.specs.State.{State}
use Rattle.core_state.specs.declared.WaitingLoad.TheVariants as load
use Rattle.bundle_model.specs.declared.Counts.{Counts}
use Rattle.bundle_model.specs.Bundle.{step}
use Rattle.run_model.specs.Run.{run, Tried, tried_at, tries}
use Rattle.marking.specs.declared.Marking.{Marking}
use Rattle.marking.specs.Marking.{public_register}
use Rattle.single_path.specs.Check.{Walked, first, accepted}
use Rattle.single_path.specs.WalkLaws.{walked_inside}
use Rattle.even_pace.specs.Terms.{Agree, has_private_access, Stops, not_walked, refused_access, SameTried, EvenPace}
use Rattle.even_pace.proofs.WriteLaws.{load_quiet, waits_private, waits_none}
use Rattle.even_pace.specs.BufferLaws.{buffers_refl}
use Rattle.even_pace.proofs.StopLaws.{is_refused}
use Rattle.even_pace.proofs.ListLaws.{or_else, is_some, stops_here, StopTried}
use Rattle.even_pace.proofs.Theorem.{even_pace}
use Rattle.even_pace.specs.Examples.{bytes_of, within, lent, marking, begin, check, broken, has_access, tried, answered, begin_shaped, begin_well, begin_agree}
use Rattle.bundle_model.specs.Counts.{no_counts}
use Rattle.fetch.specs.Fetch.{bundle_at}

-- Even pace of two runs of a program from two states under a marking; and where r1 and p1 alone are private.
abbrev pub EvenUnder : Marking → ℕ → List ℕ → State → State → Type 0
EvenUnder m k code s₁ s₂ =
    EvenPace m (within code) (tries (within code) k s₁ lent no_counts) (tries (within code) k s₂ lent no_counts)
    (run (within code) k s₁ lent).answer (run (within code) k s₂ lent).answer

abbrev pub Even : ℕ → List ℕ → State → State → Type 0
Even = EvenUnder marking

-- (p1) lwl r1 = [r0]; add r1 = r1, r1; add r2 = r2 + 1: accepted, and even whatever r1, p1 and the budget are.
abbrev pub program : List ℕ
program = bytes_of (0x0A820080 ∷ 0x02021080 ∷ 0x00042001 ∷ [])

pub program_accepted : check program ≡ accepted
unfolding check
program_accepted = refl

pub program_even : (k v₁ v₂ : ℕ) (p₁ p₂ : Bool) → Even k program (begin v₁ p₁ load.Nothing) (begin v₂ p₂ load.Nothing)
unfolding check
program_even k v₁ v₂ p₁ p₂ =
    even_pace (within program) k marking (begin v₁ p₁ load.Nothing) (begin v₂ p₂ load.Nothing) lent lent program_accepted
    (begin_shaped v₁ p₁ load.Nothing) (begin_shaped v₂ p₂ load.Nothing) (begin_well program v₁ p₁) (begin_well program v₂ p₂) (begin_agree false false (within program) v₁ v₂ p₁ p₂)

pub program_ends : (answered 3 program (begin 7 true load.Nothing) ≡ ended) × (answered 3 program (begin 9 false load.Nothing) ≡ ended)
unfolding answered
program_ends = (refl, refl)

-- Lists of one bundle that is no stopping event.
pub goes : (m : Marking) (code : List ℕ) (t : Tried) → Walked code t.fetch → has_private_access m (bundle_at code t.fetch) ≡ false → ¬ Stops m code t
goes m code t w e (not_walked n) = n w
goes m code t w e (refused_access n p o q) = false≢true (sym e ∙ q)

module _ (m : Marking) (code : List ℕ) (t₁ t₂ : Tried) (a₁ a₂ : Returned) (n₁ : ¬ Stops m code t₁) (n₂ : ¬ Stops m code t₂) where
  not_at : (k : ℕ) → StopTried m (within code) (t₁ ∷ []) (t₂ ∷ []) k → ⊥
  not_at zero s = go s.stops
    where
      go : Stops m code s.t₁ ⊎ Stops m code s.t₂ → ⊥
      go (inl h) = n₁ (subst (Stops m code) (sym (ap (or_else t₁) s.tried₁)) h)
      go (inr h) = n₂ (subst (Stops m code) (sym (ap (or_else t₂) s.tried₂)) h)
  not_at (suc k) s = false≢true (ap is_some s.tried₁)

  pub uneven : (SameTried m (within code) t₁ t₂ → a₁ ≡ a₂ → ⊥) → EvenPace m (within code) (t₁ ∷ []) (t₂ ∷ []) a₁ a₂ → ⊥
  uneven d (inl s) = not_at s.0 s.1
  uneven d (inr w) = d (w.each 0 t₁ t₂ refl refl).2 w.answers

-- One bundle of a program, as it is tried from a state.
abbrev pub one : List ℕ → State → Tried
one code s = tried_at 0 no_counts (step (within code) s lent)

-- A: (p1) brnd 1 takes 3 cycles or 1.
abbrev pub program_a : List ℕ
program_a = bytes_of (0x0C800001 ∷ [])

pub breaks_a_lem : broken program_a ≡ true ∷ false ∷ false ∷ false ∷ false ∷ []
unfolding broken
breaks_a_lem = refl

pub uneven_a : Even 1 program_a (begin 0 true load.Nothing) (begin 0 false load.Nothing) → ⊥
unfolding tried answered has_access
uneven_a =
    let t₁ = one program_a (begin 0 true load.Nothing) in
    let t₂ = one program_a (begin 0 false load.Nothing) in
    uneven marking program_a t₁ t₂ _ _ (goes marking program_a t₁ (first (omega arith)) refl) (goes marking program_a t₂ (first (omega arith)) refl)
    (λ s e. absurd (omega (arith, ap (λ (c : Counts). c.cycles) s.counts)))

-- B: add r2 = r1 + 0 brings a private value into a public register.
abbrev pub program_b : List ℕ
program_b = bytes_of (0x00041000 ∷ [])

pub breaks_b_lem : broken program_b ≡ false ∷ true ∷ false ∷ false ∷ false ∷ []
unfolding broken
breaks_b_lem = refl

pub uneven_b : Even 1 program_b (begin 5 true load.Nothing) (begin 6 true load.Nothing) → ⊥
unfolding tried answered has_access
uneven_b =
    let t₁ = one program_b (begin 5 true load.Nothing) in
    let t₂ = one program_b (begin 6 true load.Nothing) in
    uneven marking program_b t₁ t₂ _ _ (goes marking program_b t₁ (first (omega arith)) refl) (goes marking program_b t₂ (first (omega arith)) refl)
    (λ s e. absurd (omega (arith, s.contents.state.registers.places 2 refl)))

-- C: lwl r0 = [r1] is refused or not by a private address.
abbrev pub program_c : List ℕ
program_c = bytes_of (0x02801080 ∷ [])

pub breaks_c_lem : broken program_c ≡ false ∷ false ∷ true ∷ false ∷ false ∷ []
unfolding broken
breaks_c_lem = refl

pub answers_c : (answered 1 program_c (begin 0 true load.Nothing) ≡ ended) × (answered 1 program_c (begin 4 true load.Nothing) ≡ refused 6)
unfolding answered
answers_c = (refl, refl)

pub uneven_c : Even 1 program_c (begin 0 true load.Nothing) (begin 4 true load.Nothing) → ⊥
unfolding tried answered has_access
uneven_c =
    let t₁ = one program_c (begin 0 true load.Nothing) in
    let t₂ = one program_c (begin 4 true load.Nothing) in
    uneven marking program_c t₁ t₂ _ _ (goes marking program_c t₁ (first (omega arith)) refl) (goes marking program_c t₂ (first (omega arith)) refl)
    (λ s e. false≢true (ap is_refused e))

-- D: swl [r0] = r1 brings a private value into public local memory.
abbrev pub program_d : List ℕ
program_d = bytes_of (0x02C20080 ∷ [])

pub breaks_d_lem : broken program_d ≡ false ∷ false ∷ false ∷ true ∷ false ∷ []
unfolding broken
breaks_d_lem = refl

pub uneven_d : Even 1 program_d (begin 5 true load.Nothing) (begin 6 true load.Nothing) → ⊥
unfolding tried answered has_access
uneven_d =
    let t₁ = one program_d (begin 5 true load.Nothing) in
    let t₂ = one program_d (begin 6 true load.Nothing) in
    uneven marking program_d t₁ t₂ _ _ (goes marking program_d t₁ (first (omega arith)) refl) (goes marking program_d t₂ (first (omega arith)) refl)
    (λ s e. absurd (omega (arith, s.contents.buffers.local.places 3 refl)))

-- E: brnd r1 goes to a private address.
abbrev pub program_e : List ℕ
program_e = bytes_of (0x06001005 ∷ [])

pub breaks_e_lem : broken program_e ≡ false ∷ false ∷ false ∷ false ∷ true ∷ []
unfolding broken
breaks_e_lem = refl

pub uneven_e : Even 1 program_e (begin 0 true load.Nothing) (begin 4 true load.Nothing) → ⊥
unfolding tried answered has_access
uneven_e =
    let t₁ = one program_e (begin 0 true load.Nothing) in
    let t₂ = one program_e (begin 4 true load.Nothing) in
    uneven marking program_e t₁ t₂ _ _ (goes marking program_e t₁ (first (omega arith)) refl) (goes marking program_e t₂ (first (omega arith)) refl)
    (λ s e. absurd (omega (arith, s.contents.state.fetch)))

-- A load to a register that is no public destination waits in one run only.
private_load : (r : ℕ) → public_register marking r ≡ false → Agree marking (within []) (begin 0 true (load.Waits r 9)) lent (begin 0 true load.Nothing) lent
private_load r h =
    record {
      state = load_quiet (begin 0 true load.Nothing) (load.Waits r 9) load.Nothing (waits_private marking r 9 h) (waits_none marking);
      buffers = buffers_refl lent;
    }

-- Waiting loads to r0 and to the private r1 may be in one run only; one to the public r2 may not.
pub load_to_r0 : Agree marking (within []) (begin 0 true (load.Waits 0 9)) lent (begin 0 true load.Nothing) lent
load_to_r0 = private_load 0 refl

pub load_to_r1 : Agree marking (within []) (begin 0 true (load.Waits 1 9)) lent (begin 0 true load.Nothing) lent
load_to_r1 = private_load 1 refl

pub load_to_r2 : Agree marking (within []) (begin 0 true (load.Waits 2 9)) lent (begin 0 true load.Nothing) lent → ⊥
load_to_r2 a = waits_none marking 2 9 refl ((a.state.load 2 9 refl).0 refl)

-- (p1) lwl r0 = [r0] is accepted, and leaves such a load in one run only.
abbrev pub program_r0 : List ℕ
program_r0 = bytes_of (0x0A800080 ∷ [])

pub accepted_r0 : check program_r0 ≡ accepted
unfolding check
accepted_r0 = refl

pub loads_r0 : ((one program_r0 (begin 0 true load.Nothing)).state.load ≡ load.Waits 0 0) × ((one program_r0 (begin 0 false load.Nothing)).state.load ≡ load.Nothing)
unfolding tried
loads_r0 = (refl, refl)

-- (p1) lwl r1 = [r0 + 4] is accepted; it is refused in the run in which p1 is true, and that is a stopping event there and none in
-- the other.
abbrev pub program_s : List ℕ
program_s = bytes_of (0x0A820081 ∷ [])

pub accepted_s : check program_s ≡ accepted
unfolding check
accepted_s = refl

pub answers_s : (answered 1 program_s (begin 0 true load.Nothing) ≡ refused 6) × (answered 1 program_s (begin 0 false load.Nothing) ≡ ended)
unfolding answered
answers_s = (refl, refl)

pub stops_s : Stops marking program_s (one program_s (begin 0 true load.Nothing))
unfolding tried has_access
stops_s = refused_access 6 refl refl refl

pub first_s : StopTried marking (within program_s) (tries (within program_s) 1 (begin 0 true load.Nothing) lent no_counts)
    (tries (within program_s) 1 (begin 0 false load.Nothing) lent no_counts) 0
unfolding tried
first_s = stops_here (one program_s (begin 0 true load.Nothing)) (one program_s (begin 0 false load.Nothing)) [] [] refl (inl stops_s)

-- brnd 2, in code of one word, is accepted; the bundle after it is fetched at 8, which is not walked.
abbrev pub program_j : List ℕ
program_j = bytes_of (0x04800002 ∷ [])

pub accepted_j : check program_j ≡ accepted
unfolding check
accepted_j = refl

pub stops_j : (t : Tried) → get_elem? (tried 2 program_j (begin 0 true load.Nothing)) 1 ≡ some t → Stops marking program_j t
unfolding tried
stops_j t e = not_walked (λ w. absurd (omega (arith, walked_inside w, ap (λ (u : Tried). u.fetch) (ap (or_else t) e))))
