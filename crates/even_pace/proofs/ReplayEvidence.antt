-- Evidence for replays, of the theorem: at work where an interrupt is taken; an interrupt's own 17, which is no stopping event; and one whose
-- handler is not walked.
use Rattle.std.specs.Prelude.{ℕ, Bool, true, false, List, ◌≡◌, refl}
use Rattle.std.proofs.lemmas.Bool.{false≢true}
use Rattle.std.proofs.Math.Option.{some}
use Rattle.std.proofs.Common.{sym, ap, ◌∙◌, arith}
use Rattle.std.proofs.Math.ListN.{get_elem?}
use Rattle.answers.specs.Answer.{done, refused}
use Rattle.settings.specs.Setup.{Setup}
use Rattle.products.specs.Products.{products_ok}
use Rattle.method_cache.specs.MethodCache.{held_ok}
use Rattle.core_state.specs.State.{parts_ok}
use Rattle.core_state.specs.declared.WaitingLoad.TheVariants as load
use Rattle.bundle_model.specs.Bundle.{well_formed}
use Rattle.run_model.specs.Run.{Tried}
use Rattle.single_path.specs.Check.{Walked, first, later, accepted, checked}
use Rattle.single_path.specs.WalkLaws.{walked_inside}
use Rattle.even_pace.specs.Terms.{of_access, has_private_access, Stops, not_walked, refused_access, SameFetch, SameTried, Throughout, EvenPace}
use Rattle.even_pace.proofs.StopLaws.{answer_number, is_refused}
use Rattle.even_pace.proofs.ListLaws.{or_else, All, all_at, throughout}
use Rattle.even_pace.proofs.Theorem.{even_pace}
use Rattle.even_pace.specs.Examples.{lent, marking, check_under, has_access, tried, answered, begin_shaped, begin_agree}
use Rattle.even_pace.proofs.Evidence.{program_s}
use Rattle.fetch.specs.Fetch.{bundle_at}
use Rattle.even_pace.specs.ReplayEvidence.{accepted_i, answer_of, from, interrupt, machine_i, program_i, tries_of}

begins_well : (number handler : ℕ) (code : List ℕ) (v : ℕ) (p : Bool) → well_formed (interrupt number handler code) (from v p) ≡ true
unfolding well_formed parts_ok products_ok held_ok
begins_well number handler code v p = refl

-- Two runs keep even pace.
pub even_interrupt : (number handler : ℕ) (code : List ℕ) → checked (interrupt number handler code) 32 4 4 marking ≡ accepted → (k v₁ v₂ : ℕ) (p₁ p₂ : Bool)
    → let x = interrupt number handler code in EvenPace marking x (tries_of x k (from v₁ p₁)) (tries_of x k (from v₂ p₂)) (answer_of x k (from v₁ p₁)) (answer_of x k (from v₂ p₂))
even_interrupt number handler code e k v₁ v₂ p₁ p₂ =
    let x = interrupt number handler code in
    even_pace x k marking (from v₁ p₁) (from v₂ p₂) lent lent e (begin_shaped v₁ p₁ load.Nothing) (begin_shaped v₂ p₂ load.Nothing)
    (begins_well number handler code v₁ p₁) (begins_well number handler code v₂ p₂) (begin_agree false false x v₁ v₂ p₁ p₂)

pub even_i : (k v₁ v₂ : ℕ) (p₁ p₂ : Bool)
    → EvenPace marking machine_i (tries_of machine_i k (from v₁ p₁)) (tries_of machine_i k (from v₂ p₂)) (answer_of machine_i k (from v₁ p₁)) (answer_of machine_i k (from v₂ p₂))
even_i = even_interrupt 1 12 program_i accepted_i

-- None of these bundles is a stopping event, so the runs are even throughout.
Goes : Tried → Type 0
Goes t = Walked program_i t.fetch × (t.answer ≡ done)

goes : (t : Tried) → Goes t → ¬ Stops marking program_i t
unfolding Goes
goes t g (not_walked n) = n g.0
goes t g (refused_access n p o q) = false≢true (ap is_refused (sym g.1 ∙ p))

path : Walked program_i 0 × Walked program_i 4 × Walked program_i 8 × Walked program_i 12 × Walked program_i 16
unfolding tried
path =
    let w0 : Walked program_i 0 = first (omega arith) in
    let w4 : Walked program_i 4 = later w0 refl (omega arith) in
    let w8 : Walked program_i 8 = later w4 refl (omega arith) in
    let w12 : Walked program_i 12 = later w8 refl (omega arith) in
    (w0, w4, w8, w12, later w12 refl (omega arith))

go₁ : All Goes (tries_of machine_i 6 (from 7 true))
unfolding tried All Goes
go₁ = ((path.0, refl), ((path.3, refl), ((path.4, refl), ((path.1, refl), ((path.2, refl), tt)))))

go₂ : All Goes (tries_of machine_i 6 (from 9 false))
unfolding tried All Goes
go₂ = ((path.0, refl), ((path.3, refl), ((path.4, refl), ((path.1, refl), ((path.2, refl), tt)))))

pub throughout_i : Throughout (Stops marking program_i) SameFetch (SameTried marking machine_i) (tries_of machine_i 6 (from 7 true)) (tries_of machine_i 6 (from 9 false))
    (answer_of machine_i 6 (from 7 true)) (answer_of machine_i 6 (from 9 false))
throughout_i =
    throughout (Stops marking program_i) SameFetch (SameTried marking machine_i) _ _ _ _ (even_i 6 7 9 true false)
    (λ k t e. goes t (all_at Goes _ go₁ k t e)) (λ k t e. goes t (all_at Goes _ go₂ k t e))

-- (p1) lwl r1 = [r0 + 4], which is refused and a stopping event where p1 is true (Evidence, `stops_s`). Here a record is due at once whose handler is
-- at 0, the address of this bundle: both runs are refused with the record's own 17, whatever p1 is.
abbrev pub machine_z : Setup
machine_z = interrupt 0 0 program_s

pub accepted_z : checked machine_z 32 4 4 marking ≡ accepted
unfolding check_under
accepted_z = refl

pub access_z : has_private_access marking (bundle_at program_s 0) ≡ true
unfolding has_access
access_z = refl

pub answers_z : (answer_of machine_z 1 (from 0 true) ≡ refused 17) × (answer_of machine_z 1 (from 0 false) ≡ refused 17)
unfolding answered
answers_z = (refl, refl)

-- That is no stopping event in either run, so the claim holds of this bundle too.
Refused17 : Tried → Type 0
Refused17 t = Walked program_s t.fetch × (t.answer ≡ refused 17)

not_stopped : (t : Tried) → Refused17 t → ¬ Stops marking program_s t
unfolding Refused17
not_stopped t g (not_walked n) = n g.0
not_stopped t g (refused_access n p o q) = false≢true (ap of_access (ap answer_number (sym g.1 ∙ p)) ∙ o)

refused_z : (p : Bool) → All Refused17 (tries_of machine_z 1 (from 0 p))
unfolding tried All Refused17
refused_z p = ((first (omega arith), refl), tt)

pub throughout_z : Throughout (Stops marking program_s) SameFetch (SameTried marking machine_z) (tries_of machine_z 1 (from 0 true)) (tries_of machine_z 1 (from 0 false))
    (answer_of machine_z 1 (from 0 true)) (answer_of machine_z 1 (from 0 false))
throughout_z =
    throughout (Stops marking program_s) SameFetch (SameTried marking machine_z) _ _ _ _ (even_interrupt 0 0 program_s accepted_z 1 0 0 true false)
    (λ k t e. not_stopped t (all_at Refused17 _ (refused_z true) k t e)) (λ k t e. not_stopped t (all_at Refused17 _ (refused_z false) k t e))

-- A handler at 20, behind the code, is accepted and not walked: the bundle that takes the interrupt is tried there, and stops the claim.
pub stops_h : (t : Tried) → get_elem? (tries_of (interrupt 0 20 program_i) 1 (from 7 true)) 0 ≡ some t → Stops marking program_i t
unfolding tried
stops_h t e = not_walked (λ w. absurd (omega (arith, walked_inside w, ap (λ (u : Tried). u.fetch) (ap (or_else t) e))))
