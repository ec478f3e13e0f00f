-- Evidence for the method cache: a call that is looked up keeps even pace, and why the blocks held have to be public.
use Rattle.std.specs.Prelude.{ℕ, Bool, true, false, List, [], ◌∷◌, ◌≡◌, refl, length}
use Rattle.std.proofs.Common.{ap, arith}
use Rattle.answers.specs.Answer.{done}
use Rattle.method_cache.specs.MethodCache.{bytes_held, held_good, held_ok}
use Rattle.products.specs.Products.{products_ok}
use Rattle.settings.specs.Setup.{Setup}
use Rattle.core_state.specs.State.{with_held, parts_ok}
use Rattle.core_state.specs.declared.WaitingLoad.TheVariants as load
use Rattle.bundle_model.specs.Counts.{no_counts}
use Rattle.bundle_model.specs.Bundle.{Outcome, well_formed}
use Rattle.run_model.specs.Run.{run, tries}
use Rattle.single_path.specs.Check.{accepted, checked}
use Rattle.even_pace.specs.Terms.{Agree, EvenPace}
use Rattle.even_pace.proofs.Theorem.{even_pace}
use Rattle.even_pace.specs.Examples.{bytes_of, with_method, lent, marking, begin, check_under, stepped, begin_shaped, begin_agree}

-- callnd 12, whose block is 4 bytes long, in a cache of two blocks and 64 bytes.
abbrev pub program_c : List ℕ
program_c = bytes_of (0x04000003 ∷ 0x00000004 ∷ 0x00000004 ∷ 0x00400000 ∷ [])

abbrev pub machine_c : Setup
machine_c = with_method program_c (record { on = true; blocks = 2; bytes = 64 })

-- The check accepts it, and two runs of it keep even pace, misses and words fetched included, whatever r1, p1 and the budget are.
pub accepted_c : checked machine_c 32 4 4 marking ≡ accepted
unfolding check_under
accepted_c = refl

begins_well : (v : ℕ) (p : Bool) → well_formed machine_c (begin v p load.Nothing) ≡ true
unfolding well_formed parts_ok products_ok held_ok held_good bytes_held
begins_well v p = refl

pub even_c : (k v₁ v₂ : ℕ) (p₁ p₂ : Bool)
    → EvenPace marking machine_c (tries machine_c k (begin v₁ p₁ load.Nothing) lent no_counts) (tries machine_c k (begin v₂ p₂ load.Nothing) lent no_counts)
    (run machine_c k (begin v₁ p₁ load.Nothing) lent).answer (run machine_c k (begin v₂ p₂ load.Nothing) lent).answer
even_c k v₁ v₂ p₁ p₂ =
    even_pace machine_c k marking (begin v₁ p₁ load.Nothing) (begin v₂ p₂ load.Nothing) lent lent accepted_c
    (begin_shaped v₁ p₁ load.Nothing) (begin_shaped v₂ p₂ load.Nothing) (begins_well v₁ p₁) (begins_well v₂ p₂) (begin_agree false false machine_c v₁ v₂ p₁ p₂)

-- From no block held it misses once and fetches one word; from its own block held it counts nothing.
abbrev pub from : List ℕ → Outcome
from held = stepped program_c machine_c.method (with_held (begin 0 true load.Nothing) held)

pub miss_c : ((from []).answer ≡ done) × ((from []).counts.misses ≡ 1) × ((from []).counts.fetched ≡ 1) × ((from []).state.further.held ≡ 12 ∷ [])
unfolding stepped
miss_c = (refl, refl, refl, refl)

pub hit_c : ((from (12 ∷ [])).answer ≡ done) × ((from (12 ∷ [])).counts.misses ≡ 0) × ((from (12 ∷ [])).counts.fetched ≡ 0)
    × ((from (12 ∷ [])).state.further.held ≡ 12 ∷ [])
unfolding stepped
hit_c = (refl, refl, refl, refl)

-- So two states that differ in the blocks held may not agree: with the same call they would count unlike. Nor may they differ in the order of
-- the blocks.
pub held_unlike : Agree marking machine_c (with_held (begin 0 true load.Nothing) []) lent (with_held (begin 0 true load.Nothing) (12 ∷ [])) lent → ⊥
held_unlike a = absurd (omega (arith, ap length a.state.further.held))

abbrev first_of : List ℕ → ℕ
first_of [] = 0
first_of (h ∷ hs) = h

pub order_unlike : Agree marking machine_c (with_held (begin 0 true load.Nothing) (8 ∷ 12 ∷ [])) lent (with_held (begin 0 true load.Nothing) (12 ∷ 8 ∷ [])) lent → ⊥
order_unlike a = absurd (omega (arith, ap first_of a.state.further.held))
