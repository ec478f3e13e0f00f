-- Evidence for products under way: a multiply under a private guard, and why a product is private only if both of its words are.
use Rattle.std.specs.Prelude.{ℕ, Bool, true, false, List, [], ◌∷◌, ◌≡◌, refl}
use Rattle.std.proofs.Common.{ap, arith}
use Rattle.products.specs.declared.Products.{Products}
use Rattle.products.specs.declared.Products.TheVariants.{Nothing, One, Two}
use Rattle.products.specs.Products.{product}
use Rattle.core_state.specs.State.{State, with_products}
use Rattle.core_state.specs.declared.WaitingLoad.TheVariants as load
use Rattle.single_path.specs.Check.{first, accepted}
use Rattle.marking.specs.declared.Marking.{Marking}
use Rattle.even_pace.specs.Terms.{shown, Agree}
use Rattle.even_pace.specs.StateLaws.{state_refl, with_products_lem}
use Rattle.even_pace.specs.BufferLaws.{buffers_refl}
use Rattle.even_pace.proofs.Theorem.{even_pace}
use Rattle.even_pace.specs.Examples.{bytes_of, within, lent, marking_with, begin, check_under, has_access, tried, answered, begin_shaped, begin_well, begin_agree}
use Rattle.even_pace.proofs.Evidence.{EvenUnder, goes, uneven, one}

-- (p1) mul r1, r1 with sl and sh private: accepted, and even whatever r1, p1 and the budget are, though the product is under way in one run
-- only.
abbrev pub secret : Marking
secret = marking_with true true

abbrev pub program_m : List ℕ
program_m = bytes_of (0x0A0010A0 ∷ [])

pub accepted_m : check_under secret program_m ≡ accepted
unfolding check_under
accepted_m = refl

pub even_m : (k v₁ v₂ : ℕ) (p₁ p₂ : Bool) → EvenUnder secret k program_m (begin v₁ p₁ load.Nothing) (begin v₂ p₂ load.Nothing)
unfolding check_under
even_m k v₁ v₂ p₁ p₂ =
    even_pace (within program_m) k secret (begin v₁ p₁ load.Nothing) (begin v₂ p₂ load.Nothing) lent lent accepted_m
    (begin_shaped v₁ p₁ load.Nothing) (begin_shaped v₂ p₂ load.Nothing) (begin_well program_m v₁ p₁) (begin_well program_m v₂ p₂) (begin_agree true true (within program_m) v₁ v₂ p₁ p₂)

pub products_m : ((one program_m (begin 3 true load.Nothing)).state.further.products ≡ One (product 2 9 0))
    × ((one program_m (begin 3 false load.Nothing)).state.further.products ≡ Nothing)
unfolding tried
products_m = (refl, refl)

-- States that differ in what is under way alone; sl is private, and sh is not.
abbrev pub half : Marking
half = marking_with true false

abbrev pub under_way : Products → State
under_way p = with_products (begin 0 true load.Nothing) p

-- Low words may be unlike. Waits may not, and neither may a product be under way in one run only.
pub low_unlike : (u v : ℕ) → Agree half (within []) (under_way (One (product 1 u 7))) lent (under_way (One (product 1 v 7))) lent
unfolding shown
low_unlike u v = record { state = with_products_lem (state_refl (begin 0 true load.Nothing)) _ _ (λ p. refl); buffers = buffers_refl lent }

-- The wait of the first of the products under way, or 0 where there is none.
abbrev first_wait : Products → ℕ
first_wait Nothing = 0
first_wait (One p) = p.wait
first_wait (Two p q) = p.wait

pub waits_unlike : Agree half (within []) (under_way (One (product 1 0 7))) lent (under_way (One (product 2 0 7))) lent → ⊥
unfolding shown
waits_unlike a = absurd (omega (arith, ap first_wait (a.state.further.products refl)))

pub one_only : Agree half (within []) (under_way (One (product 1 0 7))) lent (under_way Nothing) lent → ⊥
unfolding shown
one_only a = absurd (omega (arith, ap first_wait (a.state.further.products refl)))

-- It has to be so: from these two states a bundle that does nothing, which the check accepts, leaves sh unlike, which is public.
abbrev pub program_n : List ℕ
program_n = bytes_of (0x00400000 ∷ [])

pub accepted_n : check_under half program_n ≡ accepted
unfolding check_under
accepted_n = refl

pub uneven_n : EvenUnder half 1 program_n (under_way (One (product 1 0 7))) (under_way Nothing) → ⊥
unfolding tried answered has_access
uneven_n =
    let t₁ = one program_n (under_way (One (product 1 0 7))) in
    let t₂ = one program_n (under_way Nothing) in
    uneven half program_n t₁ t₂ _ _ (goes half program_n t₁ (first (omega arith)) refl) (goes half program_n t₂ (first (omega arith)) refl)
    (λ s e. absurd (omega (arith, s.contents.state.specials.sh refl)))
