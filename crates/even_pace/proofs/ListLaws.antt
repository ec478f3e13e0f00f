-- Two lists of entries, longer by one at their start.
use Rattle.std.specs.Prelude.{ℕ, zero, suc, ◌<◌, List, [], ◌∷◌, ◌⊎◌, Bool, true, false, cond, ◌≡◌, refl, length}
use Rattle.std.proofs.Common.{inl, inr, ap, subst, arith}
use Rattle.std.proofs.Math.Option.{Option, none, some}
use Rattle.std.proofs.lemmas.Bool.{false≢true}
use Rattle.std.proofs.Math.ListN.{get_elem?}
use Rattle.answers.specs.Answer.{Returned}
use Rattle.settings.specs.Setup.{Setup}
use Rattle.bundle_model.specs.Counts.{plus}
use Rattle.bundle_model.specs.Bundle.{Outcome, counted}
use Rattle.run_model.specs.Run.{Tried}
use Rattle.marking.specs.declared.Marking.{Marking}
use Rattle.even_pace.specs.Terms.{Stops, SameFetch, SameTried, EvenAt, StopsAt, Throughout, EvenLists}
use Rattle.even_pace.proofs.BundleLaws.{SameOutcome}

abbrev pub or_else : {E : Type 0} → E → Option E → E
or_else t none = t
or_else t (some u) = u

abbrev pub is_some : {E : Type 0} → Option E → Bool
is_some none = false
is_some (some t) = true

-- Neither entry is a stopping event, and they are alike.
pub record Even {E : Type 0} (Stop : E → Type 0) (Alike : E → E → Type 0) (t₁ t₂ : E) : Type 0 where
  pub goes₁ : ¬ Stop t₁
  pub goes₂ : ¬ Stop t₂
  pub same : Alike t₁ t₂

pub even_none : {E : Type 0} (Stop : E → Type 0) (Alike : E → E → Type 0) (j : ℕ) → EvenAt Stop Alike [] [] j
even_none Stop Alike j t₁ t₂ e f = absurd (false≢true (ap is_some e))

module _ {E : Type 0} {Stop : E → Type 0} {Alike : E → E → Type 0} where
  module _ {t₁ t₂ : E} (T₁ T₂ : List E) (h : Even Stop Alike t₁ t₂) where
    pub even_first : EvenAt Stop Alike (t₁ ∷ T₁) (t₂ ∷ T₂) 0
    even_first u₁ u₂ e f =
        let p = ap (or_else t₁) e in
        let q = ap (or_else t₂) f in (
          subst (λ (t : E). ¬ Stop t) p h.goes₁,
          subst (λ (t : E). ¬ Stop t) q h.goes₂,
          subst (λ (t : E). Alike t u₂) p (subst (λ (t : E). Alike t₁ t) q h.same),
        )

    pub even_next : ((j : ℕ) → EvenAt Stop Alike T₁ T₂ j) → (j : ℕ) → EvenAt Stop Alike (t₁ ∷ T₁) (t₂ ∷ T₂) j
    even_next k zero = even_first
    even_next k (suc j) = k j

    pub stops_later : {Met : E → E → Type 0} (k : ℕ) → StopsAt Stop Met Alike T₁ T₂ k → StopsAt Stop Met Alike (t₁ ∷ T₁) (t₂ ∷ T₂) (suc k)
    stops_later k s =
        record { t₁ = s.t₁; t₂ = s.t₂; tried₁ = s.tried₁; tried₂ = s.tried₂; stops = s.stops; met = s.met; before = go }
      where
        go : (j : ℕ) → j < suc k → EvenAt Stop Alike (t₁ ∷ T₁) (t₂ ∷ T₂) j
        go zero p = even_first
        go (suc j) p = s.before j (omega arith)

  pub stops_here : {Met : E → E → Type 0} (t₁ t₂ : E) (T₁ T₂ : List E) → Met t₁ t₂ → Stop t₁ ⊎ Stop t₂ → StopsAt Stop Met Alike (t₁ ∷ T₁) (t₂ ∷ T₂) 0
  stops_here t₁ t₂ T₁ T₂ p q =
      record { t₁ = t₁; t₂ = t₂; tried₁ = refl; tried₂ = refl; stops = q; met = p; before = λ j h. absurd (omega (arith, h)) }

-- What holds of each entry of a list holds of that at a place.
unfoldable pub All : {E : Type 0} → (E → Type 0) → List E → Type 0
All P [] = Unit {0}
All P (t ∷ ts) = P t × All P ts

pub all_at : {E : Type 0} (P : E → Type 0) (l : List E) → All P l → (k : ℕ) (t : E) → get_elem? l k ≡ some t → P t
unfolding All
all_at P [] a k t e = absurd (false≢true (ap is_some e))
all_at P (u ∷ l) a zero t e = subst P (ap (or_else u) e) a.0
all_at P (u ∷ l) a (suc k) t e = all_at P l a.1 k t e

-- Even lists without a stopping event are even throughout.
module _ {E : Type 0} (Stop : E → Type 0) (Met Alike : E → E → Type 0) (T₁ T₂ : List E) (a₁ a₂ : Returned) where
  pub throughout : EvenLists Stop Met Alike T₁ T₂ a₁ a₂ → ((k : ℕ) (t : E) → get_elem? T₁ k ≡ some t → ¬ Stop t)
      → ((k : ℕ) (t : E) → get_elem? T₂ k ≡ some t → ¬ Stop t) → Throughout Stop Met Alike T₁ T₂ a₁ a₂
  throughout (inr w) n₁ n₂ = w
  throughout (inl r) n₁ n₂ = absurd (go r.1.stops)
    where
      go : Stop r.1.t₁ ⊎ Stop r.1.t₂ → ⊥
      go (inl h) = n₁ r.0 _ r.1.tried₁ h
      go (inr h) = n₂ r.0 _ r.1.tried₂ h

-- Even pace of two lists of tried bundles, with what the runs return.
module _ (m : Marking) (x : Setup) where
  -- Of two bundles tried at one place, and of the first that is a stopping event.
  abbrev pub EvenTried : Tried → Tried → Type 0
  EvenTried = Even (Stops m x.code) (SameTried m x)

  abbrev pub StopTried : List Tried → List Tried → ℕ → Type 0
  StopTried = StopsAt (Stops m x.code) SameFetch (SameTried m x)

  -- No stopping event: the lists are alike, and so are the outcomes of the runs.
  pub record Whole (T₁ T₂ : List Tried) (o₁ o₂ : Outcome) : Type 0 where
    pub each : (j : ℕ) → EvenAt (Stops m x.code) (SameTried m x) T₁ T₂ j
    pub lengths : length T₁ ≡ length T₂
    pub same : SameOutcome m x o₁ o₂

  abbrev pub Result : List Tried → List Tried → Outcome → Outcome → Type 0
  Result T₁ T₂ o₁ o₂ = ((k : ℕ) × StopTried T₁ T₂ k) ⊎ Whole T₁ T₂ o₁ o₂

  -- A bundle that is no stopping event before two lists that are so.
  pub before : (d : Bool) {t₁ t₂ : Tried} {T₁ T₂ : List Tried} {o₁ o₂ r₁ r₂ : Outcome} → EvenTried t₁ t₂ → SameOutcome m x o₁ o₂
      → Result T₁ T₂ r₁ r₂
      → Result (t₁ ∷ cond d T₁ []) (t₂ ∷ cond d T₂ []) (cond d (counted o₁.counts r₁) o₁) (cond d (counted o₂.counts r₂) o₂)
  before true {T₁ = T₁} {T₂ = T₂} e s (inl r) = inl (suc r.0, stops_later T₁ T₂ e r.0 r.1)
  before true {T₁ = T₁} {T₂ = T₂} e s (inr w) =
      inr
      (record {
        each = even_next T₁ T₂ e w.each;
        lengths = ap suc w.lengths;
        same = record { answer = w.same.answer; counts = λ i. plus (s.counts i) (w.same.counts i); contents = w.same.contents };
      })
  before false e s r = inr (record { each = even_next [] [] e (even_none (Stops m x.code) (SameTried m x)); lengths = refl; same = s })
