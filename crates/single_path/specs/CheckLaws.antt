-- What the check's answer tells: accepted if and only if every walked bundle can be read and keeps the rules; otherwise the first
-- that does not.
use Prim.Native.Nat.{ℕ, zero, suc, ◌+◌, ◌*◌, ◌/◌, ◌<◌}
use Rattle.std.proofs.Math.Bool.{Bool, true, false, cond}
use Rattle.std.proofs.lemmas.Bool.{false≢true, lt-leb}
use Rattle.std.specs.Prelude.{List, ◌⊎◌, ◌↔◌, ◌≡◌, leb, length, Ok, Err}
use Rattle.std.proofs.Math.Logic.{inl}
use Rattle.std.proofs.Common.{inr, sym, ap, subst, ◌∙◌, arith, leb-false}
use Rattle.std.proofs.Math.Path.{refl}
use Rattle.std.proofs.Math.Decide.{dec_lt}
use Rattle.marking.specs.declared.Marking.{Marking}
use Rattle.marking_rules.specs.Rules.{keeps}
use Rattle.single_path.specs.Check.{Walked, first, later, CheckAnswer, accepted, refused, refused_at, walk_from, passes, checked}
use Rattle.answers.specs.declared.Refusal.TheVariants as refusal
use Rattle.answers.specs.Test.{verdict}
use Rattle.single_path.specs.WalkLaws.{following_above, walked_inside, walked_gap}
use Rattle.fetch.specs.Fetch.{is_undecodable, outside_code, bundle_at, following_at}
use Rattle.settings.specs.Setup.{Setup}

-- The bundle at an address can be read and keeps the rules.
pub record Fine (m : Marking) (code : List ℕ) (a : ℕ) : Type 0 where
  pub inside : outside_code code a ≡ false
  pub decodable : is_undecodable (bundle_at code a) ≡ false
  pub keeping : keeps m (bundle_at code a) ≡ true

-- It fails as the check says: 2, 3, or a broken rule.
pub data Fails (m : Marking) (code : List ℕ) : CheckAnswer → ℕ → Type 0 where
  outside : {a : ℕ} → outside_code code a ≡ true → Fails m code (refused 2 a) a
  undecodable : {a : ℕ} → outside_code code a ≡ false → is_undecodable (bundle_at code a) ≡ true → Fails m code (refused 3 a) a
  breaking : {a : ℕ} → outside_code code a ≡ false → is_undecodable (bundle_at code a) ≡ false → keeps m (bundle_at code a) ≡ false
      → Fails m code (refused 9 a) a

-- What an answer other than accepted tells: a walked address at which the code fails so, before which it does not fail.
pub record FirstFailure (m : Marking) (code : List ℕ) (v : CheckAnswer) : Type 0 where
  pub address : ℕ
  pub walked : Walked code address
  pub fails : Fails m code v address
  pub before : (b : ℕ) → Walked code b → b < address → Fine m code b

abbrev pub is_accepted : CheckAnswer → Bool
is_accepted accepted = true
is_accepted (refused n a) = false

module _ (m : Marking) (code : List ℕ) where
  -- The answer from a walked address on, before which all is fine.
  walk_first : (most a : ℕ) → (a < length code → Walked code a) → ((b : ℕ) → Walked code b → b < a → Fine m code b)
      → (walk_from m code most a ≡ accepted) ⊎ FirstFailure m code (walk_from m code most a)
  unfolding walk_from verdict
  walk_first zero a w f = inl refl
  walk_first (suc most) a w f =
      go (leb (length code) a) (outside_code code a) (is_undecodable (bundle_at code a)) (keeps m (bundle_at code a)) refl refl refl refl (walk_first most (following_at code a))
    where
      answer : Bool → Bool → Bool → Bool → CheckAnswer
      answer t u v x = cond t accepted (refused_at (cond u (Err refusal.OutsideCode) (cond v (Err refusal.Undecodable) (Ok tt))) a (cond x (walk_from m code most (following_at code a)) (refused 9 a)))

      go : (t u v x : Bool) → leb (length code) a ≡ t → outside_code code a ≡ u → is_undecodable (bundle_at code a) ≡ v → keeps m (bundle_at code a) ≡ x
          → ((following_at code a < length code → Walked code (following_at code a)) → ((b : ℕ) → Walked code b → b < following_at code a → Fine m code b)
          → (walk_from m code most (following_at code a) ≡ accepted) ⊎ FirstFailure m code (walk_from m code most (following_at code a)))
          → (answer t u v x ≡ accepted) ⊎ FirstFailure m code (answer t u v x)
      go true u v x i j k l ih = inl refl
      go false true v x i j k l ih = inr (record { address = a; walked = w (leb-false _ _ i); fails = outside j; before = f })
      go false false true x i j k l ih = inr (record { address = a; walked = w (leb-false _ _ i); fails = undecodable j k; before = f })
      go false false false false i j k l ih = inr (record { address = a; walked = w (leb-false _ _ i); fails = breaking j k l; before = f })
      go false false false true i j k l ih = ih (λ h. later (w (leb-false _ _ i)) refl h) next
        where
          next : (b : ℕ) → Walked code b → b < following_at code a → Fine m code b
          next b v h = at (dec_lt b a) (dec_lt a b)
            where
              at : Dec (b < a) → Dec (a < b) → Fine m code b
              at (yes p) q = f b v p
              at (no p) (yes q) = absurd (omega (arith, walked_gap code (w (leb-false _ _ i)) v q, h))
              at (no p) (no q) =
                  let e : a ≡ b = omega (arith, p, q) in
                  subst (Fine m code) e (record { inside = j; decodable = k; keeping = l })

  -- An accepted walk from an address accepts the bundle there and, if enough addresses are left, the walk from the next one.
  walk_here : (most a : ℕ) → a < length code → length code < a + 4 * most → walk_from m code most a ≡ accepted
      → Fine m code a × ((n : ℕ) × (length code < following_at code a + 4 * n) × (walk_from m code n (following_at code a) ≡ accepted))
  unfolding walk_from verdict
  walk_here zero a p h e = absurd (omega arith)
  walk_here (suc most) a p h e = go (outside_code code a) (is_undecodable (bundle_at code a)) (keeps m (bundle_at code a)) refl refl refl (rw (lt-leb _ _ p) at e)
    where
      go : (u v x : Bool) → outside_code code a ≡ u → is_undecodable (bundle_at code a) ≡ v → keeps m (bundle_at code a) ≡ x
          → refused_at (cond u (Err refusal.OutsideCode) (cond v (Err refusal.Undecodable) (Ok tt))) a (cond x (walk_from m code most (following_at code a)) (refused 9 a)) ≡ accepted
          → Fine m code a × ((n : ℕ) × (length code < following_at code a + 4 * n) × (walk_from m code n (following_at code a) ≡ accepted))
      go true v x j k l f = absurd (false≢true (ap is_accepted f))
      go false true x j k l f = absurd (false≢true (ap is_accepted f))
      go false false false j k l f = absurd (false≢true (ap is_accepted f))
      go false false true j k l f =
          (record { inside = j; decodable = k; keeping = l }, (most, omega (arith, h, following_above code a), f))

  walk_reaches : {a : ℕ} → walk_from m code (length code / 4 + 1) 0 ≡ accepted → Walked code a
      → (n : ℕ) × (length code < a + 4 * n) × (walk_from m code n a ≡ accepted)
  walk_reaches e (first p) = (length code / 4 + 1, omega arith, e)
  walk_reaches e (later {a} {b} w q p) =
      let r = walk_reaches e w in
      let t = (walk_here r.0 a (walked_inside w) r.1 r.2).1 in
      (t.0, rw q t.1, rw q t.2)

  pub walk_fine : {a : ℕ} → walk_from m code (length code / 4 + 1) 0 ≡ accepted → Walked code a → Fine m code a
  walk_fine {a} e w = let r = walk_reaches e w in (walk_here r.0 a (walked_inside w) r.1 r.2).0

  -- It fails nowhere that is fine.
  fails_apart : {v : CheckAnswer} {a : ℕ} → Fails m code v a → Fine m code a → ⊥
  fails_apart (outside p) f = false≢true (sym f.inside ∙ p)
  fails_apart (undecodable p q) f = false≢true (sym f.decodable ∙ q)
  fails_apart (breaking p q r) f = false≢true (sym r ∙ f.keeping)

-- The check, under settings and a marking that refusal 1 lets pass, and under others.
module _ (x : Setup) (main local words : ℕ) (m : Marking) where
  pub checked_walk : passes x main local words m ≡ true → checked x main local words m ≡ walk_from m x.code (length x.code / 4 + 1) 0
  unfolding checked
  checked_walk p = rw p

  pub checked_first : passes x main local words m ≡ false → checked x main local words m ≡ refused 1 0
  unfolding checked
  checked_first p = rw p

  -- What it accepts passes refusal 1.
  pub accepted_passes : checked x main local words m ≡ accepted → passes x main local words m ≡ true
  accepted_passes e = go (passes x main local words m) refl
    where
      go : (t : Bool) → passes x main local words m ≡ t → t ≡ true
      go true p = refl
      go false p = absurd (false≢true (ap is_accepted (sym (checked_first p) ∙ e)))

  -- Every walked bundle of accepted code can be read and keeps the rules.
  pub accepted_fine : checked x main local words m ≡ accepted → (a : ℕ) → Walked x.code a → Fine m x.code a
  accepted_fine e a w = walk_fine m x.code (sym (checked_walk (accepted_passes e)) ∙ e) w

  -- Code all of whose walked bundles are so is accepted.
  pub fine_accepted : passes x main local words m ≡ true → ((a : ℕ) → Walked x.code a → Fine m x.code a)
      → checked x main local words m ≡ accepted
  fine_accepted p f = checked_walk p ∙ go (walk_first m x.code (length x.code / 4 + 1) 0 (λ h. first h) (λ b w h. f b w))
    where
      go : (walk_from m x.code (length x.code / 4 + 1) 0 ≡ accepted) ⊎ FirstFailure m x.code (walk_from m x.code (length x.code / 4 + 1) 0)
          → walk_from m x.code (length x.code / 4 + 1) 0 ≡ accepted
      go (inl e) = e
      go (inr r) = absurd (fails_apart m x.code r.fails (f r.address r.walked))

  -- Both: accepted if and only if every walked bundle is so.
  pub accepted_iff : passes x main local words m ≡ true
      → (checked x main local words m ≡ accepted) ↔ ((a : ℕ) → Walked x.code a → Fine m x.code a)
  accepted_iff p = (accepted_fine, fine_accepted p)

  -- Any other answer is the first failure's.
  pub checked_failure : passes x main local words m ≡ true → is_accepted (checked x main local words m) ≡ false
      → FirstFailure m x.code (checked x main local words m)
  checked_failure p q = rw (checked_walk p) (go (walk_first m x.code (length x.code / 4 + 1) 0 (λ h. first h) (λ b w h. absurd (omega (arith, h)))))
    where
      go : (walk_from m x.code (length x.code / 4 + 1) 0 ≡ accepted) ⊎ FirstFailure m x.code (walk_from m x.code (length x.code / 4 + 1) 0)
          → FirstFailure m x.code (walk_from m x.code (length x.code / 4 + 1) 0)
      go (inl e) = absurd (false≢true (sym q ∙ ap is_accepted (checked_walk p ∙ e)))
      go (inr r) = r
