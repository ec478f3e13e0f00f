-- The walk one bundle at a time, as a loop takes it: what it gives with no bundle left, at the code's end, at a bundle that fails,
-- and past one that is fine.
use Prim.Native.Nat.{ℕ, zero, suc, ◌-◌, ◌<◌, ◌≤◌}
use Rattle.std.proofs.Math.Bool.{true, false}
use Rattle.std.specs.Prelude.{List, ◌≡◌, length, Ok, Err}
use Rattle.std.proofs.Math.Path.{refl, ap}
use Rattle.std.proofs.Common.{◌∙◌, sub-one, arith, le-leb}
use Rattle.std.proofs.lemmas.Bool.{lt-leb}
use Rattle.answers.specs.declared.Refusal.{Refusal}
use Rattle.answers.specs.Refusal.{number}
use Rattle.fetch.specs.declared.Fetched.{Fetched}
use Rattle.fetch.specs.Fetch.{bundle_at, following_at, fetched}
use Rattle.fetch.specs.FetchLaws.{refused_verdict, found_verdict, found_bundle}
use Rattle.marking.specs.declared.Marking.{Marking}
use Rattle.marking_rules.specs.Rules.{keeps}
use Rattle.single_path.specs.Check.{accepted, refused, walk_from}

module _ (m : Marking) (code : List ℕ) where
  pub walk_none : (most a : ℕ) → most ≤ 0 → walk_from m code most a ≡ accepted
  unfolding walk_from
  walk_none zero a p = refl
  walk_none (suc most) a p = absurd (omega arith)

  pub walk_end : (most a : ℕ) → length code ≤ a → walk_from m code most a ≡ accepted
  unfolding walk_from
  walk_end zero a p = refl
  walk_end (suc most) a p = rw (le-leb _ _ p)

  pub walk_refused : (most a : ℕ) (r : Refusal) → 0 < most → a < length code → fetched code a ≡ Err r → walk_from m code most a ≡ refused (number r) a
  unfolding walk_from
  walk_refused zero a r p q e = absurd (omega arith)
  walk_refused (suc most) a r p q e = rw (lt-leb _ _ q, refused_verdict code a r e)

  module _ (most a : ℕ) (f : Fetched) (e : fetched code a ≡ Ok f) where
    pub walk_broken : 0 < most → a < length code → keeps m f.bundle ≡ false → walk_from m code most a ≡ refused 9 a
    unfolding walk_from
    walk_broken p q h = go most p (ap (keeps m) (found_bundle code a f e).0 ∙ h)
      where
        go : (n : ℕ) → 0 < n → keeps m (bundle_at code a) ≡ false → walk_from m code n a ≡ refused 9 a
        go zero r k = absurd (omega arith)
        go (suc n) r k = rw (lt-leb _ _ q, found_verdict code a f e, k)

    pub walk_next : 0 < most → a < length code → keeps m f.bundle ≡ true → walk_from m code most a ≡ walk_from m code (most - 1) f.following
    unfolding walk_from
    walk_next p q h = go most p (ap (keeps m) (found_bundle code a f e).0 ∙ h) ∙ ap (walk_from m code (most - 1)) (found_bundle code a f e).1
      where
        go : (n : ℕ) → 0 < n → keeps m (bundle_at code a) ≡ true → walk_from m code n a ≡ walk_from m code (n - 1) (following_at code a)
        go zero r k = absurd (omega arith)
        go (suc n) r k = rw (lt-leb _ _ q, found_verdict code a f e, k, sub-one)
