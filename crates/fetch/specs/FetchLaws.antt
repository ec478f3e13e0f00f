-- What a fetch tells, by its answer.
use Rattle.std.specs.Prelude.{ℕ, ◌≤◌, Bool, not, cond, List, length, Ok, Err}
use Rattle.std.proofs.Math.Bool.{true, false}
use Rattle.std.proofs.Math.Path.{◌≡◌, refl, ap}
use Rattle.std.proofs.Common.{subst, arith, ltb-false}
use Rattle.answers.specs.declared.Refusal.TheVariants as refusal
use Rattle.answers.specs.declared.Refusal.{Refusal}
use Rattle.answers.specs.Refusal.{number}
use Rattle.answers.specs.Test.{Verdict, verdict}
use Rattle.answers.specs.TestLaws.{fine_applies}
use Rattle.word.specs.Word.{is_multiple_of4}
use Rattle.word.specs.BoolLaws.{or_right}
use Rattle.isa.specs.declared.Bundle.{Bundle}
use Rattle.fetch.specs.declared.Fetched.{Fetched}
use Rattle.fetch.specs.Fetch.{bundle_at, following_at, outside_code, is_undecodable, fetch_tests, fetching, fetched_unless, fetched}

-- A bundle that lies in the code ends there.
pub inside_end : (code : List ℕ) (a : ℕ) → outside_code code a ≡ false → following_at code a ≤ length code
unfolding outside_code
inside_end code a e = ltb-false _ _ (or_right (not (is_multiple_of4 a)) _ e)

module _ (code : List ℕ) (a : ℕ) where
  -- By the two tests.
  pub fetched_outside : outside_code code a ≡ true → fetched code a ≡ Err refusal.OutsideCode
  unfolding fetched verdict
  fetched_outside p = rw p

  pub fetched_undecodable : outside_code code a ≡ false → is_undecodable (bundle_at code a) ≡ true → fetched code a ≡ Err refusal.Undecodable
  unfolding fetched verdict
  fetched_undecodable p q = rw (p, q)

  pub fetched_found : outside_code code a ≡ false → is_undecodable (bundle_at code a) ≡ false → fetched code a ≡ Ok (fetching (bundle_at code a) (following_at code a))
  unfolding fetched verdict
  fetched_found p q = rw (p, q)

  -- What is refused is refused by the verdict on the tests.
  pub refused_verdict : (r : Refusal) → fetched code a ≡ Err r → verdict (fetch_tests code a) ≡ Err r
  unfolding fetched
  refused_verdict r = go (verdict (fetch_tests code a))
    where
      go : (v : Verdict) → fetched_unless v (bundle_at code a) (following_at code a) ≡ Err r → v ≡ Err r
      go (Ok u) e = cc
      go (Err m) e = let k : m ≡ r = cc in ap Err k

  -- What is found passed both tests, and is the bundle there with the address that follows.
  pub found_verdict : (f : Fetched) → fetched code a ≡ Ok f → verdict (fetch_tests code a) ≡ Ok tt
  unfolding fetched
  found_verdict f = go (verdict (fetch_tests code a))
    where
      go : (v : Verdict) → fetched_unless v (bundle_at code a) (following_at code a) ≡ Ok f → v ≡ Ok tt
      go (Ok u) e = refl
      go (Err m) e = cc

  pub found_bundle : (f : Fetched) → fetched code a ≡ Ok f → (bundle_at code a ≡ f.bundle) × (following_at code a ≡ f.following)
  unfolding fetched
  found_bundle f = go (verdict (fetch_tests code a))
    where
      go : (v : Verdict) → fetched_unless v (bundle_at code a) (following_at code a) ≡ Ok f → (bundle_at code a ≡ f.bundle) × (following_at code a ≡ f.following)
      go (Ok u) e =
          let same : fetching (bundle_at code a) (following_at code a) ≡ f = cc in
          (ap (λ (y : Fetched). y.bundle) same, ap (λ (y : Fetched). y.following) same)
      go (Err m) e = (cc, cc)

  -- What is found ends in the code.
  pub found_inside : (f : Fetched) → fetched code a ≡ Ok f → f.following ≤ length code
  found_inside f e = subst (λ (n : ℕ). n ≤ length code) (found_bundle f e).1 (inside_end code a (fine_applies 2 (fetch_tests code a) (found_verdict f e)))

  -- It is refused with 2 or 3.
  pub refused_small : (r : Refusal) → fetched code a ≡ Err r → number r ≤ 3
  unfolding fetched verdict
  refused_small r = go (outside_code code a) (is_undecodable (bundle_at code a))
    where
      go : (u v : Bool) → fetched_unless (cond u (Err refusal.OutsideCode) (cond v (Err refusal.Undecodable) (Ok tt))) (bundle_at code a) (following_at code a) ≡ Err r → number r ≤ 3
      go true v e = let k : refusal.OutsideCode ≡ r = cc in subst (λ (y : Refusal). number y ≤ 3) k (omega arith)
      go false true e = let k : refusal.Undecodable ≡ r = cc in subst (λ (y : Refusal). number y ≤ 3) k (omega arith)
      go false false e = cc
