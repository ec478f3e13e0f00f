-- What the machine reads back from the bits of a signed number.
use Rattle.std.specs.Prelude.{cond, nat_lt, ◌%◌, ◌*◌, ◌+◌, ◌≤◌, ℕ, zero, refl, Bool}
use Rattle.std.proofs.Common.{◌≡◌, suc, ◌-◌, ◌^◌, ◌<◌, true, false, ℤ, pos, negsuc, ◌∙◌, ap, arith, w32, w64, SFits, to_z, of_z, ltb-true, ltb-false, lt_of_lt_of_le, pow_mono, sub-one}
use Rattle.std.proofs.Math.Nat.{two-pow-succ, mod-eq_of_lt}
use lib.Signed.{mag}
use mir.ValLaws.{to_z_pos, to_z-neg, to_z-of_z}
use Rattle.word.specs.Word.{signed, sign_extend}

-- A word's cast is its signed reading.
pub signed_cast : (a : ℕ) → a < 2 ^ 32 → to_z w32 a ≡ signed 32 a
unfolding signed
signed_cast a p = go (nat_lt a (2 ^ 31)) refl
  where
    go : (t : Bool) → nat_lt a (2 ^ 31) ≡ t → to_z w32 a ≡ cond t (pos a) (negsuc (2 ^ 32 - suc a))
    go true e = to_z_pos w32 a (ltb-true _ _ e)
    go false e =
        let q = ltb-false a (2 ^ 31) e in
        let back : a ≡ 2 ^ 32 - suc (2 ^ 32 - suc a) = omega arith in
        ap (to_z w32) back ∙ to_z-neg w32 (2 ^ 32 - suc a) (omega arith)

-- No bits are 0, and 32 or more are the word.
pub extend_none : (k n : ℕ) → k ≡ 0 → 0 ≡ sign_extend k n
unfolding signed sign_extend
extend_none k n e =
    let low : n % 2 ^ k ≡ 0 = rw e (omega arith) in
    rw (low, e)

pub extend_all : (k n : ℕ) → 32 ≤ k → n < 2 ^ 32 → n ≡ sign_extend k n
unfolding signed sign_extend
extend_all k n p q =
    let low : n % 2 ^ k ≡ n = mod-eq_of_lt (lt_of_lt_of_le q (pow_mono {i = 32} {j = k} p)) in
    rw low (go (nat_lt n (2 ^ (k - 1))) refl (nat_lt 32 k) refl)
  where
    go : (t : Bool) → nat_lt n (2 ^ (k - 1)) ≡ t → (u : Bool) → nat_lt 32 k ≡ u → n ≡ of_z w32 (cond t (pos n) (negsuc (2 ^ k - suc n)))
    go true e u f = refl
    go false e true f = absurd (omega (arith, ltb-false n (2 ^ (k - 1)) e, pow_mono {i = 32} {j = k - 1} (omega (arith, ltb-true 32 k f))))
    go false e false f =
        let is : k ≡ 32 = omega (arith, ltb-false 32 k f) in
        rw is (omega arith)

-- Half of what k bits count, as the machine has it.
pub half_of : (k : ℕ) → k < 32 → 1 * 2 ^ (k - 1) % 4294967296 ≡ 2 ^ (k - 1)
half_of k p = omega (arith, pow_mono {i = k - 1} {j = 30} (omega arith))

pub half_fits : (k : ℕ) → k < 32 → 2 ^ (k - 1) + 2 ^ (k - 1) < 2 ^ 32
half_fits k p = omega (arith, pow_mono {i = k - 1} {j = 30} (omega arith))

pub halves : (k : ℕ) → (k ≡ 0 → ⊥) → 2 ^ (k - 1) + 2 ^ (k - 1) ≡ 2 ^ k
halves zero f = absurd (f refl)
halves (suc k) f = rw sub-one (omega (arith, two-pow-succ k))

-- An `i32` from a call is its number again, also after a cast to `i64`.
pub reread : (z : ℤ) → mag z < 2 ^ 31 → to_z w32 (of_z w32 z) ≡ z
reread z p = to_z-of_z w32 z (record { sfits = p })

pub wider : (z : ℤ) → mag z < 2 ^ 31 → SFits w64 (to_z w32 (of_z w32 z))
wider z p = rw (reread z p) (record { sfits = omega arith })

pub widened : (z : ℤ) → mag z < 2 ^ 31 → to_z w64 (of_z w64 (to_z w32 (of_z w32 z))) ≡ z
widened z p = to_z-of_z w64 (to_z w32 (of_z w32 z)) (wider z p) ∙ reread z p
