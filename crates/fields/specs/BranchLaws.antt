-- The 22 bits of br's words, from its word of 32 bits.
use Rattle.std.specs.Prelude.{ℕ, suc, ◌-◌, ◌<◌, ◌≤◌, Bool, true, false, cond, ◌≡◌, refl, ltb, leb, ℤ, pos, negsuc}
use Rattle.std.proofs.Common.{arith, ltb-true, ltb-false, le-ltb, le-leb, SFits, of_z, to_z}
use Rattle.std.proofs.lemmas.Bool.{lt-leb}
use Rattle.std.specs.Int.{w32}
use Rattle.std.proofs.lemmas.Int.{to_z-of_z}
use Rattle.fields.specs.Fields.{twos_complement}

-- The low and the high words are those of numbers that 22 bits hold.
branch_word : (z : ℤ) → SFits w32 z
    → cond (ltb (of_z w32 z) 2097152) (of_z w32 z) (cond (leb 4292870144 (of_z w32 z)) (of_z w32 z - 4290772992) 4194304) ≡ twos_complement 22 z
branch_word (pos n) h = go (ltb n 2097152) refl
  where
    go : (t : Bool) → ltb n 2097152 ≡ t → cond t n (cond (leb 4292870144 n) (n - 4290772992) 4194304) ≡ cond t n 4194304
    go true e = refl
    go false e = rw (lt-leb 4292870144 n (omega (arith, h.sfits)))
branch_word (negsuc m) h = rw (le-ltb (4294967296 - suc m) 2097152 (omega (arith, h.sfits))) (go (ltb m 2097152) refl)
  where
    go : (t : Bool) → ltb m 2097152 ≡ t
        → cond (leb 4292870144 (4294967296 - suc m)) (4294967296 - suc m - 4290772992) 4194304 ≡ cond t (4194304 - suc m) 4194304
    go true e =
        let p : m < 2097152 = ltb-true m 2097152 e in
        rw (le-leb 4292870144 (4294967296 - suc m) (omega arith)) (omega arith)
    go false e =
        let p : 2097152 ≤ m = ltb-false m 2097152 e in
        rw (lt-leb 4292870144 (4294967296 - suc m) (omega (arith, h.sfits)))

-- The same of a word that was passed on as a signed number.
pub branch_number : (z : ℤ) → SFits w32 z → (n : ℕ) → n ≡ of_z w32 (to_z w32 (of_z w32 z))
    → cond (ltb n 2097152) n (cond (leb 4292870144 n) (n - 4290772992) 4194304) ≡ twos_complement 22 z
branch_number z h n e = rw (e, to_z-of_z w32 z h) (branch_word z h)
