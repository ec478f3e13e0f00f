-- Laws about rows and fields, by which the functions that read formats are joined.
use Rattle.std.specs.Prelude.{ℕ, ◌/◌, ◌%◌, Bool, true, false, cond, List, [], ◌∷◌, ◌≡◌, refl, eqb, Option, None, Some, option_and_then}
use Rattle.std.proofs.Common.{arith}
use Rattle.isa.specs.Format.{Row, row}
use Rattle.isa.specs.Formats.{applied}
use Rattle.isa.specs.declared.AluOperation.{AluOperation}

-- what is made of a row is made of the value found there
pub row_then : {A B : Type 0} (t : List (Row A)) (n : ℕ) (k : A → Option B) → row t n k ≡ option_and_then k (row t n Some)
unfolding row
row_then [] n k = refl
row_then {A} {B} (r ∷ rs) n k = go (eqb n r.code) (row_then rs n k)
  where
    go : (t : Bool) → row rs n k ≡ option_and_then k (row rs n Some)
        → cond t (k r.value) (row rs n k) ≡ option_and_then k (cond t (Some r.value) (row rs n Some))
    go true e = refl
    go false e = e

-- the same where the table was asked before
pub row_unused : {A B : Type 0} (t : List (Row A)) (n : ℕ) (k : A → Option B) → row t n Some ≡ None → row t n k ≡ None
row_unused t n k e = rw (row_then, e)

pub row_used : {A B : Type 0} (t : List (Row A)) (n : ℕ) (k : A → Option B) (a : A) → row t n Some ≡ Some a → row t n k ≡ k a
row_used t n k a e = rw (row_then, e)

pub ruleset rows = (row_unused, row_used)

pub row_applied : {A : Type 0} (t : List (Row A)) (n : ℕ) (k : A → ℕ → AluOperation) (m : ℕ) → applied (row t n (λ a. Some (k a))) m ≡ row t n (λ a. Some (k a m))
unfolding row
row_applied [] n k m = refl
row_applied {A} (r ∷ rs) n k m = go (eqb n r.code) (row_applied rs n k m)
  where
    go : (t : Bool) → applied (row rs n (λ a. Some (k a))) m ≡ row rs n (λ a. Some (k a m))
        → applied (cond t (Some (k r.value)) (row rs n (λ a. Some (k a)))) m ≡ cond t (Some (k r.value m)) (row rs n (λ a. Some (k a m)))
    go true e = refl
    go false e = e

-- the parts of the opcode that CFLi and the CFLr formats fix
pub upper_opcode : (w : ℕ) → w / 33554432 % 4 ≡ (w / 4194304 % 32) / 8
upper_opcode w = omega arith

pub flow_opcode : (w : ℕ) → w / 8388608 % 16 ≡ (w / 4194304 % 32) / 2
flow_opcode w = omega arith
