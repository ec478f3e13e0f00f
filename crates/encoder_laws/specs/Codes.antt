-- The codes of `Fields` and the tables of isa undo each other, and so do the numbers of predicates, of bits and of two's complement.
use Rattle.std.specs.Prelude.{ℕ, zero, suc, ◌+◌, ◌-◌, ◌/◌, ◌%◌, ◌^◌, ◌<◌, Bool, true, false, cond, List, [], ◌∷◌, ◌≡◌, refl, eqb, ltb, ℤ, pos, negsuc, Option, Some, IfSome}
use Rattle.std.proofs.Common.{sym, ap, subst, sub-one, arith, ltb-true, ltb-false, lt-ltb, le-ltb, eqb-true}
use Rattle.std.proofs.Math.Nat.{two-pow-succ}
use Rattle.std.proofs.lemmas.Bool.{eqb-false}
use Rattle.word.specs.Word.{signed}
use Rattle.isa.specs.Format.{Row, row}
use Rattle.isa.specs.Formats.{is_set, predicate_operand}
use Rattle.isa.specs.Tables.{alu_table, multiply_table, compare_table, predicate_table, special_table, kind_table, load_table, store_table}
use Rattle.isa.specs.TableLaws.{row_used}
use Rattle.decoder_laws.specs.RangeLaws.{◌also◌}
use Rattle.fields.specs.CodeLaws.{alu_row_lem, multiply_row_lem, compare_row_lem, predicate_row_lem, special_row_lem, kind_row, load_row, store_row}
use Rattle.fields.specs.Fields.{alu_code, multiply_code, compare_code, predicate_code, special_code, kind_code, load_code, store_code, bit, operand_number, twos_complement}
use Rattle.isa.specs.declared.PredicateOperand.{PredicateOperand}

abbrev pub Each : {A : Type 0} → (Row A → Type 0) → List (Row A) → Type 0
Each Q [] = Unit {0}
Each Q (r ∷ rs) = Q r × Each Q rs

-- What holds of each row, with its code, holds of what a table has for a code.
pub row_back : {A B : Type 0} (Q : ℕ → B → Type 0) (t : List (Row A)) (n : ℕ) (make : A → Option B)
    → Each (λ r. IfSome (make r.value) (Q r.code)) t → IfSome (row t n make) (Q n)
unfolding row
row_back Q [] n make s = tt
row_back Q (r ∷ rs) n make s = go (eqb n r.code) refl (row_back Q rs n make s.1)
  where
    go : (t : Bool) → eqb n r.code ≡ t → IfSome (row rs n make) (Q n) → IfSome (cond t (make r.value) (row rs n make)) (Q n)
    go true e q = subst (λ (c : ℕ). IfSome (make r.value) (Q c)) (sym (eqb-true n r.code e)) s.0
    go false e q = q

-- A table and the codes of its values undo each other: the code of each row's value is the row's code, and each value has a row.
pub record Inverse {A : Type 0} (t : List (Row A)) (code : A → ℕ) : Type 0 where
  pub codes : Each (λ r. code r.value ≡ r.code) t
  pub has : (a : A) → row t (code a) Some ≡ Some a

pub row_coded : {A B : Type 0} {t : List (Row A)} {code : A → ℕ} → Inverse t code → (Q : ℕ → B → Type 0) (n : ℕ) (make : A → Option B)
    → ((a : A) → IfSome (make a) (Q (code a))) → IfSome (row t n make) (Q n)
row_coded {A} {t = t} {code = code} v Q n make q = row_back Q t n make (go t v.codes)
  where
    go : (t : List (Row A)) → Each (λ r. code r.value ≡ r.code) t → Each (λ r. IfSome (make r.value) (Q r.code)) t
    go [] c = tt
    go (r ∷ rs) c = (subst (λ (x : ℕ). IfSome (make r.value) (Q x)) c.0 (q r.value), go rs c.1)

pub row_of : {A B : Type 0} {t : List (Row A)} {code : A → ℕ} → Inverse t code → (a : A) (make : A → Option B)
    → row t (code a) make ≡ make a
row_of {t = t} {code = code} v a make = row_used t (code a) make a (v.has a)

pub alu_inverse : Inverse alu_table alu_code
alu_inverse = record {
  codes = refl also refl also refl also refl also refl also refl also refl also refl also refl also refl also refl also tt;
  has = λ x. alu_row_lem x Some;
}

pub multiply_inverse : Inverse multiply_table multiply_code
multiply_inverse = record { codes = refl also refl also tt; has = λ x. multiply_row_lem x Some }

pub compare_inverse : Inverse compare_table compare_code
compare_inverse = record { codes = refl also refl also refl also refl also refl also refl also refl also tt; has = λ x. compare_row_lem x Some }

pub predicate_inverse : Inverse predicate_table predicate_code
predicate_inverse = record { codes = refl also refl also refl also tt; has = λ x. predicate_row_lem x Some }

pub special_inverse : Inverse special_table special_code
special_inverse = record {
  codes = refl also refl also refl also refl also refl also refl also refl also refl also refl also tt;
  has = λ x. special_row_lem x Some;
}

pub kind_inverse : Inverse kind_table kind_code
kind_inverse = record { codes = refl also refl also refl also refl also tt; has = λ x. kind_row x Some }

pub load_inverse : Inverse load_table load_code
load_inverse = record { codes = refl also refl also refl also refl also refl also tt; has = λ x. load_row x Some }

pub store_inverse : Inverse store_table store_code
store_inverse = record { codes = refl also refl also refl also tt; has = λ x. store_row x Some }

-- One bit.
pub bit_back : (n : ℕ) → n < 2 → bit (is_set n) ≡ n
bit_back zero h = refl
bit_back (suc zero) h = refl
bit_back (suc (suc n)) h = absurd (omega arith)

-- Four bits of a predicate operand: a number that is none of them says that the predicate is none.
pub operand_back : (n : ℕ) → n < 16 → operand_number (predicate_operand n) ≡ n
operand_back n h = rw (lt-ltb (n % 8) 8 (omega arith)) (go (is_set (n / 8)) refl)
  where
    go : (t : Bool) → is_set (n / 8) ≡ t → cond t 8 0 + n % 8 ≡ n
    go true e = omega (arith, eqb-true (n / 8) 1 e)
    go false e = omega (arith, eqb-false (n / 8) 1 e)

pub operand_forth : (p : PredicateOperand) → operand_number p < 16 → predicate_operand (operand_number p) ≡ p
operand_forth p = go p.negated p.predicate (ltb p.predicate 8) refl
  where
    go : (t : Bool) (n : ℕ) (u : Bool) → ltb n 8 ≡ u → cond u (cond t 8 0 + n) 16 < 16
        → predicate_operand (cond u (cond t 8 0 + n) 16) ≡ record { negated = t; predicate = n }
    go t n false e h = absurd (omega arith)
    go true n true e h =
        let q = ltb-true n 8 e in
        let x : (8 + n) / 8 ≡ 1 = omega arith in
        let y : (8 + n) % 8 ≡ n = omega arith in
        λ i. record { negated = is_set (x i); predicate = y i }
    go false n true e h =
        let q = ltb-true n 8 e in
        let x : (0 + n) / 8 ≡ 0 = omega arith in
        let y : (0 + n) % 8 ≡ n = omega arith in
        λ i. record { negated = is_set (x i); predicate = y i }

-- Two's complement at k bits.
half : (k : ℕ) → 0 < k → 2 ^ k ≡ 2 ^ (k - 1) + 2 ^ (k - 1)
half zero h = absurd (omega arith)
half (suc k) h = rw sub-one (omega (arith, two-pow-succ k))

pub signed_back : (k n : ℕ) → 0 < k → n < 2 ^ k → twos_complement k (signed k n) ≡ n
unfolding signed
signed_back k n z h = go (ltb n (2 ^ (k - 1))) refl
  where
    go : (t : Bool) → ltb n (2 ^ (k - 1)) ≡ t → twos_complement k (cond t (pos n) (negsuc (2 ^ k - suc n))) ≡ n
    go true e = rw e refl
    go false e = rw (lt-ltb (2 ^ k - suc n) (2 ^ (k - 1)) (omega (arith, ltb-false n (2 ^ (k - 1)) e, half k z))) (omega arith)

pub signed_forth : (k : ℕ) (z : ℤ) → 0 < k → twos_complement k z < 2 ^ k → signed k (twos_complement k z) ≡ z
unfolding signed
signed_forth k (pos n) z = go (ltb n (2 ^ (k - 1))) refl
  where
    go : (t : Bool) → ltb n (2 ^ (k - 1)) ≡ t → cond t n (2 ^ k) < 2 ^ k → signed k (cond t n (2 ^ k)) ≡ pos n
    go true e h = rw e refl
    go false e h = absurd (omega arith)
signed_forth k (negsuc m) z = go (ltb m (2 ^ (k - 1))) refl
  where
    go : (t : Bool) → ltb m (2 ^ (k - 1)) ≡ t → cond t (2 ^ k - suc m) (2 ^ k) < 2 ^ k
        → signed k (cond t (2 ^ k - suc m) (2 ^ k)) ≡ negsuc m
    go true e h = let q = ltb-true m (2 ^ (k - 1)) e in
        rw (le-ltb (2 ^ k - suc m) (2 ^ (k - 1)) (omega (arith, half k z))) (ap negsuc (omega (arith, half k z)))
    go false e h = absurd (omega arith)
