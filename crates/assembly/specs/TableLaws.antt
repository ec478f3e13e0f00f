-- Laws of the table, one form at a time.
use Rattle.std.specs.Prelude.{ℕ, zero, suc, ◌+◌, ◌-◌, ◌≤◌, ◌<◌, ◌≡◌, refl, Option, Some, Bool, true, false, cond, List, [], ◌∷◌, eqb, length, drop, get_or}
use Rattle.std.proofs.Common.{◌∙◌, arith, drop_of_length-le, drop-cons}
use Rattle.std.proofs.Math.Numerals.{add-one}
use borrow.Author.Tests.{lt-ltb, le-ltb}
use Rattle.text.specs.Table.{row_from, is_met, met}
use Rattle.assembly.specs.Forms.{forms, sizes, mnemonic_from, start_of}
use Rattle.assembly.specs.declared.Mnemonic.{Mnemonic}

abbrev pub mnemonic : ℕ → ℕ → Mnemonic
mnemonic k r = record { form = k; function = r }

module _ (ns : List ℕ) (i k r : ℕ) where
  pub mnemonic_here : i < length ns → r < get_or ns i 0 → mnemonic k r ≡ mnemonic_from k (drop i ns) r
  unfolding mnemonic_from
  mnemonic_here h e = rw (drop-cons ns i 0 h, lt-ltb r (get_or ns i 0) e)

  pub mnemonic_next : i < length ns → get_or ns i 0 ≤ r → mnemonic_from (k + 1) (drop (i + 1) ns) (r - get_or ns i 0) ≡ mnemonic_from k (drop i ns) r
  unfolding mnemonic_from
  mnemonic_next h e = rw (drop-cons ns i 0 h, le-ltb r (get_or ns i 0) e, add-one i)

  pub mnemonic_none : length ns ≤ i → mnemonic k r ≡ mnemonic_from k (drop i ns) r
  unfolding mnemonic_from
  mnemonic_none h = rw (drop_of_length-le ns {i = i} h)

start_zero : (ns : List ℕ) → start_of ns 0 ≡ 0
unfolding start_of
start_zero [] = refl
start_zero (n ∷ ns) = refl

start_suc : (n k : ℕ) (ns : List ℕ) → 0 < k → start_of (n ∷ ns) k ≡ n + start_of ns (k - 1)
unfolding start_of
start_suc n zero ns h = absurd (omega arith)
start_suc n (suc k) ns h =
    let e : suc k - 1 ≡ k = omega arith in
    rw e

pub start_here : (ns : List ℕ) (i k : ℕ) → i ≡ k → start_of (drop i ns) (k - i) ≡ 0
start_here ns i k e =
    let z : k - i ≡ 0 = omega arith in
    rw z (start_zero (drop i ns))

pub start_next : (ns : List ℕ) (i k : ℕ) → i < length ns → i < k
    → start_of (drop i ns) (k - i) ≡ get_or ns i 0 + start_of (drop (i + 1) ns) (k - (i + 1))
start_next ns i k h less =
    let e : k - i - 1 ≡ k - (i + 1) = omega arith in
    rw (drop-cons ns i 0 h)
    (start_suc (get_or ns i 0) (k - i) (drop (suc i) ns) (omega arith) ∙ rw (e, add-one i))

pub start_end : (ns : List ℕ) (i k : ℕ) → length ns ≤ i → start_of (drop i ns) k ≡ 0
unfolding start_of
start_end ns i k h = rw (drop_of_length-le ns {i = i} h)

pub start_within : (ns : List ℕ) (k : ℕ) → start_of ns k ≤ start_of ns (length ns)
unfolding start_of
start_within [] k = omega arith
start_within (n ∷ ns) zero = omega arith
start_within (n ∷ ns) (suc k) =
    let e = start_within ns k in
    omega arith

-- All rows of the table are 121.
pub all_rows : (form : ℕ) → start_of (sizes forms) form ≤ 121
unfolding start_of sizes forms
all_rows form = start_within (sizes forms) form

-- What stands within a list is the same whatever stands for what is behind its end.
pub get_or_within : (l : List ℕ) (i d e : ℕ) → i < length l → get_or l i d ≡ get_or l i e
get_or_within [] i d e h = absurd (omega arith)
get_or_within (x ∷ l) zero d e h = refl
get_or_within (x ∷ l) (suc i) d e h = get_or_within l i d e (omega arith)

-- A row is not behind the table's end.
pub row_within : (t s : List ℕ) (left : Option (List ℕ)) → row_from t s left ≤ length t
unfolding row_from
row_within [] s left = omega arith
row_within (b ∷ t) s left = go (eqb b 10) (is_met left) (row_within t s (Some s)) (row_within t s (met left b))
  where
    go : (x y : Bool) → row_from t s (Some s) ≤ length t → row_from t s (met left b) ≤ length t
        → cond x (cond y 0 (suc (row_from t s (Some s)))) (row_from t s (met left b)) ≤ suc (length t)
    go true true p q = omega arith
    go true false p q = omega arith
    go false y p q = omega arith
