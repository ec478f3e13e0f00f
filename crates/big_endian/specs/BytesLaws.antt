-- Laws of the numbers in a list of bytes, for every width k.
use Rattle.std.specs.Prelude.{ℕ, zero, suc, ◌+◌, ◌-◌, ◌*◌, ◌/◌, ◌%◌, ◌^◌, ◌<◌, ◌≤◌, ◌≡◌, refl, List, [], ◌∷◌, ◌⊎◌, length, get_or, set}
use Rattle.std.proofs.Common.{sym, ap, ◌∙◌, inl, inr, arith, add-one, sub-one, add-zero, zero-add, pow-suc, length-set, get_or-set_same, get_or-set_other}
use Rattle.std.proofs.lemmas.List.{set_comm}
use Rattle.std.proofs.Math.Nat.{one-le-pow, div-div-eq-div-mul}
use Rattle.std.proofs.Math.Arith.{mod-mul}
use Rattle.big_endian.specs.Bytes.{number_at, put_number}

-- One byte more read, and the last one put first: the turns of the loops over a number's bytes.
pub number_next : (k : ℕ) (l : List ℕ) (a v b : ℕ) → v ≡ number_at k l a → b ≡ get_or l (a + k) 0 → v * 256 + b ≡ number_at (k + 1) l a
unfolding number_at
number_next k l a v b p q = rw (add-one, p, q)

put_set : (k : ℕ) (l : List ℕ) (a j n v : ℕ) → a + k ≤ j → put_number k (set l j v) a n ≡ set (put_number k l a n) j v
unfolding put_number
put_set zero l a j n v p = refl
put_set (suc k) l a j n v p =
    ap (λ (m : List ℕ). set m (a + k) (n % 256)) (put_set k l a j (n / 256) v (omega arith))
    ∙ set_comm (put_number k l a (n / 256)) j (a + k) v (n % 256) (λ e. omega arith)

pub put_last : (k : ℕ) (l : List ℕ) (a n : ℕ) → 0 < k → put_number (k - 1) (set l (a + (k - 1)) (n % 256)) a (n / 256) ≡ put_number k l a n
unfolding put_number
put_last zero l a n p = absurd (omega arith)
put_last (suc k) l a n p = rw sub-one (put_set k l a (a + k) (n / 256) (n % 256) (omega arith))

pub put_none : (k : ℕ) (l : List ℕ) (a n : ℕ) → k ≤ 0 → put_number k l a n ≡ l
unfolding put_number
put_none zero l a n p = refl
put_none (suc k) l a n p = absurd (omega arith)

-- The widths of the loads and stores, byte by byte.
pub number_1 : (l : List ℕ) (a : ℕ) → number_at 1 l a ≡ get_or l a 0
unfolding number_at
number_1 l a = rw add-zero (zero-add (get_or l a 0))

pub number_2 : (l : List ℕ) (a : ℕ) → number_at 2 l a ≡ get_or l a 0 * 256 + get_or l (a + 1) 0
unfolding number_at
number_2 l a = rw (add-zero, zero-add (get_or l a 0))

pub number_4 : (l : List ℕ) (a : ℕ) → number_at 4 l a ≡ ((get_or l a 0 * 256 + get_or l (a + 1) 0) * 256 + get_or l (a + 2) 0) * 256 + get_or l (a + 3) 0
unfolding number_at
number_4 l a = rw (add-zero, zero-add (get_or l a 0))

pub put_1 : (l : List ℕ) (a n : ℕ) → put_number 1 l a n ≡ set l a (n % 256)
unfolding put_number
put_1 l a n = rw add-zero

pub put_2 : (l : List ℕ) (a n : ℕ) → put_number 2 l a n ≡ set (set l a (n / 256 % 256)) (a + 1) (n % 256)
unfolding put_number
put_2 l a n = rw add-zero

pub put_4 : (l : List ℕ) (a n : ℕ) → put_number 4 l a n ≡ set (set (set (set l a (n / 16777216 % 256)) (a + 1) (n / 65536 % 256)) (a + 2) (n / 256 % 256)) (a + 3) (n % 256)
unfolding put_number
put_4 l a n = rw (add-zero, div-div-eq-div-mul n 256 256, div-div-eq-div-mul n 65536 256)

pub length_put_number : (k : ℕ) (l : List ℕ) (a n : ℕ) → length (put_number k l a n) ≡ length l
unfolding put_number
length_put_number zero l a n = refl
length_put_number (suc k) l a n = length-set (put_number k l a (n / 256)) (a + k) (n % 256) ∙ length_put_number k l a (n / 256)

-- A byte outside the k bytes from a on stays as it was.
pub byte_outside : (k : ℕ) (l : List ℕ) (a n i : ℕ) → (i < a) ⊎ (a + k ≤ i) → get_or (put_number k l a n) i 0 ≡ get_or l i 0
unfolding put_number
byte_outside zero l a n i p = refl
byte_outside (suc k) l a n i p =
    get_or-set_other (put_number k l a (n / 256)) (a + k) i (n % 256) 0 (λ e. apart e p) ∙ byte_outside k l a (n / 256) i (less p)
  where
    apart : i ≡ a + k → (i < a) ⊎ (a + suc k ≤ i) → ⊥
    apart e (inl q) = omega arith
    apart e (inr q) = omega arith

    less : (i < a) ⊎ (a + suc k ≤ i) → (i < a) ⊎ (a + k ≤ i)
    less (inl q) = inl q
    less (inr q) = inr (omega arith)

-- A number depends on the bytes of its range alone.
pub number_same : (k : ℕ) (l m : List ℕ) (a : ℕ) → ((i : ℕ) → a ≤ i → i < a + k → get_or l i 0 ≡ get_or m i 0) → number_at k l a ≡ number_at k m a
unfolding number_at
number_same zero l m a e = refl
number_same (suc k) l m a e =
    let last = e (a + k) (omega arith) (omega arith) in
    let rest = number_same k l m a (λ i p q. e i p (omega arith)) in
    rw (last, rest)

-- A number that was put is read again, by its low 8 k bits.
pub number_put : (k : ℕ) (l : List ℕ) (a n : ℕ) → a + k ≤ length l → number_at k (put_number k l a n) a ≡ n % 256 ^ k
unfolding number_at put_number
number_put zero l a n p = omega arith
number_put (suc k) l a n p =
    let t = put_number k l a (n / 256) in
    let before = number_same k (set t (a + k) (n % 256)) t a (λ i q r. get_or-set_other t (a + k) i (n % 256) 0 (λ e. omega arith)) ∙ number_put k l a (n / 256) (omega arith) in
    let last = get_or-set_same t (a + k) (n % 256) 0 (rw length_put_number (omega arith)) in
    rw (before, last, pow-suc) (sym (mod-mul n (one-le-pow k 256 (omega arith)) (omega arith)))

-- A number at another place stays as it was.
pub number_other : (j k : ℕ) (l : List ℕ) (a b n : ℕ) → (b + j ≤ a) ⊎ (a + k ≤ b) → number_at j (put_number k l a n) b ≡ number_at j l b
number_other j k l a b n p = number_same j (put_number k l a n) l b (λ i q r. byte_outside k l a n i (side i q r p))
  where
    side : (i : ℕ) → b ≤ i → i < b + j → (b + j ≤ a) ⊎ (a + k ≤ b) → (i < a) ⊎ (a + k ≤ i)
    side i q r (inl h) = inl (omega arith)
    side i q r (inr h) = inr (omega arith)

-- Bytes stay bytes where a byte is set, and where a number is put.
byte_set : (l : List ℕ) (i v : ℕ) → v < 256 → ((j : ℕ) → get_or l j 0 < 256) → (j : ℕ) → get_or (set l i v) j 0 < 256
byte_set [] i v p h j = h j
byte_set (x ∷ l) zero v p h zero = p
byte_set (x ∷ l) zero v p h (suc j) = h (suc j)
byte_set (x ∷ l) (suc i) v p h zero = h zero
byte_set (x ∷ l) (suc i) v p h (suc j) = byte_set l i v p (λ j. h (suc j)) j

pub bytes_put : (k : ℕ) (l : List ℕ) (a n : ℕ) → ((i : ℕ) → get_or l i 0 < 256) → (i : ℕ) → get_or (put_number k l a n) i 0 < 256
unfolding put_number
bytes_put zero l a n h = h
bytes_put (suc k) l a n h = byte_set (put_number k l a (n / 256)) (a + k) (n % 256) (omega arith) (bytes_put k l a (n / 256) h)

pub number_bound : (k : ℕ) (l : List ℕ) (a : ℕ) → ((i : ℕ) → get_or l i 0 < 256) → number_at k l a < 256 ^ k
unfolding number_at
number_bound zero l a h = omega arith
number_bound (suc k) l a h = rw pow-suc (omega (arith, number_bound k l a h, h (a + k)))

-- Of fewer than four bytes, so that a byte behind it makes a word.
pub number_small : (k : ℕ) (l : List ℕ) (a : ℕ) → k < 4 → ((i : ℕ) → get_or l i 0 < 256) → number_at k l a < 16777216
number_small k l a p h = omega (arith, number_bound k l a h, go k p)
  where
    go : (k : ℕ) → k < 4 → 256 ^ k ≤ 16777216
    go zero p = omega arith
    go (suc zero) p = omega arith
    go (suc (suc zero)) p = omega arith
    go (suc (suc (suc zero))) p = omega arith
    go (suc (suc (suc (suc k)))) p = absurd (omega arith)
