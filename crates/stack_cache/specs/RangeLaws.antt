-- Laws of the loops that move words, and of the range in which the words lie.
use Rattle.std.specs.Prelude.{ℕ, zero, suc, ◌+◌, ◌-◌, ◌*◌, ◌%◌, ◌^◌, ◌<◌, ◌≤◌, ◌≡◌, refl, Bool, true, false, cond, ◌&&◌, ◌||◌, List, [], ◌∷◌, eqb, ltb, leb, length, get_or}
use Rattle.std.proofs.Common.{sym, ap, ◌∙◌, arith, ltb-true, ltb-false, leb-true, leb-false, le-leb}
use Rattle.std.proofs.Math.Bool.{and-false, or-true}
use Rattle.std.proofs.lemmas.Bool.{lt-leb}
use Rattle.std.proofs.Math.Dec.{eqb-suc-zero}
use Rattle.word.specs.Word.{add, sub}
use Rattle.word.specs.BoolLaws.{and_left, and_right}
use Rattle.stack_cache.specs.Stack.{below, spill_while, fill_while, in_area, every}
use Rattle.stack_cache.specs.Count.{inside}

-- What holds of every address of a list holds of each.
pub every_at : (allowed : ℕ → Bool) (l : List ℕ) → every allowed l ≡ true → (i : ℕ) → i < length l → allowed (get_or l i 0) ≡ true
unfolding every
every_at allowed [] e i p = absurd (omega arith)
every_at allowed (a ∷ l) e zero p = and_left (allowed a) (every allowed l) e
every_at allowed (a ∷ l) e (suc i) p = every_at allowed l (and_right (allowed a) (every allowed l) e) i (omega arith)

pub in_area_lem : (lo hi a : ℕ) → in_area lo hi a ≡ true → (lo ≤ a) × (a + 4 ≤ hi)
in_area_lem lo hi a e = (leb-true lo a (and_left (leb lo a) (leb (a + 4) hi) e), leb-true (a + 4) hi (and_right (leb lo a) (leb (a + 4) hi) e))

-- The loops' counts, where d words lie between st and ss.
pub spill_while_length : (most w d st ss : ℕ) → ss ≡ st + 4 * d → ss < 2 ^ 32 → d ≤ w + most → length (spill_while most w st ss) ≡ d - w
unfolding spill_while
spill_while_length zero w d st ss e p h = omega arith
spill_while_length (suc most) w d st ss e p h =
    go (ltb (4 * w) (ss - st)) refl (λ (t : w < d). spill_while_length most w (d - 1) st (sub ss 4) (omega arith) (omega arith) (omega arith))
  where
    go : (t : Bool) → ltb (4 * w) (ss - st) ≡ t → (w < d → length (spill_while most w st (sub ss 4)) ≡ d - 1 - w)
        → length (cond t (sub ss 4 ∷ spill_while most w st (sub ss 4)) []) ≡ d - w
    go true f i =
        let t : w < d = omega (arith, ltb-true (4 * w) (ss - st) f) in
        ap suc (i t) ∙ omega arith
    go false f i = omega (arith, ltb-false (4 * w) (ss - st) f)

pub fill_while_length : (most n d st ss : ℕ) → ss ≡ st + 4 * d → ss + 4 * (n - d) < 2 ^ 32 → n ≤ most + d → length (fill_while most n st ss) ≡ n - d
unfolding fill_while
fill_while_length zero n d st ss e p h = omega arith
fill_while_length (suc most) n d st ss e p h =
    go (ltb (ss - st) (4 * n)) refl (λ (t : d < n). fill_while_length most n (d + 1) st (add ss 4) (omega arith) (omega arith) (omega arith))
  where
    go : (t : Bool) → ltb (ss - st) (4 * n) ≡ t → (d < n → length (fill_while most n st (add ss 4)) ≡ n - (d + 1))
        → length (cond t (ss ∷ fill_while most n st (add ss 4)) []) ≡ n - d
    go true f i =
        let t : d < n = omega (arith, ltb-true (ss - st) (4 * n) f) in
        ap suc (i t) ∙ omega arith
    go false f i = omega (arith, ltb-false (ss - st) (4 * n) f)

-- A range of words with the word before it, and with the word after it.
inside_suc : (lo hi a k : ℕ) → inside lo hi a (suc k) ≡ leb lo a && leb (a + 4 * suc k) hi
inside_suc lo hi a k = rw (eqb-suc-zero k)

word_before : (lo hi a k : ℕ) → in_area lo hi a && inside lo hi (a + 4) k ≡ inside lo hi a (suc k)
word_before lo hi a k = go (leb lo a) refl ∙ sym (inside_suc lo hi a k)
  where
    last : (t : Bool) (k : ℕ) → leb (a + 4 + 4 * k) hi ≡ t → lo ≤ a → leb (a + 4) hi && (eqb k 0 || (leb lo (a + 4) && t)) ≡ t
    last true k e p = rw (le-leb (a + 4) hi (omega (arith, leb-true (a + 4 + 4 * k) hi e)), le-leb lo (a + 4) (omega arith)) (or-true (eqb k 0))
    last false zero e p = rw (lt-leb (a + 4) hi (omega (arith, leb-false (a + 4 + 4 * 0) hi e)))
    last false (suc k) e p = rw (eqb-suc-zero k, and-false (leb lo (a + 4))) (and-false (leb (a + 4) hi))

    sum : a + 4 * suc k ≡ a + 4 + 4 * k
    sum = omega arith

    go : (t : Bool) → leb lo a ≡ t → (t && leb (a + 4) hi) && inside lo hi (a + 4) k ≡ t && leb (a + 4 * suc k) hi
    go true e = rw sum (last (leb (a + 4 + 4 * k) hi) k refl (leb-true lo a e))
    go false e = refl

word_after : (lo hi a k : ℕ) → in_area lo hi (a + 4 * k) && inside lo hi a k ≡ inside lo hi a (suc k)
word_after lo hi a k = go (leb (a + 4 * k + 4) hi) refl ∙ ap (λ (n : ℕ). leb lo a && leb n hi) sum ∙ sym (inside_suc lo hi a k)
  where
    sum : a + 4 * k + 4 ≡ a + 4 * suc k
    sum = omega arith

    first : (t : Bool) (k : ℕ) → leb lo a ≡ t → (leb lo (a + 4 * k) && true) && (eqb k 0 || (t && true)) ≡ t && true
    first true k e = rw (le-leb lo (a + 4 * k) (omega (arith, leb-true lo a e))) (or-true (eqb k 0))
    first false zero e = rw (lt-leb lo (a + 4 * 0) (omega (arith, leb-false lo a e)))
    first false (suc k) e = rw (eqb-suc-zero k) (and-false (leb lo (a + 4 * suc k) && true))

    go : (t : Bool) → leb (a + 4 * k + 4) hi ≡ t → (leb lo (a + 4 * k) && t) && inside lo hi a k ≡ leb lo a && t
    go true e = rw (le-leb (a + 4 * k) hi (omega (arith, leb-true (a + 4 * k + 4) hi e))) (first (leb lo a) k refl)
    go false e = rw (and-false (leb lo (a + 4 * k))) (sym (and-false (leb lo a)))

-- All the words below a, and all that a fill would move, judged by the two ends of their range.
pub every_below : (k a lo hi : ℕ) → 4 * k ≤ a → a < 2 ^ 32 → every (in_area lo hi) (below k a) ≡ inside lo hi (a - 4 * k) k
unfolding every below
every_below zero a lo hi p q = refl
every_below (suc k) a lo hi p q =
    ap (λ (t : Bool). in_area lo hi (sub a 4) && t) (every_below k (sub a 4) lo hi (omega arith) (omega arith)) ∙ go (sub a 4) (sub a 4 - 4 * k) (a - 4 * suc k) (omega arith) (omega arith)
  where
    go : (x y b : ℕ) → x ≡ b + 4 * k → y ≡ b → in_area lo hi x && inside lo hi y k ≡ inside lo hi b (suc k)
    go x y b e f = rw (e, f) (word_after lo hi b k)

pub every_fill_while : (most n d st ss lo hi : ℕ) → ss ≡ st + 4 * d → ss % 4 ≡ 0 → ss < 2 ^ 32 → hi < 2 ^ 32 → n ≤ most + d
    → every (in_area lo hi) (fill_while most n st ss) ≡ inside lo hi ss (n - d)
unfolding every fill_while
every_fill_while zero n d st ss lo hi e m p q h =
    let z : n - d ≡ 0 = omega arith in
    rw z
every_fill_while (suc most) n d st ss lo hi e m p q h =
    go (ltb (ss - st) (4 * n)) refl (λ (t : ss + 4 < 2 ^ 32). every_fill_while most n (d + 1) st (add ss 4) lo hi (omega arith) (omega arith) (omega arith) q (omega arith))
  where
    more : d < n → n - d ≡ suc (n - (d + 1))
    more t = omega arith

    wide : (t : Bool) → ltb (ss + 4) (2 ^ 32) ≡ t → d < n → (ss + 4 < 2 ^ 32 → every (in_area lo hi) (fill_while most n st (add ss 4)) ≡ inside lo hi (add ss 4) (n - (d + 1)))
        → in_area lo hi ss && every (in_area lo hi) (fill_while most n st (add ss 4)) ≡ inside lo hi ss (suc (n - (d + 1)))
    wide true f t i =
        let s : ss + 4 < 2 ^ 32 = ltb-true (ss + 4) (2 ^ 32) f in
        let g : add ss 4 ≡ ss + 4 = omega arith in
        ap (λ (t : Bool). in_area lo hi ss && t) (i s ∙ ap (λ (x : ℕ). inside lo hi x (n - (d + 1))) g) ∙ word_before lo hi ss (n - (d + 1))
    wide false f t i =
        let s : 2 ^ 32 ≤ ss + 4 = ltb-false (ss + 4) (2 ^ 32) f in
        rw (inside_suc, lt-leb (ss + 4) hi (omega arith), lt-leb (ss + 4 * suc (n - (d + 1))) hi (omega arith), and-false (leb lo ss))

    go : (t : Bool) → ltb (ss - st) (4 * n) ≡ t → (ss + 4 < 2 ^ 32 → every (in_area lo hi) (fill_while most n st (add ss 4)) ≡ inside lo hi (add ss 4) (n - (d + 1)))
        → every (in_area lo hi) (cond t (ss ∷ fill_while most n st (add ss 4)) []) ≡ inside lo hi ss (n - d)
    go true f i =
        let t : d < n = omega (arith, ltb-true (ss - st) (4 * n) f) in
        rw (more t) (wide (ltb (ss + 4) (2 ^ 32)) refl t i)
    go false f i =
        let z : n - d ≡ 0 = omega (arith, ltb-false (ss - st) (4 * n) f) in
        rw z

-- A range that lies inside ends below 2 ^ 32.
pub inside_end : (lo hi a k : ℕ) → inside lo hi a k ≡ true → a < 2 ^ 32 → hi < 2 ^ 32 → a + 4 * k < 2 ^ 32
inside_end lo hi a zero e p q = omega arith
inside_end lo hi a (suc k) e p q = omega (arith, leb-true (a + 4 * suc k) hi (and_right (leb lo a) _ (sym (inside_suc lo hi a k) ∙ e)))

pub inside_true : (lo hi a k : ℕ) → lo ≤ a → a + 4 * k ≤ hi → inside lo hi a k ≡ true
inside_true lo hi a k p q = rw (le-leb lo a p, le-leb (a + 4 * k) hi q) (or-true (eqb k 0))
