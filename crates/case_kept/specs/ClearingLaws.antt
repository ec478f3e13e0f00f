-- Laws of setting numbers one after the other.
use Rattle.std.specs.Prelude.{ℕ, zero, suc, ◌+◌, ◌-◌, ◌<◌, ◌≤◌, ◌≡◌, refl, Bool, true, false, List, ◌++◌, length, take, drop, get_or, set, replicate, ltb}
use Rattle.std.proofs.Common.{sym, ap, ◌∙◌, zero-add, add-one, append_assoc, take-append-drop, arith, length-set, get_or-set_other, get_or-set_same, ltb-true, ltb-false}
use Rattle.std.proofs.lemmas.List.{length-replicate, get_or-replicate, drop-drop, drop-append-le}
use Rattle.std.proofs.lemmas.Grind.{same_number_lists, common_steps}
use Rattle.case_kept.specs.Clearing.{set_each}

pub set_none : (first : ℕ) (f : ℕ → ℕ) (l : List ℕ) → l ≡ set_each first 0 f l
unfolding set_each
set_none first f l = refl

-- One number more, at the index i after the first.
pub set_more : (first i index n : ℕ) (f : ℕ → ℕ) (l now : List ℕ) → index ≡ first + i → n ≡ f i → now ≡ set_each first i f l → set now index n ≡ set_each first (i + 1) f l
unfolding set_each
set_more first i index n f l now p q e = rw (e, p, q, add-one i)

-- What lies in front, or behind, is as it was.
pub get_in_front : (first n : ℕ) (f : ℕ → ℕ) (l : List ℕ) (k : ℕ) → k < first → get_or (set_each first n f l) k 0 ≡ get_or l k 0
unfolding set_each
get_in_front first zero f l k h = refl
get_in_front first (suc n) f l k h = get_or-set_other (set_each first n f l) (first + n) k (f n) 0 (λ e. absurd (omega arith)) ∙ get_in_front first n f l k h

pub get_behind : (first n : ℕ) (f : ℕ → ℕ) (l : List ℕ) (k : ℕ) → first + n ≤ k → get_or (set_each first n f l) k 0 ≡ get_or l k 0
unfolding set_each
get_behind first zero f l k h = refl
get_behind first (suc n) f l k h = get_or-set_other (set_each first n f l) (first + n) k (f n) 0 (λ e. absurd (omega arith)) ∙ get_behind first n f l k (omega arith)

length_set_each : (first n : ℕ) (f : ℕ → ℕ) (l : List ℕ) → length (set_each first n f l) ≡ length l
unfolding set_each
length_set_each first zero f l = refl
length_set_each first (suc n) f l = length-set (set_each first n f l) (first + n) (f n) ∙ length_set_each first n f l

get_within : (first n : ℕ) (f : ℕ → ℕ) (l : List ℕ) (k : ℕ) → first + n ≤ length l → k < n → get_or (set_each first n f l) (first + k) 0 ≡ f k
unfolding set_each
get_within first zero f l k h b = absurd (omega arith)
get_within first (suc n) f l k h b = go (ltb k n) refl (λ c. get_within first n f l k (omega arith) c)
  where
    go : (t : Bool) → ltb k n ≡ t → (k < n → get_or (set_each first n f l) (first + k) 0 ≡ f k) → get_or (set (set_each first n f l) (first + n) (f n)) (first + k) 0 ≡ f k
    go true e before =
        let less = ltb-true k n e in
        get_or-set_other (set_each first n f l) (first + n) (first + k) (f n) 0 (λ p. absurd (omega arith)) ∙ before less
    go false e before =
        let more = ltb-false k n e in
        let same : k ≡ n = omega arith in
        rw same (get_or-set_same (set_each first n f l) (first + n) (f n) 0 (rw length_set_each (omega arith)))

-- A list that has what the rule gives there, and is as it was in front and behind.
pub set_each_is : (first n : ℕ) (f : ℕ → ℕ) (l now : List ℕ) → first + n ≤ length l → length now ≡ length l
    → ((k : ℕ) → k < first → get_or now k 0 ≡ get_or l k 0) → ((k : ℕ) → k < n → get_or now (first + k) 0 ≡ f k)
    → ((k : ℕ) → first + n ≤ k → k < length l → get_or now k 0 ≡ get_or l k 0) → now ≡ set_each first n f l
set_each_is first n f l now h e front within behind = same_number_lists now (set_each first n f l) (e ∙ sym (length_set_each first n f l)) (λ k b. at k b (ltb k first) refl (ltb k (first + n)) refl)
  where
    at : (k : ℕ) → k < length now → (x : Bool) → ltb k first ≡ x → (y : Bool) → ltb k (first + n) ≡ y → get_or now k 0 ≡ get_or (set_each first n f l) k 0
    at k b true p y q = let less = ltb-true k first p in front k less ∙ sym (get_in_front first n f l k less)
    at k b false p true q =
        let from = ltb-false k first p in
        let to = ltb-true k (first + n) q in
        let i : first + (k - first) ≡ k = omega arith in
        rw (← i) (within (k - first) (omega arith) ∙ sym (get_within first n f l (k - first) h (omega arith)))
    at k b false p false q = let past = ltb-false k (first + n) q in behind k past (omega arith) ∙ sym (get_behind first n f l k past)

-- The same list in three parts.
pub set_each_parts : (first n : ℕ) (f : ℕ → ℕ) (l s : List ℕ) → first + n ≤ length l → length s ≡ n → ((k : ℕ) → k < n → get_or s k 0 ≡ f k)
    → take first l ++ (s ++ drop (first + n) l) ≡ set_each first n f l
set_each_parts first n f l s h e w =
    set_each_is first n f l (take first l ++ (s ++ drop (first + n) l)) h (grind (arith, common_steps)) (λ k b. grind (arith, common_steps)) (λ k b. grind (arith, common_steps, w k b)) (λ k b c. grind (arith, common_steps))

-- Zeros put in, and the front of a list in two parts written to the other part.
pub zeros_in_front : (n : ℕ) (l s : List ℕ) → n ≤ length l → s ≡ replicate n 0 → s ++ drop n l ≡ set_each 0 n (λ i. 0) l
zeros_in_front n l s h e = set_each_is 0 n (λ i. 0) l (s ++ drop n l) (omega arith) (rw e (grind (arith, common_steps))) (λ k b. absurd (omega arith)) (λ k b. rw (e, zero-add k) (grind (arith, common_steps))) (λ k b c. rw e (grind (arith, common_steps)))

pub zeros_behind : (first n : ℕ) (l s : List ℕ) → first + n ≤ length l → s ≡ replicate n 0 → take first l ++ (s ++ drop n (drop first l)) ≡ set_each first n (λ i. 0) l
zeros_behind first n l s h e = rw (e, drop-drop n first l) (set_each_parts first n (λ i. 0) l (replicate n 0) h (length-replicate n 0) (λ k b. get_or-replicate n k 0 0 b))

pub copied_behind : (first n : ℕ) (l : List ℕ) → n ≤ first → first + n ≤ length l → take first l ++ (take n (take first l) ++ drop n (drop first l)) ≡ set_each first n (λ i. get_or l i 0) l
copied_behind first n l p h = set_each_is first n (λ i. get_or l i 0) l (take first l ++ (take n (take first l) ++ drop n (drop first l))) h (grind (arith, common_steps)) (λ k b. grind (arith, common_steps)) (λ k b. grind (arith, common_steps)) (λ k b c. grind (arith, common_steps))

pub copied_in_front : (first n : ℕ) (l : List ℕ) → n ≤ first → first + n ≤ length l → (take n (drop first l) ++ drop n (take first l)) ++ drop first l ≡ set_each 0 n (λ i. get_or l (first + i) 0) l
copied_in_front first n l p h =
    let whole : drop n (take first l) ++ drop first l ≡ drop n l =
    sym (drop-append-le n (take first l) (drop first l) (grind (arith, common_steps))) ∙ ap (drop n) (take-append-drop first l) in
    rw (append_assoc, whole) (set_each_is 0 n (λ i. get_or l (first + i) 0) l (take n (drop first l) ++ drop n l) (omega arith) (grind (arith, common_steps)) (λ k b. absurd (omega arith)) (λ k b. rw (zero-add k) (grind (arith, common_steps))) (λ k b c. grind (arith, common_steps)))
