-- Words copied one by one over the beginning of others.
use Rattle.std.specs.Prelude.{ℕ, suc, ◌+◌, ◌-◌, ◌<◌, ◌≤◌, List, ◌∷◌, ◌++◌, ◌≡◌, length, get_or, take, drop, set, replicate}
use Rattle.std.proofs.Common.{append-nil, sym, ap, ◌∙◌, add-one, arith, length-take, length-drop, drop_of_length-le, length-take-le, take-suc, drop-cons, get_or-take, get_or-drop, ext_get_or}
use Rattle.std.proofs.lemmas.List.{length-replicate, get_or-replicate, set_at}
use Rattle.std.proofs.Math.Seq.{take-length, append_snoc, take-append-add}
use Rattle.sections.specs.Words.{over}
use Rattle.method_cache.specs.Words.{held_words}

-- The first i words of s over the beginning of d.
abbrev pub copied : List ℕ → List ℕ → ℕ → List ℕ
copied d s i = take i s ++ drop i d

pub copy_next : (d s : List ℕ) (i : ℕ) → i < length s → i < length d → set (copied d s i) i (get_or s i 0) ≡ copied d s (i + 1)
copy_next d s i p q =
    let v = get_or s i 0 in
    let n = length-take-le i s (omega (arith, p)) in
    ap (λ (r : List ℕ). set (take i s ++ r) i v) (drop-cons d i 0 q)
    ∙ set_at (take i s) (get_or d i 0) (drop (suc i) d) v i n
    ∙ sym (append_snoc (take i s) v (drop (suc i) d))
    ∙ ap (λ (r : List ℕ). r ++ drop (suc i) d) (sym (take-suc s i 0 p))
    ∙ ap (copied d s) (sym (add-one i))

pub copy_all : (d s : List ℕ) (i : ℕ) → i ≡ length s → copied d s i ≡ over d s
copy_all d s i e = ap (copied d s) e ∙ ap (λ (r : List ℕ). r ++ drop (length s) d) (take-length s)

-- Over as many places as there are words nothing else is left.
pub over_all : (d s : List ℕ) → length s ≡ length d → over d s ≡ s
over_all d s e = ap (λ (r : List ℕ). s ++ r) (drop_of_length-le d {i = length s} (omega (arith, e))) ∙ append-nil s

-- The words of the blocks held: their number, and the blocks over sixteen places with 0.
zeros : (n k : ℕ) → k ≤ n → take {A = ℕ} (n - k) (replicate n 0) ≡ drop k (replicate n 0)
zeros n k p =
    let z : List ℕ = replicate n 0 in
    let long : length z ≡ n = length-replicate n 0 in
    ext_get_or 0 (take (n - k) z) (drop k z) (omega (arith, length-take (n - k) z, length-drop k z, long)) (λ i q.
    let h : i < n - k = omega (arith, q, length-take (n - k) z) in
    get_or-take (n - k) z i 0 h ∙ get_or-replicate n i 0 0 (omega (arith, h)) ∙ sym (get_or-replicate n (k + i) 0 0 (omega (arith, h, p))) ∙ sym (get_or-drop k z i 0))

pub held_over : (l : List ℕ) → length l ≤ 16 → length l ∷ over (replicate 16 0) l ≡ held_words l
unfolding held_words
held_over l p =
    let e : 16 ≡ length l + (16 - length l) = omega (arith, p) in
    ap (λ (r : List ℕ). length l ∷ r)
    (ap (λ (r : List ℕ). l ++ r) (sym (zeros 16 (length l) p))
    ∙ sym (take-append-add l (replicate 16 0) (16 - length l))
    ∙ ap (λ (n : ℕ). take n (l ++ replicate 16 0)) (sym e))
