-- The bits of a number, taken one by one into a list.
use Rattle.std.specs.Prelude.{ℕ, suc, ◌+◌, ◌-◌, ◌/◌, ◌%◌, ◌<◌, Bool, List, [], ◌∷◌, ◌++◌, ◌≡◌, eqb, length, take, set}
use Rattle.std.proofs.Common.{append_assoc, append-nil, sym, ap, ◌∙◌, add-one, arith, take-suc-set, take_all}
use Rattle.core_state.specs.State.{predicates_of}

-- One more bit.
pub bit_next : (l : List Bool) (i n v : ℕ) → i < length l → i < n
    → take (i + 1) (set l i (eqb (v % 2) 1)) ++ predicates_of (n - (i + 1)) (v / 2) ≡ take i l ++ predicates_of (n - i) v
unfolding predicates_of
bit_next l i n v p q =
    let b = eqb (v % 2) 1 in
    let e : n - i ≡ suc (n - (i + 1)) = omega (arith, q) in
    ap (λ (k : ℕ). take k (set l i b) ++ predicates_of (n - (i + 1)) (v / 2)) (add-one i)
    ∙ ap (λ (t : List Bool). t ++ predicates_of (n - (i + 1)) (v / 2)) (take-suc-set l i b p)
    ∙ append_assoc (take i l) (b ∷ []) (predicates_of (n - (i + 1)) (v / 2))
    ∙ sym (ap (λ (k : ℕ). take i l ++ predicates_of k v) e)

-- The last bit was taken.
pub bit_last : (l : List Bool) (i n v : ℕ) → length l ≡ n → i ≡ n → take i l ++ predicates_of (n - i) v ≡ l
unfolding predicates_of
bit_last l i n v p q =
    let e : n - i ≡ 0 = omega (arith, q) in
    ap (λ (k : ℕ). take i l ++ predicates_of k v) e ∙ append-nil (take i l) ∙ take_all i l (omega (arith, p, q))
