-- Laws of the definitions on kept numbers, one number at a time.
use Rattle.std.specs.Prelude.{ℕ, zero, suc, ◌+◌, ◌<◌, ◌≤◌, ◌≡◌, refl, List, [], ◌∷◌, ◌++◌, length, get_or, set, take}
use Rattle.std.specs.Fn.{Called}
use Rattle.std.specs.Array.{IsFromFnResult, IsFromFnResultFrom}
use denote.Param.Members.{Mut}
use lib.Seq.{take_all}
use Rattle.std.proofs.lemmas.List.{take_more}
use Rattle.std.proofs.Common.{subst, zero-add, add-zero, sym, ap, ◌∙◌, add-one, arith, lt-ltb, take-suc-set}
use Rattle.case_kept.specs.Indices.{ALL}
use Rattle.case_kept.specs.Clearing.{set_each}
use Rattle.case_kept.specs.Kept.{up_to, put, put_each}

pub up_to_none : {A : Type 0} (f : ℕ → A) → [] ≡ up_to 0 f
unfolding up_to
up_to_none f = refl

-- A list that agrees with the rule up to i agrees one further when at i it is given what the rule gives.
pub up_to_more : {A : Type 0} (f : ℕ → A) (l : List A) (i : ℕ) (a : A) → i < length l → take i l ≡ up_to i f → a ≡ f i → take (i + 1) (set l i a) ≡ up_to (i + 1) f
unfolding up_to
up_to_more {A} f l i a h e q =
    ap (λ (k : ℕ). take k (set l i a)) (add-one i) ∙ take-suc-set l i a h ∙ ap (λ (t : List A). t ++ (a ∷ [])) e
    ∙ ap (λ (x : A). up_to i f ++ (x ∷ [])) q ∙ ap (λ (k : ℕ). up_to k f) (sym (add-one i))

pub put_none : (first : ℕ) (f : ℕ → ℕ) (kept : List ℕ) → kept ≡ put_each first 0 f kept
unfolding put_each
put_none first f kept = refl

-- One number more, at the index i after the first.
pub put_more : (first i index n : ℕ) (f : ℕ → ℕ) (kept now : List ℕ) → index ≡ first + i → n ≡ f i → now ≡ put_each first i f kept → put now index n ≡ put_each first (i + 1) f kept
unfolding put_each
put_more first i index n f kept now p q e = rw (e, p, q, add-one i)

-- Below ALL numbers are put as in any list.
pub put_each_set : (first n : ℕ) (f : ℕ → ℕ) (kept : List ℕ) → first + n ≤ ALL → set_each first n f kept ≡ put_each first n f kept
unfolding put_each set_each
put_each_set first zero f kept h = refl
put_each_set first (suc n) f kept h = rw (lt-ltb (first + n) ALL (omega arith)) (ap (λ l. set l (first + n) (f n)) (put_each_set first n f kept (omega arith)))

-- An array that a closure of the rule gave, one element after the other.
from_fn_rest : {F B : Type 0} (g : Mut F (ℕ × Unit {0}) B) (f : F) (rule : ℕ → B) (l : List B) → ((i : ℕ) (b : B) (q : F) → Called g f (i, tt) b q → (q ≡ f) × (b ≡ rule i))
    → (i n : ℕ) → i + n ≡ length l → IsFromFnResultFrom g f l i n → take i l ≡ up_to i rule → l ≡ up_to (i + n) rule
unfolding up_to
from_fn_rest g f rule l same i zero h r e = sym (take_all i l (omega arith)) ∙ e ∙ ap (λ (k : ℕ). up_to k rule) (sym (add-zero i))
from_fn_rest {F} {B} g f rule l same i (suc n) h r e =
    let q = r.0 in
    let y = r.1 in
    let told = same i y q r.3 in
    let more = take_more l i y (omega arith) ∙ ap (λ (t : List B). t ++ (get_or l i y ∷ [])) e ∙ ap (λ (x : B). up_to i rule ++ (x ∷ [])) (r.2.0 ∙ told.1) ∙ ap (λ (k : ℕ). up_to k rule) (sym (add-one i)) in
    let moved : i + 1 + n ≡ i + suc n = omega arith in
    from_fn_rest g f rule l same (i + 1) n (omega arith) (subst (λ (p : F). IsFromFnResultFrom g p l (i + 1) n) told.0 r.4) more ∙ ap (λ (k : ℕ). up_to k rule) moved

pub from_fn_up_to : {F B : Type 0} (g : Mut F (ℕ × Unit {0}) B) (f : F) (rule : ℕ → B) (l : List B) (n : ℕ) → ((i : ℕ) (b : B) (q : F) → Called g f (i, tt) b q → (q ≡ f) × (b ≡ rule i))
    → IsFromFnResult g f l n → l ≡ up_to n rule
from_fn_up_to g f rule l n same r = from_fn_rest g f rule l same 0 n (zero-add n ∙ sym r.long) r.each (up_to_none rule) ∙ ap (λ (k : ℕ). up_to k rule) (zero-add n)
