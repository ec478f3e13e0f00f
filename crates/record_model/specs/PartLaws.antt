-- Laws of the sections one by one: what is written of a part is read as that part, and what can be read is written again as it was.
use Rattle.std.specs.Prelude.{ℕ, zero, suc, ◌+◌, ◌-◌, ◌*◌, ◌/◌, ◌%◌, ◌^◌, ◌<◌, ◌≤◌, Bool, true, false, cond, ◌&&◌, ◌||◌, List, [], ◌∷◌, ◌≡◌, refl, eqb, leb, length, get_or}
use Rattle.std.proofs.Common.{sym, ap, ◌∙◌, arith, pow-suc, eqb-true, leb-true, leb-false, le-leb}
use Rattle.std.proofs.lemmas.Bool.{eqb-false}
use Rattle.std.proofs.Math.Arith.{digits_div, digits_mod}
use Rattle.word.specs.Word.{add}
use Rattle.word.specs.BoolLaws.{and_left, and_right}
use Rattle.sections.specs.Words.{AreWords}
use Rattle.alu_effects.specs.AluEffects.{predicates_word}
use Rattle.effects.specs.declared.Transfer.TheVariants.{Br, Call, Block, Xret}
use Rattle.products.specs.declared.Products.{Products}
use Rattle.products.specs.declared.Products.TheVariants as products
use Rattle.products.specs.Products.{product, products_ok}
use Rattle.core_state.specs.declared.WaitingTransfer.{WaitingTransfer}
use Rattle.core_state.specs.declared.WaitingTransfer.TheVariants as transfer
use Rattle.core_state.specs.declared.WaitingLoad.{WaitingLoad}
use Rattle.core_state.specs.declared.WaitingLoad.TheVariants as load
use Rattle.core_state.specs.State.{predicates_of}
use Rattle.replay.specs.declared.Replay.{Replay}
use Rattle.replay.specs.Replay.{replay}
use Rattle.bundle_model.specs.declared.Counts.{Counts}
use Rattle.record_model.specs.Record.{transfer_section, transfer_of, transfer_in, is_transfer, load_section, load_in, is_load, product_section, products_in, are_products, upper, lower, count_section, count_at, counts_of_words, replay_section, replay_in}

-- A list of a known length, place by place.
abbrev places : ℕ → ℕ → List ℕ → List ℕ
places at zero l = []
places at (suc k) l = get_or l at 0 ∷ places (suc at) k l

places_next : (at k x : ℕ) (l : List ℕ) → places (suc at) k (x ∷ l) ≡ places at k l
places_next at zero x l = refl
places_next at (suc k) x l = ap (λ (m : List ℕ). get_or l at 0 ∷ m) (places_next (suc at) k x l)

pub by_places : (k : ℕ) (l : List ℕ) → length l ≡ k → l ≡ places 0 k l
by_places zero [] e = refl
by_places zero (x ∷ l) e = absurd (omega (arith, e))
by_places (suc k) [] e = absurd (omega (arith, e))
by_places (suc k) (x ∷ l) e = ap (λ (m : List ℕ). x ∷ m) (by_places k l (omega (arith, e)) ∙ sym (places_next 0 k x l))

-- A list without words is empty.
no_words : (l : List ℕ) → eqb (length l) 0 ≡ true → l ≡ []
no_words [] e = refl
no_words (x ∷ l) e = absurd (omega (arith, eqb-true (length (x ∷ l)) 0 e))

-- Predicates and their word.
pub predicates_forth : (ps : List Bool) → predicates_of (length ps) (predicates_word ps) ≡ ps
unfolding predicates_of predicates_word
predicates_forth [] = refl
predicates_forth (true ∷ ps) =
    let low : (1 + 2 * predicates_word ps) % 2 ≡ 1 = omega arith in
    let high : (1 + 2 * predicates_word ps) / 2 ≡ predicates_word ps = omega arith in
    λ i. eqb (low i) 1 ∷ (ap (predicates_of (length ps)) high ∙ predicates_forth ps) i
predicates_forth (false ∷ ps) =
    let low : (0 + 2 * predicates_word ps) % 2 ≡ 0 = omega arith in
    let high : (0 + 2 * predicates_word ps) / 2 ≡ predicates_word ps = omega arith in
    λ i. eqb (low i) 1 ∷ (ap (predicates_of (length ps)) high ∙ predicates_forth ps) i

pub predicates_many : (k v : ℕ) → length (predicates_of k v) ≡ k
unfolding predicates_of
predicates_many zero v = refl
predicates_many (suc k) v = ap suc (predicates_many k (v / 2))

pub predicates_small : (ps : List Bool) → predicates_word ps < 2 ^ length ps
unfolding predicates_word
predicates_small [] = omega arith
predicates_small (true ∷ ps) = omega (arith, predicates_small ps, pow-suc 2 (length ps))
predicates_small (false ∷ ps) = omega (arith, predicates_small ps, pow-suc 2 (length ps))

pub predicates_back : (k v : ℕ) → v < 2 ^ k → predicates_word (predicates_of k v) ≡ v
unfolding predicates_of predicates_word
predicates_back zero v p = omega arith
predicates_back (suc k) v p = go (eqb (v % 2) 1) refl (predicates_back k (v / 2) (omega (arith, p, pow-suc 2 k)))
  where
    go : (t : Bool) → eqb (v % 2) 1 ≡ t → predicates_word (predicates_of k (v / 2)) ≡ v / 2 → cond t 1 0 + 2 * predicates_word (predicates_of k (v / 2)) ≡ v
    go true e rest = omega (arith, rest, eqb-true (v % 2) 1 e)
    go false e rest = let h : v % 2 ≡ 0 = omega (arith, eqb-false (v % 2) 1 e) in omega (arith, rest, h)

-- A waiting transfer.
pub transfer_forth : (t : WaitingTransfer) → transfer_in (transfer_section t) ≡ t
unfolding transfer_in transfer_of transfer_section
transfer_forth transfer.Nothing = refl
transfer_forth (transfer.Waits (Br target) wait) = refl
transfer_forth (transfer.Waits (Call target) wait) = refl
transfer_forth (transfer.Waits (Block target base) wait) = refl
transfer_forth (transfer.Waits (Xret target base) wait) = refl

pub transfer_is : (t : WaitingTransfer) → is_transfer (transfer_section t) ≡ true
unfolding is_transfer transfer_section
transfer_is transfer.Nothing = refl
transfer_is (transfer.Waits (Br target) wait) = refl
transfer_is (transfer.Waits (Call target) wait) = refl
transfer_is (transfer.Waits (Block target base) wait) = refl
transfer_is (transfer.Waits (Xret target base) wait) = refl

-- What waits by what its kind is: 0, or else 1, or else 2.
abbrev waits : Bool → Bool → Bool → List ℕ → WaitingTransfer
waits zero? one? two? l =
    transfer.Waits (cond zero? (Br (get_or l 2 0)) (cond one? (Call (get_or l 2 0)) (cond two? (Block (get_or l 2 0) (get_or l 3 0)) (Xret (get_or l 2 0) (get_or l 3 0))))) (get_or l 1 0)

pub transfer_back : (l : List ℕ) → is_transfer l ≡ true → transfer_section (transfer_in l) ≡ l
unfolding is_transfer transfer_in transfer_of transfer_section
transfer_back l h = none (eqb (length l) 0) refl h
  where
    three : (z o t : Bool) → eqb (get_or l 0 0) 0 ≡ z → eqb (get_or l 0 0) 1 ≡ o → leb (get_or l 0 0) 1 ≡ true → length l ≡ 3 → transfer_section (waits z o t l) ≡ l
    three true o t is0 is1 k n = (λ i. sym (eqb-true (get_or l 0 0) 0 is0) i ∷ get_or l 1 0 ∷ get_or l 2 0 ∷ []) ∙ sym (by_places 3 l n)
    three false true t is0 is1 k n = (λ i. sym (eqb-true (get_or l 0 0) 1 is1) i ∷ get_or l 1 0 ∷ get_or l 2 0 ∷ []) ∙ sym (by_places 3 l n)
    three false false t is0 is1 k n = absurd (omega (arith, eqb-false (get_or l 0 0) 0 is0, eqb-false (get_or l 0 0) 1 is1, leb-true (get_or l 0 0) 1 k))

    four : (z o t : Bool) → eqb (get_or l 0 0) 0 ≡ z → eqb (get_or l 0 0) 1 ≡ o → eqb (get_or l 0 0) 2 ≡ t → 1 < get_or l 0 0 → get_or l 0 0 ≤ 3 → length l ≡ 4 → transfer_section (waits z o t l) ≡ l
    four true o t is0 is1 is2 above k n = absurd (omega (arith, eqb-true (get_or l 0 0) 0 is0, above))
    four false true t is0 is1 is2 above k n = absurd (omega (arith, eqb-true (get_or l 0 0) 1 is1, above))
    four false false true is0 is1 is2 above k n = (λ i. sym (eqb-true (get_or l 0 0) 2 is2) i ∷ get_or l 1 0 ∷ get_or l 2 0 ∷ get_or l 3 0 ∷ []) ∙ sym (by_places 4 l n)
    four false false false is0 is1 is2 above k n =
        let e : 3 ≡ get_or l 0 0 = omega (arith, eqb-false (get_or l 0 0) 2 is2, above, k) in
        (λ i. e i ∷ get_or l 1 0 ∷ get_or l 2 0 ∷ get_or l 3 0 ∷ []) ∙ sym (by_places 4 l n)

    some : (t : Bool) → leb (get_or l 0 0) 1 ≡ t → cond t (eqb (length l) 3) (leb (get_or l 0 0) 3 && eqb (length l) 4) ≡ true
        → transfer_section (waits (eqb (get_or l 0 0) 0) (eqb (get_or l 0 0) 1) (eqb (get_or l 0 0) 2) l) ≡ l
    some true e f = three (eqb (get_or l 0 0) 0) (eqb (get_or l 0 0) 1) (eqb (get_or l 0 0) 2) refl refl e (eqb-true (length l) 3 f)
    some false e f =
        let k = leb-true (get_or l 0 0) 3 (and_left (leb (get_or l 0 0) 3) (eqb (length l) 4) f) in
        let n = eqb-true (length l) 4 (and_right (leb (get_or l 0 0) 3) (eqb (length l) 4) f) in
        four (eqb (get_or l 0 0) 0) (eqb (get_or l 0 0) 1) (eqb (get_or l 0 0) 2) refl refl refl (leb-false (get_or l 0 0) 1 e) k n

    none : (t : Bool) → eqb (length l) 0 ≡ t → t || (cond (leb (get_or l 0 0) 1) (eqb (length l) 3) (leb (get_or l 0 0) 3 && eqb (length l) 4)) ≡ true
        → transfer_section (cond t transfer.Nothing (waits (eqb (get_or l 0 0) 0) (eqb (get_or l 0 0) 1) (eqb (get_or l 0 0) 2) l)) ≡ l
    none true e f = sym (no_words l e)
    none false e f = some (leb (get_or l 0 0) 1) refl f

pub transfer_few : (t : WaitingTransfer) → length (transfer_section t) ≤ 4
unfolding transfer_section
transfer_few transfer.Nothing = omega arith
transfer_few (transfer.Waits (Br target) wait) = omega arith
transfer_few (transfer.Waits (Call target) wait) = omega arith
transfer_few (transfer.Waits (Block target base) wait) = omega arith
transfer_few (transfer.Waits (Xret target base) wait) = omega arith

-- A waiting load.
pub load_forth : (l : WaitingLoad) → load_in (load_section l) ≡ l
unfolding load_in load_section
load_forth load.Nothing = refl
load_forth (load.Waits r v) = refl

pub load_is : (l : WaitingLoad) → is_load (load_section l) ≡ true
unfolding is_load load_section
load_is load.Nothing = refl
load_is (load.Waits r v) = refl

pub load_back : (l : List ℕ) → is_load l ≡ true → load_section (load_in l) ≡ l
unfolding is_load load_in load_section
load_back l h = go (eqb (length l) 0) refl h
  where
    go : (t : Bool) → eqb (length l) 0 ≡ t → t || eqb (length l) 2 ≡ true → load_section (cond t load.Nothing (load.Waits (get_or l 0 0) (get_or l 1 0))) ≡ l
    go true e f = sym (no_words l e)
    go false e f = sym (by_places 2 l (eqb-true (length l) 2 f))

pub load_few : (l : WaitingLoad) → length (load_section l) ≤ 2
unfolding load_section
load_few load.Nothing = omega arith
load_few (load.Waits r v) = omega arith

-- Products under way, of which the second of two waits longer than the first, and not so long that the sum of its waits would wrap.
pub products_forth : (p : Products) → products_ok p ≡ true → products_in (product_section p) ≡ p
unfolding products_ok products_in product_section
products_forth products.Nothing e = refl
products_forth (products.One p) e = refl
products_forth (products.Two p q) e =
    let sum = leb-true (p.wait + q.wait) 2 (and_right (leb 1 p.wait && leb 1 q.wait) (leb (p.wait + q.wait) 2) e) in
    let w : add p.wait q.wait - p.wait ≡ q.wait = omega (arith, sum) in
    λ i. products.Two p (product (w i) q.low q.high)

pub products_are : (p : Products) → products_ok p ≡ true → are_products (product_section p) ≡ true
unfolding products_ok are_products product_section
products_are products.Nothing e = refl
products_are (products.One p) e = refl
products_are (products.Two p q) e =
    let sum = leb-true (p.wait + q.wait) 2 (and_right (leb 1 p.wait && leb 1 q.wait) (leb (p.wait + q.wait) 2) e) in
    le-leb p.wait (add p.wait q.wait) (omega (arith, sum))

pub products_back : (l : List ℕ) → AreWords l → are_products l ≡ true → product_section (products_in l) ≡ l
unfolding are_products products_in product_section
products_back l words h = none (eqb (length l) 0) (eqb (length l) 3) refl refl h
  where
    six : length l ≡ 6 → get_or l 0 0 ≤ get_or l 3 0
        → product_section (products.Two (product (get_or l 0 0) (get_or l 1 0) (get_or l 2 0)) (product (get_or l 3 0 - get_or l 0 0) (get_or l 4 0) (get_or l 5 0))) ≡ l
    six n order =
        let w : add (get_or l 0 0) (get_or l 3 0 - get_or l 0 0) ≡ get_or l 3 0 = omega (arith, words 3, order) in
        (λ i. get_or l 0 0 ∷ get_or l 1 0 ∷ get_or l 2 0 ∷ w i ∷ get_or l 4 0 ∷ get_or l 5 0 ∷ []) ∙ sym (by_places 6 l n)

    none : (t u : Bool) → eqb (length l) 0 ≡ t → eqb (length l) 3 ≡ u → (t || u) || (eqb (length l) 6 && leb (get_or l 0 0) (get_or l 3 0)) ≡ true
        → product_section (cond t products.Nothing (cond u (products.One (product (get_or l 0 0) (get_or l 1 0) (get_or l 2 0))) (products.Two (product (get_or l 0 0) (get_or l 1 0) (get_or l 2 0)) (product (get_or l 3 0 - get_or l 0 0) (get_or l 4 0) (get_or l 5 0))))) ≡ l
    none true u e f g = sym (no_words l e)
    none false true e f g = sym (by_places 3 l (eqb-true (length l) 3 f))
    none false false e f g =
        six (eqb-true (length l) 6 (and_left (eqb (length l) 6) (leb (get_or l 0 0) (get_or l 3 0)) g))
        (leb-true (get_or l 0 0) (get_or l 3 0) (and_right (eqb (length l) 6) (leb (get_or l 0 0) (get_or l 3 0)) g))

pub products_few : (p : Products) → length (product_section p) ≤ 6
unfolding product_section
products_few products.Nothing = omega arith
products_few (products.One p) = omega arith
products_few (products.Two p q) = omega arith

-- Counts.
two_words : (n : ℕ) → upper n * 2 ^ 32 + lower n ≡ n
two_words n = omega arith

pub counts_forth : (c : Counts) → counts_of_words (count_section c) ≡ c
unfolding count_at count_section
counts_forth c =
    λ i. record {
      bundles = two_words c.bundles i;
      cycles = two_words c.cycles i;
      spilled = two_words c.spilled i;
      filled = two_words c.filled i;
      misses = two_words c.misses i;
      fetched = two_words c.fetched i;
    }

pub counts_twelve : (c : Counts) → length (count_section c) ≡ 12
unfolding count_section
counts_twelve c = refl

module _ (l : List ℕ) (words : AreWords l) (i : ℕ) where
  upper_back : upper (count_at l i) ≡ get_or l i 0
  unfolding count_at
  upper_back = digits_div (get_or l i 0) (words (i + 1))

  lower_back : lower (count_at l i) ≡ get_or l (i + 1) 0
  unfolding count_at
  lower_back = digits_mod (get_or l i 0) (words (i + 1))

pub counts_back : (l : List ℕ) → AreWords l → length l ≡ 12 → count_section (counts_of_words l) ≡ l
unfolding count_section
counts_back l words n =
    let u : (i : ℕ) → upper (count_at l i) ≡ get_or l i 0 = upper_back l words in
    let d : (i : ℕ) → lower (count_at l i) ≡ get_or l (i + 1) 0 = lower_back l words in
    (λ i. u 0 i ∷ d 0 i ∷ u 2 i ∷ d 2 i ∷ u 4 i ∷ d 4 i ∷ u 6 i ∷ d 6 i ∷ u 8 i ∷ d 8 i ∷ u 10 i ∷ d 10 i ∷ []) ∙ sym (by_places 12 l n)

-- The replay.
pub replay_forth : (r : Replay) → replay_in (replay_section r) ≡ r
unfolding replay_section
replay_forth r = ap (λ (active : Bool). replay active r.place r.done) (go r.active)
  where
    go : (t : Bool) → eqb (cond t 1 0) 1 ≡ t
    go true = refl
    go false = refl

pub replay_three : (r : Replay) → length (replay_section r) ≡ 3
unfolding replay_section
replay_three r = refl

pub replay_small : (r : Replay) → get_or (replay_section r) 0 0 ≤ 1
unfolding replay_section
replay_small r = go r.active
  where
    go : (t : Bool) → cond t 1 0 ≤ 1
    go true = omega arith
    go false = omega arith

pub replay_back : (l : List ℕ) → length l ≡ 3 → get_or l 0 0 ≤ 1 → replay_section (replay_in l) ≡ l
unfolding replay_section
replay_back l n small = (λ i. go (eqb (get_or l 0 0) 1) refl i ∷ get_or l 1 0 ∷ get_or l 2 0 ∷ []) ∙ sym (by_places 3 l n)
  where
    go : (t : Bool) → eqb (get_or l 0 0) 1 ≡ t → cond t 1 0 ≡ get_or l 0 0
    go true e = sym (eqb-true (get_or l 0 0) 1 e)
    go false e = omega (arith, eqb-false (get_or l 0 0) 1 e, small)
