-- Laws of the records one after the other, for the loop that judges them, and of a record that is due.
use Rattle.std.specs.Prelude.{ℕ, suc, ◌+◌, ◌-◌, ◌%◌, ◌<◌, ◌≤◌, Bool, ◌&&◌, ◌||◌, List, ◌≡◌, eqb, length}
use Rattle.std.proofs.Math.Nat.{sub-zero}
use Rattle.std.proofs.Math.Bool.{true, false, not}
use Rattle.std.proofs.Math.Path.{refl, ap}
use Rattle.std.proofs.Common.{sym, ◌∙◌, arith, add-one}
use borrow.Author.Tests.{le-leb, lt-ltb, ltb-true, ltb-false, leb-true}
use Rattle.std.proofs.Math.Dec.{ltb, leb}
use Rattle.replay.specs.declared.Replay.{Replay}
use Rattle.replay.specs.Replay.{records, number_of, vector_of, greatest_vector, records_ok, replay_ok, due_in}

-- What is above a bound is not at most it, and the other way round.
at_most : (a b : ℕ) (t : Bool) → ltb b a ≡ t → leb a b ≡ not t
at_most a b true e = go (leb a b) refl
  where
    go : (u : Bool) → leb a b ≡ u → u ≡ false
    go true p = absurd (omega (arith, leb-true a b p, ltb-true b a e))
    go false p = refl
at_most a b false e = le-leb a b (ltb-false b a e)

both : (t u : Bool) → not t && not u ≡ not (t || u)
both true u = refl
both false u = refl

module _ (list : List ℕ) (n i least number vector : ℕ) (p : number ≡ number_of list i) (q : vector ≡ vector_of list i) where
  next : (k : ℕ) → records_ok list (suc k) i least ≡ not (ltb greatest_vector vector || ltb number least) && records_ok list k (i + 1) number
  unfolding records_ok
  next k =
      (λ j. (leb (sym q j) greatest_vector && leb least (sym p j)) && records_ok list k (i + 1) (sym p j))
      ∙ (λ j. (at_most vector greatest_vector (ltb greatest_vector vector) refl j && at_most least number (ltb number least) refl j) && records_ok list k (i + 1) number)
      ∙ ap (λ (t : Bool). t && records_ok list k (i + 1) number) (both (ltb greatest_vector vector) (ltb number least))

  one : i < n → records_ok list (n - i) i least ≡ not (ltb greatest_vector vector || ltb number least) && records_ok list (n - (i + 1)) (i + 1) number
  one h = ap (λ (k : ℕ). records_ok list k i least) (split ∙ add-one (n - (i + 1))) ∙ next (n - (i + 1))
    where
      split : n - i ≡ n - (i + 1) + 1
      split = omega (arith, h)

  -- A wrong record decides; behind a right one the rest does.
  pub records_wrong : i < n → (ltb greatest_vector vector || ltb number least) ≡ true → records_ok list (n - i) i least ≡ false
  records_wrong h e = one h ∙ ap (λ (t : Bool). not t && records_ok list (n - (i + 1)) (i + 1) number) e

  pub records_right : i < n → (ltb greatest_vector vector || ltb number least) ≡ false → records_ok list (n - i) i least ≡ records_ok list (n - (i + 1)) (i + 1) number
  records_right h e = one h ∙ ap (λ (t : Bool). not t && records_ok list (n - (i + 1)) (i + 1) number) e

pub records_end : (list : List ℕ) (n i least : ℕ) → n ≤ i → records_ok list (n - i) i least ≡ true
unfolding records_ok
records_end list n i least h = ap (λ (k : ℕ). records_ok list k i least) none
  where
    none : n - i ≡ 0
    none = omega (arith, h)

pub records_all : (list : List ℕ) (n : ℕ) → records_ok list (n - 0) 0 0 ≡ records_ok list n 0 0
records_all list n = ap (λ (k : ℕ). records_ok list k 0 0) (sub-zero n)

-- List and table are judged by their lengths and by the records.
pub replay_judged : (list table : List ℕ) (r : Bool) → r ≡ records_ok list (records list) 0 0
    → ((eqb (length list % 8) 0 && leb (records list) 4294967295) && eqb (length table) 128) && r ≡ replay_ok list table
unfolding replay_ok
replay_judged list table r e = ap (λ (t : Bool). ((eqb (length list % 8) 0 && leb (records list) 4294967295) && eqb (length table) 128) && t) e

-- At the list's end none is due; before it the record's number decides.
module _ (list : List ℕ) (r : Replay) where
  pub due_end : records list ≤ r.place → due_in list r ≡ false
  unfolding due_in
  due_end h = go (ltb r.place (records list)) refl
    where
      go : (t : Bool) → ltb r.place (records list) ≡ t → (t && leb (number_of list r.place) r.done) && not r.active ≡ false
      go true e = absurd (omega (arith, h, ltb-true r.place (records list) e))
      go false e = refl

  pub due_before : (number : ℕ) → r.place < records list → number ≡ number_of list r.place → leb number r.done && not r.active ≡ due_in list r
  unfolding due_in
  due_before number h e =
      ap (λ (n : ℕ). leb n r.done && not r.active) e
      ∙ ap (λ (t : Bool). (t && leb (number_of list r.place) r.done) && not r.active) (sym (lt-ltb r.place (records list) h))
