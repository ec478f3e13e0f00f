-- Laws for the loops over the blocks held: what a turn of each adds.
use Rattle.std.specs.Prelude.{ℕ, ◌+◌, ◌-◌, ◌<◌, ◌≤◌, Bool, ◌&&◌, ◌||◌, ◌≡◌, length, get_or, drop}
use Rattle.std.proofs.Math.Bool.{true, false, not, cond}
use Rattle.std.proofs.lemmas.Bool.{false≢true}
use mathlib.Core.List.{List, [], ◌∷◌}
use Rattle.std.proofs.Math.Path.{refl, ap}
use Rattle.std.proofs.Common.{sym, ◌∙◌, add-one, length-drop, drop_of_length-le, drop-cons}
use Rattle.std.proofs.Math.Dec.{eqb, leb}
use Rattle.method_cache.specs.declared.Method.{Method}
use Rattle.method_cache.specs.MethodCache.{size_at, bad_block, is_held, bytes_held, has_room, room_for, held_good, held_fits, held_ok}

-- The list from a place on, one block further: the turns of the loops over it.
module _ (held : List ℕ) (i j : ℕ) (next : j ≡ i + 1) (more : i < length held) where
  abbrev here : ℕ
  here = get_or held i 0

  from_here : drop i held ≡ here ∷ drop j held
  from_here = drop-cons held i 0 more ∙ ap (λ (k : ℕ). here ∷ drop k held) (sym (next ∙ add-one i))

  pub held_step : (base : ℕ) → is_held base (drop i held) ≡ eqb base here || is_held base (drop j held)
  unfolding is_held
  held_step base = ap (is_held base) from_here

  pub bytes_step : (code : List ℕ) → bytes_held code (drop i held) ≡ size_at code here + bytes_held code (drop j held)
  unfolding bytes_held
  bytes_step code = ap (bytes_held code) from_here

  good_step : (c : Method) (code : List ℕ) → held_good c code (drop i held) ≡ (not (bad_block c code here) && not (is_held here (drop j held))) && held_good c code (drop j held)
  unfolding held_good
  good_step c code = ap (held_good c code) from_here

  pub room_step : (c : Method) (code : List ℕ) (size : ℕ)
      → room_for c code size (drop i held) ≡ cond (has_room c code size (drop i held)) (drop i held) (room_for c code size (drop j held))
  unfolding room_for
  room_step c code size =
      ap (room_for c code size) from_here
      ∙ ap (λ (l : List ℕ). cond (has_room c code size l) l (room_for c code size (drop j held))) (sym from_here)

-- And behind the last.
pub past_end : (held : List ℕ) (i : ℕ) → length held ≤ i → drop i held ≡ []
past_end held i p = drop_of_length-le held p

-- Room as it is judged by numbers: how many blocks are held from a place on, and their bytes.
pub room_judged : (c : Method) (code : List ℕ) (size : ℕ) (held : List ℕ) (i n bytes : ℕ) → n ≡ length held → bytes ≡ bytes_held code (drop i held)
    → leb (n - i + 1) c.blocks && leb (bytes + size) c.bytes ≡ has_room c code size (drop i held)
room_judged c code size held i n bytes p q =
    let l : n - i ≡ length (drop i held) = ap (λ (k : ℕ). k - i) p ∙ sym (length-drop i held) in
    rw (l, q) refl

-- Blocks judged one by one: where one is bad, or held again behind it, and past one that is neither.
module _ (held : List ℕ) (i j : ℕ) (next : j ≡ i + 1) (more : i < length held) (c : Method) (code : List ℕ) (base : ℕ) (bad again : Bool)
    (here : base ≡ get_or held i 0) (p : bad ≡ bad_block c code base) (q : again ≡ is_held base (drop j held)) where
  judged_here : held_good c code (drop i held) ≡ (not bad && not again) && held_good c code (drop j held)
  judged_here =
      good_step held i j next more c code
      ∙ ap (λ (b : ℕ). (not (bad_block c code b) && not (is_held b (drop j held))) && held_good c code (drop j held)) (sym here)
      ∙ sym (ap (λ (t : Bool). (not t && not (is_held base (drop j held))) && held_good c code (drop j held)) p)
      ∙ sym (ap (λ (t : Bool). (not bad && not t) && held_good c code (drop j held)) q)

  pub good_bad : bad || again ≡ true → held_good c code (drop i held) ≡ false
  good_bad e = judged_here ∙ go bad again e
    where
      go : (t u : Bool) → t || u ≡ true → (not t && not u) && held_good c code (drop j held) ≡ false
      go true u f = refl
      go false true f = refl
      go false false f = absurd (false≢true f)

  pub good_next : bad || again ≡ false → held_good c code (drop i held) ≡ held_good c code (drop j held)
  good_next e = judged_here ∙ go bad again e
    where
      go : (t u : Bool) → t || u ≡ false → (not t && not u) && held_good c code (drop j held) ≡ held_good c code (drop j held)
      go true u f = absurd (false≢true (sym f))
      go false true f = absurd (false≢true (sym f))
      go false false f = refl

-- What 11 judges, off and on.
module _ (c : Method) (code held : List ℕ) (n : ℕ) where
  pub ok_off : not c.on ≡ true → n ≡ length held → eqb n 0 ≡ held_ok c code held
  unfolding held_ok
  ok_off e p = ap (λ (k : ℕ). eqb k 0) p ∙ go c.on e
    where
      go : (t : Bool) → not t ≡ true → eqb (length held) 0 ≡ cond t (held_fits c code held) (eqb (length held) 0)
      go false f = refl
      go true f = absurd (false≢true f)

  pub ok_on : (bytes : ℕ) (good : Bool) → not c.on ≡ false → n ≡ length held → bytes ≡ bytes_held code held → good ≡ held_good c code held
      → good && (leb n c.blocks && leb bytes c.bytes) ≡ held_ok c code held
  unfolding held_ok
  ok_on bytes good e p q r = (λ i. r i && (leb (p i) c.blocks && leb (q i) c.bytes)) ∙ go c.on e
    where
      go : (t : Bool) → not t ≡ false → held_fits c code held ≡ cond t (held_fits c code held) (eqb (length held) 0)
      go true f = refl
      go false f = absurd (false≢true (sym f))
