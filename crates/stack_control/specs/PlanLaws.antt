-- What a stack instruction moves, in closed form: how many words, where they lie, and the window afterwards.
use Rattle.std.specs.Prelude.{ℕ, ◌+◌, ◌-◌, ◌*◌, ◌/◌, ◌%◌, ◌^◌, ◌<◌, ◌≤◌, min, max, ◌≡◌, refl, Bool, true, false, not, cond, ◌&&◌, ◌||◌, eqb, ltb, length, Ok, Err}
use Rattle.std.proofs.Common.{sym, ap, ◌∙◌, arith, le_of_lt}
use Rattle.std.proofs.Math.Nat.{min-le_right, max-eq_left, max-eq_right}
use borrow.Author.Tests.{eqb-true, ltb-true, ltb-false, not-false, eq-eqb, le-ltb, lt-leb}
use Rattle.stack_cache.specs.declared.StackControl.{StackControl}
use Rattle.stack_cache.specs.declared.StackControl.TheVariants.{Sres, Sens, Sfree, Sspill}
use Rattle.answers.specs.declared.Refusal.TheVariants as refusal
use Rattle.stack_cache.specs.declared.Plan.{Plan}
use Rattle.stack_cache.specs.Stack.{moves, below, above, top_after, spills, fills, spill_after, bad_window, bad_amount, in_area, every, moved_outside, planned}
use Rattle.stack_cache.specs.Count.{Accepted, Window, spill_count, fill_count, ss_after, inside}
use Rattle.stack_cache.specs.StackLaws.{length_below, spill_while_below, fill_while_above}
use Rattle.word.specs.BoolLaws.{or_left, or_right, and_left, and_right}
use Rattle.stack_cache.specs.RangeLaws.{spill_while_length, fill_while_length, every_below, every_fill_while, inside_end, inside_true}

-- A window that is not bad, and back.
pub window : (w st ss : ℕ) → bad_window w st ss ≡ false → Window w st ss
unfolding bad_window
window w st ss e =
    let x = not (eqb (ss % 4) 0) in
    let y = not (eqb (st % 4) 0) in
    let l = or_left (x || y) _ e in
    let r = or_right (x || y) _ e in
    record {
      spill_aligned = eqb-true _ _ (not-false _ (or_left x y l));
      top_aligned = eqb-true _ _ (not-false _ (or_right x y l));
      ordered = ltb-false _ _ (or_left (ltb ss st) (ltb (4 * w) (ss - st)) r);
      fits = ltb-false _ _ (or_right (ltb ss st) (ltb (4 * w) (ss - st)) r);
    }

pub window_good : (w st ss : ℕ) → Window w st ss → bad_window w st ss ≡ false
unfolding bad_window
window_good w st ss g = rw (eq-eqb _ _ g.spill_aligned, eq-eqb _ _ g.top_aligned, le-ltb _ _ g.ordered, le-ltb _ _ g.fits)

-- What an accepted instruction has.
pub accepted_window : (c : StackControl) (w st ss n : ℕ) → Accepted c w st ss n → Window w st ss
accepted_window c w st ss n e = window w st ss (or_left (bad_window w st ss) (bad_amount c w st n) e)

accepted_sres : (w st n : ℕ) → bad_amount Sres w st n ≡ false → (n ≤ w) × (4 * n ≤ st)
unfolding bad_amount
accepted_sres w st n e = (ltb-false w n (or_left (ltb w n) (ltb st (4 * n)) e), ltb-false st (4 * n) (or_right (ltb w n) (ltb st (4 * n)) e))

-- When an instruction is accepted.
module _ (w st ss n : ℕ) (g : Window w st ss) where
  pub accept_sres : n ≤ w → 4 * n ≤ st → Accepted Sres w st ss n
  unfolding bad_amount
  accept_sres p q = rw (window_good w st ss g, le-ltb w n p, le-ltb st (4 * n) q)

  pub accept_sens : n ≤ w → Accepted Sens w st ss n
  unfolding bad_amount
  accept_sens p = rw (window_good w st ss g, le-ltb w n p)

  pub accept_sfree : st + 4 * n < 2 ^ 32 → Accepted Sfree w st ss n
  unfolding bad_amount
  accept_sfree p = rw (window_good w st ss g, lt-leb (2 ^ 32) (st + 4 * n) p)

  pub accept_sspill : Accepted Sspill w st ss n
  unfolding bad_amount
  accept_sspill = rw (window_good w st ss g)

-- The words spilled lie below ss, and those filled from ss up.
pub spills_below : (c : StackControl) (w st ss n : ℕ) → spills c w st ss n ≡ below (length (spills c w st ss n)) ss
unfolding spills below
spills_below Sres w st ss n = spill_while_below w w (st - 4 * n) ss
spills_below Sens w st ss n = refl
spills_below Sfree w st ss n = refl
spills_below Sspill w st ss n = rw (length_below (min n ((ss - st) / 4)) ss)

pub fills_above : (c : StackControl) (st ss n : ℕ) → fills c st ss n ≡ above (length (fills c st ss n)) ss
unfolding fills above
fills_above Sres st ss n = refl
fills_above Sens st ss n = fill_while_above n n st ss
fills_above Sfree st ss n = refl
fills_above Sspill st ss n = refl

-- Their numbers in closed form.
pub length_spills : (c : StackControl) (w st ss n : ℕ) → Accepted c w st ss n → ss < 2 ^ 32
    → length (spills c w st ss n) ≡ spill_count c w st ss n
unfolding spills spill_count
length_spills Sres w st ss n e p =
    let g = accepted_window Sres w st ss n e in
    let a = accepted_sres w st n (or_right (bad_window w st ss) (bad_amount Sres w st n) e) in
    let d = (ss - (st - 4 * n)) / 4 in
    let h : ss ≡ st - 4 * n + 4 * d = omega (arith, g.spill_aligned, g.top_aligned, g.ordered, a) in
    let k : d ≤ w + w = omega (arith, g.fits, a) in
    spill_while_length w w d (st - 4 * n) ss h p k ∙ omega arith
length_spills Sens w st ss n e p = refl
length_spills Sfree w st ss n e p = refl
length_spills Sspill w st ss n e p = length_below (min n ((ss - st) / 4)) ss

pub length_fills : (c : StackControl) (w st ss n : ℕ) → Accepted c w st ss n → ss + 4 * fill_count c st ss n < 2 ^ 32
    → length (fills c st ss n) ≡ fill_count c st ss n
unfolding fills fill_count
length_fills Sres w st ss n e p = refl
length_fills Sens w st ss n e p =
    let g = accepted_window Sens w st ss n e in
    fill_while_length n n ((ss - st) / 4) st ss (omega (arith, g.spill_aligned, g.top_aligned, g.ordered)) p (omega arith)
length_fills Sfree w st ss n e p = refl
length_fills Sspill w st ss n e p = refl

-- No more is spilled than the old window has.
pub spill_room : (c : StackControl) (w st ss n : ℕ) → Accepted c w st ss n → 4 * spill_count c w st ss n ≤ ss - st
unfolding spill_count
spill_room Sres w st ss n e =
    let a = accepted_sres w st n (or_right (bad_window w st ss) (bad_amount Sres w st n) e) in
    let g = accepted_window Sres w st ss n e in
    omega (arith, a, g.ordered)
spill_room Sens w st ss n e = omega arith
spill_room Sfree w st ss n e = omega arith
spill_room Sspill w st ss n e = omega (arith, min-le_right n ((ss - st) / 4))

-- The moved words, judged by the two ends of their range.
pub spills_inside : (c : StackControl) (w lo hi st ss n : ℕ) → Accepted c w st ss n → ss < 2 ^ 32
    → every (in_area lo hi) (spills c w st ss n) ≡ inside lo hi (ss - 4 * spill_count c w st ss n) (spill_count c w st ss n)
spills_inside c w lo hi st ss n e p =
    ap (every (in_area lo hi)) (spills_below c w st ss n) ∙ ap (λ (k : ℕ). every (in_area lo hi) (below k ss)) (length_spills c w st ss n e p)
    ∙ every_below (spill_count c w st ss n) ss lo hi (omega (arith, spill_room c w st ss n e)) p

pub fills_inside : (c : StackControl) (w lo hi st ss n : ℕ) → Accepted c w st ss n → ss < 2 ^ 32 → hi < 2 ^ 32
    → every (in_area lo hi) (fills c st ss n) ≡ inside lo hi ss (fill_count c st ss n)
unfolding fills fill_count every
fills_inside Sres w lo hi st ss n e p q = refl
fills_inside Sens w lo hi st ss n e p q =
    let g = accepted_window Sens w st ss n e in
    every_fill_while n n ((ss - st) / 4) st ss lo hi (omega (arith, g.spill_aligned, g.top_aligned, g.ordered)) g.spill_aligned p q (omega arith)
fills_inside Sfree w lo hi st ss n e p q = refl
fills_inside Sspill w lo hi st ss n e p q = refl

-- Every spilled word comes from the old window.
pub spills_window : (c : StackControl) (w st ss n : ℕ) → Accepted c w st ss n → ss < 2 ^ 32
    → every (in_area st ss) (spills c w st ss n) ≡ true
spills_window c w st ss n e p =
    let k = spill_count c w st ss n in
    let r = spill_room c w st ss n e in
    let g = accepted_window c w st ss n e in
    spills_inside c w st ss st ss n e p ∙ inside_true st ss (ss - 4 * k) k (omega (arith, r, g.ordered)) (omega (arith, r))

-- An accepted instruction: ss afterwards, and the plan.
pub spill_after_closed : (c : StackControl) (w st ss n : ℕ) → Accepted c w st ss n → ss < 2 ^ 32 → ss + 4 * fill_count c st ss n < 2 ^ 32
    → spill_after c w st ss n ≡ ss_after c w st ss n
unfolding spill_after ss_after
spill_after_closed Sres w st ss n e p q = ap (λ (k : ℕ). ss - 4 * k) (length_spills Sres w st ss n e p)
spill_after_closed Sens w st ss n e p q = ap (λ (k : ℕ). ss + 4 * k) (length_fills Sens w st ss n e q)
spill_after_closed Sfree w st ss n e p q = refl
spill_after_closed Sspill w st ss n e p q = ap (λ (k : ℕ). ss - 4 * k) (length_spills Sspill w st ss n e p)

module _ (c : StackControl) (w lo hi st ss n : ℕ) (e : Accepted c w st ss n) (p : ss < 2 ^ 32) (q : hi < 2 ^ 32) where
  pub planned_moves : inside lo hi (ss - 4 * spill_count c w st ss n) (spill_count c w st ss n) ≡ true → inside lo hi ss (fill_count c st ss n) ≡ true
      → planned c w lo hi st ss n ≡ Ok (moves (top_after c st n) (ss_after c w st ss n) (spill_count c w st ss n) (fill_count c st ss n))
  unfolding planned moved_outside
  planned_moves f g =
      let r = inside_end lo hi ss (fill_count c st ss n) g p q in
      rw (e, spills_inside c w lo hi st ss n e p, f, fills_inside c w lo hi st ss n e p q, g, spill_after_closed c w st ss n e p r, length_spills c w st ss n e p, length_fills c w st ss n e r)

  pub planned_outside : inside lo hi (ss - 4 * spill_count c w st ss n) (spill_count c w st ss n) && inside lo hi ss (fill_count c st ss n) ≡ false
      → planned c w lo hi st ss n ≡ Err refusal.MoveOutside
  unfolding planned moved_outside
  planned_outside f = rw (e, spills_inside c w lo hi st ss n e p, fills_inside c w lo hi st ss n e p q, f)

-- What a plan that moves tells.
pub record Planned (c : StackControl) (w lo hi st ss n st' ss' j k : ℕ) : Type 0 where
  pub accepted : Accepted c w st ss n
  pub spills_open : every (in_area lo hi) (spills c w st ss n) ≡ true
  pub fills_open : every (in_area lo hi) (fills c st ss n) ≡ true
  pub top : st' ≡ top_after c st n
  pub spill : ss' ≡ spill_after c w st ss n
  pub spilled : j ≡ length (spills c w st ss n)
  pub filled : k ≡ length (fills c st ss n)
  pub words_below : spills c w st ss n ≡ below j ss
  pub words_above : fills c st ss n ≡ above k ss

pub planned_told : (c : StackControl) (w lo hi st ss n st' ss' j k : ℕ) → planned c w lo hi st ss n ≡ Ok (moves st' ss' j k) → Planned c w lo hi st ss n st' ss' j k
unfolding planned moved_outside
planned_told c w lo hi st ss n st' ss' j k = go (bad_window w st ss || bad_amount c w st n) (x && y) refl refl
  where
    x : Bool
    x = every (in_area lo hi) (spills c w st ss n)

    y : Bool
    y = every (in_area lo hi) (fills c st ss n)

    go : (t u : Bool) → bad_window w st ss || bad_amount c w st n ≡ t → x && y ≡ u
        → cond t (Err refusal.Window) (cond (not u) (Err refusal.MoveOutside) (Ok (moves (top_after c st n) (spill_after c w st ss n) (length (spills c w st ss n)) (length (fills c st ss n))))) ≡ Ok (moves st' ss' j k)
        → Planned c w lo hi st ss n st' ss' j k
    go true u e f h =
        let z : ◌≡◌ {A = ℕ} 0 1 = cc in
        absurd (omega arith)
    go false false e f h =
        let z : ◌≡◌ {A = ℕ} 0 1 = cc in
        absurd (omega arith)
    go false true e f h =
        let p : moves (top_after c st n) (spill_after c w st ss n) (length (spills c w st ss n)) (length (fills c st ss n)) ≡ moves st' ss' j k = cc in
        let m = ap (λ (q : Plan). q.spilled) p in
        let l = ap (λ (q : Plan). q.filled) p in
        record {
          accepted = e;
          spills_open = and_left x y f;
          fills_open = and_right x y f;
          top = ap (λ (q : Plan). q.st) (sym p);
          spill = ap (λ (q : Plan). q.ss) (sym p);
          spilled = sym m;
          filled = sym l;
          words_below = spills_below c w st ss n ∙ ap (λ (i : ℕ). below i ss) m;
          words_above = fills_above c st ss n ∙ ap (λ (i : ℕ). above i ss) l;
        }

-- The window afterwards is good again.
pub window_after : (c : StackControl) (w st ss n : ℕ) → Accepted c w st ss n → Window w (top_after c st n) (ss_after c w st ss n)
unfolding top_after ss_after spill_count fill_count bad_amount
window_after Sres w st ss n e =
    let g = accepted_window Sres w st ss n e in
    let a = accepted_sres w st n (or_right (bad_window w st ss) (bad_amount Sres w st n) e) in
    omega arith
window_after Sens w st ss n e =
    let g = accepted_window Sens w st ss n e in
    let a : n ≤ w = ltb-false w n (or_right (bad_window w st ss) (bad_amount Sens w st n) e) in
    omega arith
window_after Sfree w st ss n e = go (ltb ss (st + 4 * n)) refl
  where
    go : (t : Bool) → ltb ss (st + 4 * n) ≡ t → Window w (st + 4 * n) (max ss (st + 4 * n))
    go true f =
        let g = accepted_window Sfree w st ss n e in
        rw (max-eq_right (le_of_lt (ltb-true ss (st + 4 * n) f))) (omega arith)
    go false f =
        let g = accepted_window Sfree w st ss n e in
        let h : st + 4 * n ≤ ss = ltb-false ss (st + 4 * n) f in
        rw (max-eq_left h) (omega arith)
window_after Sspill w st ss n e =
    let g = accepted_window Sspill w st ss n e in
    let m = min-le_right n ((ss - st) / 4) in
    omega arith

pub moves_window : (c : StackControl) (w lo hi st ss n st' ss' j k : ℕ) → planned c w lo hi st ss n ≡ Ok (moves st' ss' j k) → ss < 2 ^ 32 → hi < 2 ^ 32
    → bad_window w st' ss' ≡ false
moves_window c w lo hi st ss n st' ss' j k e p q =
    let t = planned_told c w lo hi st ss n st' ss' j k e in
    let i = sym (fills_inside c w lo hi st ss n t.accepted p q) ∙ t.fills_open in
    let r = spill_after_closed c w st ss n t.accepted p (inside_end lo hi ss (fill_count c st ss n) i p q) in
    rw (t.top, t.spill, r) (window_good w (top_after c st n) (ss_after c w st ss n) (window_after c w st ss n t.accepted))
