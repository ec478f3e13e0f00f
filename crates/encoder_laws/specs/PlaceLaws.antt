-- Many numbers put into ranges that share no bit: each range then has its number, and all other bits are zero.
use Rattle.std.specs.Prelude.{ℕ, suc, ◌-◌, ◌^◌, ◌<◌, Bool, true, ◌&&◌, List, [], ◌∷◌, ◌++◌, map, ◌≡◌, refl, eqb, ltb, Option, None, Some}
use Rattle.std.proofs.lemmas.Option.{same_Some, none-some}
use Rattle.std.proofs.Math.Bool.{or_comm}
use Rattle.std.proofs.Common.{sym, ap, ◌∙◌, ltb-true, eqb-true, eq-eqb}
use Rattle.std.proofs.Math.Nat.{zero-div, zero-mod}
use Rattle.word.specs.BoolLaws.{and_left, and_right}
use Rattle.isa.specs.Format.{Range, bits, Fixed, matches}
use Rattle.decoder_laws.specs.Layout.{all}
use Rattle.fields.specs.Place.{put, placed, filled}
use Rattle.encoder_laws.specs.PutLaws.{in_word, apart, Fit, put_given, put_fits, put_same, put_keeps, put_below}

abbrev pub ranges_of : List Fixed → List Range
ranges_of ps = map (λ p. p.range) ps

-- Ranges of a word, no two of which share a bit.
abbrev pub tidy : List Range → Bool
tidy [] = true
tidy (r ∷ rs) = in_word r && (all (apart r) rs && tidy rs)

-- All these bits of a word are zero.
abbrev Clear : ℕ → List Range → Type 0
Clear w [] = Unit {0}
Clear w (r ∷ rs) = (bits r w ≡ 0) × Clear w rs

-- Every number fits its range. As a type, and as a test for numbers that are known.
abbrev pub Fits : List Fixed → Type 0
Fits [] = Unit {0}
Fits (p ∷ ps) = Fit p × Fits ps

abbrev pub fits : List Fixed → Bool
fits ps = all (λ p. ltb p.value (2 ^ (suc p.range.high - p.range.low))) ps

pub tested : (ps : List Fixed) → fits ps ≡ true → Fits ps
tested [] e = tt
tested (p ∷ ps) e =
    let t = ltb p.value (2 ^ (suc p.range.high - p.range.low)) in
    (ltb-true _ _ (and_left t _ e), tested ps (and_right t _ e))

pub fits_both : (ps qs : List Fixed) → Fits ps → Fits qs → Fits (ps ++ qs)
fits_both [] qs f g = g
fits_both (p ∷ ps) qs f g = (f.0, fits_both ps qs f.1 g)

pub fits_right : (ps qs : List Fixed) → Fits (ps ++ qs) → Fits qs
fits_right [] qs f = f
fits_right (p ∷ ps) qs f = fits_right ps qs f.1

-- The first of the numbers, and then the others.
placed_none : (ps : List Fixed) → placed None ps ≡ None
placed_none [] = refl
placed_none (p ∷ ps) = placed_none ps

pub placed_both : (w : Option ℕ) (ps qs : List Fixed) → placed w (ps ++ qs) ≡ placed (placed w ps) qs
placed_both w [] qs = refl
placed_both w (p ∷ ps) qs = placed_both (put w p) ps qs

first_put : (w v : ℕ) (p : Fixed) (ps : List Fixed) → placed (Some w) (p ∷ ps) ≡ Some v
    → (u : ℕ) × (put (Some w) p ≡ Some u) × (placed (Some u) ps ≡ Some v)
first_put w v p ps = go (put (Some w) p)
  where
    go : (o : Option ℕ) → placed o ps ≡ Some v → (u : ℕ) × (o ≡ Some u) × (placed (Some u) ps ≡ Some v)
    go None e = absurd (none-some v (sym (placed_none ps) ∙ e))
    go (Some u) e = (u, refl, e)

-- There is a word if and only if every number fits.
pub placed_fit : (w v : ℕ) (ps : List Fixed) → placed (Some w) ps ≡ Some v → Fits ps
placed_fit w v [] e = tt
placed_fit w v (p ∷ ps) e = let s = first_put w v p ps e in ((put_given w s.0 p s.1).0, placed_fit s.0 v ps s.2)

pub fit_placed : (w : ℕ) (ps : List Fixed) → Fits ps → (v : ℕ) × (placed (Some w) ps ≡ Some v)
fit_placed w [] f = (w, refl)
fit_placed w (p ∷ ps) f = let s = put_fits w p f.0 in let t = fit_placed s.0 ps f.1 in (t.0, rw s.1 t.1)

pub placed_below : (w v : ℕ) (ps : List Fixed) → w < 2 ^ 32 → placed (Some w) ps ≡ Some v → v < 2 ^ 32
placed_below w v [] h e = rw (← same_Some w v e) h
placed_below w v (p ∷ ps) h e = let s = first_put w v p ps e in placed_below s.0 v ps (put_below w s.0 p s.1) s.2

-- Bits apart from all of the ranges are as they were.
clear_after : (w v : ℕ) (p : Fixed) (rs : List Range) → in_word p.range ≡ true → bits p.range w ≡ 0 → put (Some w) p ≡ Some v
    → all (apart p.range) rs ≡ true → tidy rs ≡ true → Clear w rs → Clear v rs
clear_after w v p [] i z e a t c = tt
clear_after w v p (r ∷ rs) i z e a t c =
    let u = and_right (all (apart r) rs) _ (and_right (in_word r) _ t) in
    let k = put_keeps w v p r i z e (and_left _ _ t) (and_left _ _ a) in
    (k ∙ c.0, clear_after w v p rs i z e (and_right (apart p.range r) _ a) u c.1)

placed_keeps : (w v : ℕ) (ps : List Fixed) (r : Range) → tidy (ranges_of ps) ≡ true → Clear w (ranges_of ps) → placed (Some w) ps ≡ Some v
    → in_word r ≡ true → all (apart r) (ranges_of ps) ≡ true → bits r v ≡ bits r w
placed_keeps w v [] r t c e i a = ap (bits r) (sym (same_Some w v e))
placed_keeps w v (p ∷ ps) r t c e i a =
    let s = first_put w v p ps e in
    let j = and_left (in_word p.range) _ t in
    let u = and_right (in_word p.range) _ t in
    let l = and_right (all (apart p.range) (ranges_of ps)) _ u in
    let d = clear_after w s.0 p (ranges_of ps) j c.0 s.1 (and_left _ _ u) l c.1 in
    placed_keeps s.0 v ps r l d s.2 i (and_right (apart r p.range) _ a)
    ∙ put_keeps w s.0 p r j c.0 s.1 i (or_comm (ltb p.range.high r.low) _ ∙ and_left _ _ a)

-- Each range has its number.
placed_has : (w v : ℕ) (ps : List Fixed) → tidy (ranges_of ps) ≡ true → Clear w (ranges_of ps) → placed (Some w) ps ≡ Some v
    → matches ps v ≡ true
placed_has w v [] t c e = refl
placed_has w v (p ∷ ps) t c e =
    let s = first_put w v p ps e in
    let j = and_left (in_word p.range) _ t in
    let u = and_right (in_word p.range) _ t in
    let a = and_left (all (apart p.range) (ranges_of ps)) _ u in
    let l = and_right (all (apart p.range) (ranges_of ps)) _ u in
    let d = clear_after w s.0 p (ranges_of ps) j c.0 s.1 a l c.1 in
    rw (placed_keeps s.0 v ps p.range l d s.2 j a, eq-eqb _ _ (put_same w s.0 p j c.0 s.1))
    (placed_has s.0 v ps l d s.2)

-- From zero on.
zero_clear : (rs : List Range) → Clear 0 rs
zero_clear [] = tt
zero_clear (r ∷ rs) = (rw zero-div (zero-mod _), zero_clear rs)

pub placed_matches : (v : ℕ) (ps : List Fixed) → tidy (ranges_of ps) ≡ true → placed (Some 0) ps ≡ Some v → matches ps v ≡ true
placed_matches v ps t e = placed_has 0 v ps t (zero_clear (ranges_of ps)) e

pub placed_zero : (v : ℕ) (ps : List Fixed) (r : Range) → tidy (ranges_of ps) ≡ true → placed (Some 0) ps ≡ Some v
    → in_word r ≡ true → all (apart r) (ranges_of ps) ≡ true → bits r v ≡ 0
placed_zero v ps r t e i a = placed_keeps 0 v ps r t (zero_clear (ranges_of ps)) e i a ∙ (zero_clear (r ∷ [])).0

-- What was matched together was matched apart.
pub matches_head : (p : Fixed) (ps : List Fixed) (w : ℕ) → matches (p ∷ ps) w ≡ true → bits p.range w ≡ p.value
matches_head p ps w m = eqb-true _ _ (and_left (eqb (bits p.range w) p.value) _ m)

pub matches_tail : (p : Fixed) (ps : List Fixed) (w : ℕ) → matches (p ∷ ps) w ≡ true → matches ps w ≡ true
matches_tail p ps w m = and_right (eqb (bits p.range w) p.value) _ m

pub matches_left : (ps qs : List Fixed) (w : ℕ) → matches (ps ++ qs) w ≡ true → matches ps w ≡ true
matches_left [] qs w m = refl
matches_left (p ∷ ps) qs w m = rw (and_left (eqb (bits p.range w) p.value) _ m) (matches_left ps qs w (matches_tail p (ps ++ qs) w m))

pub matches_right : (ps qs : List Fixed) (w : ℕ) → matches (ps ++ qs) w ≡ true → matches qs w ≡ true
matches_right [] qs w m = m
matches_right (p ∷ ps) qs w m = matches_right ps qs w (matches_tail p (ps ++ qs) w m)

-- Fields filled with numbers have the ranges of the fields, or of the first of them: what is tidy with all is tidy with these.
pub all_filled : (t : Range → Bool) (ps : List Fixed) (rs : List Range) (ns : List ℕ) → all t (ranges_of ps ++ rs) ≡ true
    → all t (ranges_of (ps ++ filled rs ns)) ≡ true
all_filled t (p ∷ ps) rs ns e = rw (and_left (t p.range) _ e) (all_filled t ps rs ns (and_right (t p.range) _ e))
all_filled t [] [] ns e = refl
all_filled t [] (r ∷ rs) [] e = refl
all_filled t [] (r ∷ rs) (n ∷ ns) e = rw (and_left (t r) _ e) (all_filled t [] rs ns (and_right (t r) _ e))

pub tidy_filled : (ps : List Fixed) (rs : List Range) (ns : List ℕ) → tidy (ranges_of ps ++ rs) ≡ true
    → tidy (ranges_of (ps ++ filled rs ns)) ≡ true
tidy_filled (p ∷ ps) rs ns e = let u = and_right (in_word p.range) _ e in
    rw (and_left (in_word p.range) _ e, all_filled (apart p.range) ps rs ns (and_left _ _ u))
    (tidy_filled ps rs ns (and_right (all (apart p.range) (ranges_of ps ++ rs)) _ u))
tidy_filled [] [] ns e = refl
tidy_filled [] (r ∷ rs) [] e = refl
tidy_filled [] (r ∷ rs) (n ∷ ns) e = let u = and_right (in_word r) _ e in
    rw (and_left (in_word r) _ e, all_filled (apart r) [] rs ns (and_left _ _ u)) (tidy_filled [] rs ns (and_right (all (apart r) rs) _ u))
