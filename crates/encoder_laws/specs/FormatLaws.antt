-- Lists of formats, of any values: a word written in one of them is read by that one, and what is read can be written. What is asked
-- of a list is a test on its formats as data, and what its cases and its formats supply (`Tells`, `AllBack`).
use Rattle.std.specs.Prelude.{ℕ, zero, suc, ◌+◌, ◌-◌, ◌/◌, ◌%◌, ◌^◌, ◌<◌, ◌≤◌, Bool, true, false, cond, ◌&&◌, ◌||◌, List, [], ◌∷◌, ◌++◌, map, ◌≡◌, refl, eqb, leb, Option, None, Some, IfSome}
use Rattle.std.proofs.lemmas.Option.{same_Some, none-some}
use Rattle.std.proofs.Common.{true≢false, sym, ap, ◌∙◌, subst, mod-lt, arith, pow_pos, shr-shr, leb-true, eqb-true}
use Rattle.std.proofs.Math.Pow.{field, mod-mod-pow}
use Rattle.word.specs.BoolLaws.{and_left, and_right}
use Rattle.isa.specs.Format.{Range, bits, Fixed, ◌≔◌, Meaning, Format, matches, said, reading}
use Rattle.decoder_laws.specs.Layout as layout
use Rattle.decoder_laws.specs.Layout.{Shape, shape, all, below, is_in, fixes, differ, all_differ}
use Rattle.fields.specs.Place.{Fields, ◌⟨◌⟩, at, placed, filled, in_format, writing}
use Rattle.encoder_laws.specs.PutLaws.{in_word, apart}
use Rattle.encoder_laws.specs.PlaceLaws.{ranges_of, tidy, Fits, fits, tested, fits_both, fits_right, placed_both, placed_fit, fit_placed, placed_below, placed_matches, matches_head, matches_tail, matches_left, matches_right, tidy_filled}

-- A bit of a word is a bit of the number in any range around it.
pub bit_in : (b : ℕ) (r : Range) (w : ℕ) → is_in b r ≡ true → w / 2 ^ b % 2 ≡ bits r w / 2 ^ (b - r.low) % 2
bit_in b r w e = go (leb-true r.low b (and_left (leb r.low b) _ e)) (leb-true b r.high (and_right (leb r.low b) _ e))
  where
    go : r.low ≤ b → b ≤ r.high → w / 2 ^ b % 2 ≡ bits r w / 2 ^ (b - r.low) % 2
    go p q =
        let y = w / 2 ^ r.low in
        let j = b - r.low in
        let i = r.high - b in
        let wide : suc r.high - r.low ≡ (i + 1) + j = omega arith in
        let up : b ≡ r.low + j = omega arith in
        ap (λ (x : ℕ). w / 2 ^ x % 2) up ∙ ap (λ (x : ℕ). x % 2) (sym (shr-shr w r.low j)) ∙ sym (mod-mod-pow (y / 2 ^ j) i 1)
        ∙ ap (λ (x : ℕ). x % 2) (sym (field y (i + 1) j)) ∙ ap (λ (x : ℕ). y % 2 ^ x / 2 ^ j % 2) (sym wide)

pub either_of : {C : Type 0} (a b : Bool) → (a ≡ true → C) → (b ≡ true → C) → a || b ≡ true → C
either_of true b f g e = f refl
either_of false b f g e = g e

-- A bit that a matching format fixes has that value. So no word matches two formats that differ.
pub fixed_bit : (ps : List Fixed) (b v w : ℕ)
    → layout.some (λ f. is_in b f.range && eqb (f.value / 2 ^ (b - f.range.low) % 2) v) ps ≡ true
    → matches ps w ≡ true → w / 2 ^ b % 2 ≡ v
fixed_bit [] b v w e m = absurd (true≢false (sym e))
fixed_bit (p ∷ ps) b v w e m = either_of (is_in b p.range && eqb (p.value / 2 ^ (b - p.range.low) % 2) v) _
    (λ f. bit_in b p.range w (and_left (is_in b p.range) _ f)
    ∙ ap (λ (x : ℕ). x / 2 ^ (b - p.range.low) % 2) (matches_head p ps w m) ∙ eqb-true _ _ (and_right (is_in b p.range) _ f))
    (λ o. fixed_bit ps b v w o (matches_tail p ps w m)) e

none_of : {A : Type 0} (t : A → Bool) (l : List A) → ((a : A) → t a ≡ true → ⊥) → layout.some t l ≡ true → ⊥
none_of t [] n e = true≢false (sym e)
none_of t (a ∷ l) n e = either_of (t a) (layout.some t l) (n a) (none_of t l n) e

not_both : (s t : Shape) (w : ℕ) → differ s t ≡ true → matches s.fixed w ≡ true → matches t.fixed w ≡ true → ⊥
not_both s t w d p q = none_of (λ b. (fixes s b 0 && fixes t b 1) || (fixes s b 1 && fixes t b 0)) (below 32)
    (λ b. either_of (fixes s b 0 && fixes t b 1) _ (clash b 0 1 (λ e. omega arith)) (clash b 1 0 (λ e. omega arith))) d
  where
    clash : (b v u : ℕ) → (v ≡ u → ⊥) → fixes s b v && fixes t b u ≡ true → ⊥
    clash b v u n e = n (sym (fixed_bit s.fixed b v w (and_left (fixes s b v) _ e) p)
        ∙ fixed_bit t.fixed b u w (and_right (fixes s b v) _ e) q)

pub unmatched : (s t : Shape) (w : ℕ) → differ s t ≡ true → matches t.fixed w ≡ true → matches s.fixed w ≡ false
unmatched s t w d q = go (matches s.fixed w) (λ p. not_both s t w d p q)
  where
    go : (x : Bool) → (x ≡ true → ⊥) → x ≡ false
    go true n = absurd (n refl)
    go false n = refl

-- What holds of all the formats of a list holds of the one at a place.
pub at_all : {A : Type 0} (t : Shape → Bool) (fs : List (Format A)) (k : ℕ) (f : Format A) → all t (map shape fs) ≡ true → at fs k ≡ Some f
    → t (shape f) ≡ true
at_all t [] k f a e = absurd (none-some f e)
at_all t (h ∷ fs) zero f a e = ap (λ x. t (shape x)) (sym (same_Some h f e)) ∙ and_left _ _ a
at_all t (h ∷ fs) (suc k) f a e = at_all t fs k f (and_right (t (shape h)) _ a) e

-- A word is read by the format that it matches, and by none of a list that differs from that.
reading_none : {A : Type 0} (fs : List (Format A)) (s : Shape) (w : ℕ) → all (λ t. differ t s) (map shape fs) ≡ true
    → matches s.fixed w ≡ true → reading fs w ≡ None
unfolding reading
reading_none [] s w d m = refl
reading_none (f ∷ fs) s w d m = rw (unmatched (shape f) s w (and_left _ _ d) m) (reading_none fs s w (and_right (differ (shape f) s) _ d) m)

reading_at : {A : Type 0} (fs : List (Format A)) (k : ℕ) (f : Format A) (w : ℕ)
    → all_differ (map shape fs) ≡ true → at fs k ≡ Some f → matches f.fixed w ≡ true → reading fs w ≡ said f.fields f.meaning w
unfolding reading
reading_at [] k f w d e m = absurd (none-some f e)
reading_at {A} (h ∷ fs) zero f w d e m =
    subst (λ (g : Format A). matches g.fixed w ≡ true → reading (h ∷ fs) w ≡ said g.fields g.meaning w)
    (same_Some h f e) (λ n. rw n refl) m
reading_at (h ∷ fs) (suc k) f w d e m =
    rw (unmatched (shape h) (shape f) w (at_all (differ (shape h)) fs k f (and_left _ _ d) e) m)
    (reading_at fs k f w (and_right (all (differ (shape h)) (map shape fs)) _ d) e m)

-- What the fields say at given numbers.
abbrev pub said_of : {A : Type 0} → (rs : List Range) → Meaning A rs → List ℕ → Option A
said_of [] m [] = m
said_of [] m (n ∷ ns) = None
said_of (r ∷ rs) m [] = None
said_of (r ∷ rs) m (n ∷ ns) = said_of rs (m n) ns

said_filled : {A : Type 0} (rs : List Range) (m : Meaning A rs) (ns : List ℕ) (a : A) (w : ℕ) → matches (filled rs ns) w ≡ true
    → said_of rs m ns ≡ Some a → said rs m w ≡ Some a
said_filled [] m [] a w e s = s
said_filled [] m (n ∷ ns) a w e s = absurd (none-some a s)
said_filled (r ∷ rs) m [] a w e s = absurd (none-some a s)
said_filled (r ∷ rs) m (n ∷ ns) a w e s =
    rw (matches_head (r ≔ n) (filled rs ns) w e) (said_filled rs (m n) ns a w (matches_tail (r ≔ n) (filled rs ns) w e) s)

-- What each case supplies: the numbers of its fields, if they fit, say the case again.
abbrev pub Tells : {A : Type 0} → A → Option (Format A) → List ℕ → Type 0
Tells a None ns = Unit {0}
Tells a (Some f) ns = Fits (filled f.fields ns) → said_of f.fields f.meaning ns ≡ Some a

-- What is asked of a format, with the bits outside of it: no two of its ranges share a bit, its fixed numbers fit, its bits without a
-- meaning share none with the others, and every bit has a range.
abbrev pub spare : List Fixed → Shape → Bool
spare outer s = all (λ r. in_word r && all (apart r) (ranges_of (outer ++ s.fixed) ++ s.fields)) s.unused

abbrev pub covers : List Range → ℕ → Bool
covers rs n = all (λ b. layout.some (is_in b) rs) (below n)

abbrev pub full : List Fixed → Shape → Bool
full outer s = covers (ranges_of outer ++ (ranges_of s.fixed ++ (s.fields ++ s.unused))) 32

abbrev pub is_sound : List Fixed → Shape → Bool
is_sound outer s = (tidy (ranges_of (outer ++ s.fixed) ++ s.fields) && fits s.fixed) && (spare outer s && full outer s)

pub record Sound (outer : List Fixed) (s : Shape) : Type 0 where
  pub tidied : tidy (ranges_of (outer ++ s.fixed) ++ s.fields) ≡ true
  pub fitted : Fits s.fixed
  pub spared : spare outer s ≡ true
  pub filling : full outer s ≡ true

pub sound_at : {A : Type 0} (fs : List (Format A)) (outer : List Fixed) (k : ℕ) (f : Format A)
    → all (is_sound outer) (map shape fs) ≡ true → at fs k ≡ Some f → Sound outer (shape f)
sound_at fs outer k f a e = let s = shape f in
    let t = at_all (is_sound outer) fs k f a e in
    let c = tidy (ranges_of (outer ++ s.fixed) ++ s.fields) in
    let l = and_left (c && fits s.fixed) _ t in
    let r = and_right (c && fits s.fixed) _ t in
    record {
      tidied = and_left c _ l;
      fitted = tested s.fixed (and_right c _ l);
      spared = and_left (spare outer s) _ r;
      filling = and_right (spare outer s) _ r;
    }

-- A written word has the numbers of its format, and those outside of it.
pub record InFormat {A : Type 0} (fs : List (Format A)) (outer : List Fixed) (t : Fields) (w : ℕ) : Type 0 where
  pub form : Format A
  pub found : at fs t.format ≡ Some form
  pub whole : placed (Some 0) ((outer ++ form.fixed) ++ filled form.fields t.numbers) ≡ Some w
  pub outside : matches outer w ≡ true
  pub inside : matches form.fixed w ≡ true
  pub field : matches (filled form.fields t.numbers) w ≡ true
  pub fitting : Fits (filled form.fields t.numbers)
  pub word : w < 2 ^ 32

pub in_format_lem : {A : Type 0} (fs : List (Format A)) (outer : List Fixed) (t : Fields) (w : ℕ)
    → all (is_sound outer) (map shape fs) ≡ true → writing fs (placed (Some 0) outer) t ≡ Some w → InFormat fs outer t w
unfolding writing
in_format_lem {A} fs outer t w s = go (at fs t.format) refl
  where
    go : (o : Option (Format A)) → at fs t.format ≡ o → in_format (placed (Some 0) outer) o t.numbers ≡ Some w → InFormat fs outer t w
    go None e q = absurd (none-some w q)
    go (Some f) e q = let l = filled f.fields t.numbers in
        let p = placed_both (Some 0) (outer ++ f.fixed) l ∙ ap (λ x. placed x l) (placed_both (Some 0) outer f.fixed)
        ∙ sym (placed_both (placed (Some 0) outer) f.fixed l) ∙ q in
        let d = tidy_filled (outer ++ f.fixed) f.fields t.numbers (sound_at fs outer t.format f s e).tidied in
        let m = placed_matches w ((outer ++ f.fixed) ++ l) d p in
        let n = matches_left (outer ++ f.fixed) l w m in
        record {
          form = f;
          found = e;
          whole = p;
          outside = matches_left outer f.fixed w n;
          inside = matches_right outer f.fixed w n;
          field = matches_right (outer ++ f.fixed) l w m;
          fitting = fits_right (outer ++ f.fixed) l (placed_fit 0 w ((outer ++ f.fixed) ++ l) p);
          word = placed_below 0 w ((outer ++ f.fixed) ++ l) (omega arith) p;
        }

-- What is written is read as the case that was written.
pub write_read : {A : Type 0} (fs : List (Format A)) (outer : List Fixed) (t : Fields) (a : A) (w : ℕ)
    → all_differ (map shape fs) ≡ true → Tells a (at fs t.format) t.numbers → InFormat fs outer t w → reading fs w ≡ Some a
write_read fs outer t a w d h i =
    reading_at fs t.format i.form w d i.found i.inside
    ∙ said_filled i.form.fields i.form.meaning t.numbers a w i.field
    (subst (λ x. Tells a x t.numbers) i.found h i.fitting)

-- Each format of the one list differs from each of the other. So the one reads nothing from a word of the other.
abbrev pub unlike : {A B : Type 0} → List (Format B) → List (Format A) → Bool
unlike gs fs = all (λ s. all (λ r. differ r s) (map shape gs)) (map shape fs)

pub read_other : {A B : Type 0} (gs : List (Format B)) (fs : List (Format A)) (outer : List Fixed) (t : Fields) (w : ℕ)
    → unlike gs fs ≡ true → InFormat fs outer t w → reading gs w ≡ None
read_other gs fs outer t w d i = reading_none gs (shape i.form) w
    (at_all (λ s. all (λ r. differ r s) (map shape gs)) fs t.format i.form d i.found) i.inside

-- What each format supplies: for numbers that fit its fields, P holds of what they say, of the format's place and of the numbers.
abbrev pub Back : {A : Type 0} → (A → List ℕ → Type 0) → (rs : List Range) → Meaning A rs → Type 0
Back P [] m = IfSome m (λ a. P a [])
Back P (r ∷ rs) m = (n : ℕ) → n < 2 ^ (suc r.high - r.low) → Back (λ a ns. P a (n ∷ ns)) rs (m n)

abbrev pub AllBack : {A : Type 0} → (A → ℕ → List ℕ → Type 0) → List (Format A) → Type 0
AllBack P [] = Unit {0}
AllBack P (f ∷ fs) = Back (λ a. P a 0) f.fields f.meaning × AllBack (λ a k. P a (suc k)) fs

-- The numbers that a word has in the fields.
abbrev pub numbers_in : List Range → ℕ → List ℕ
numbers_in rs w = map (λ r. bits r w) rs

numbers_fit : (rs : List Range) (w : ℕ) → Fits (filled rs (numbers_in rs w))
numbers_fit [] w = tt
numbers_fit (r ∷ rs) w = (mod-lt _ (pow_pos _), numbers_fit rs w)

back_said : {A : Type 0} (P : A → List ℕ → Type 0) (rs : List Range) (m : Meaning A rs) (w : ℕ) (a : A) → Back P rs m
    → said rs m w ≡ Some a → P a (numbers_in rs w)
back_said P [] m w a b e = subst (λ o. IfSome o (λ a. P a [])) e b
back_said P (r ∷ rs) m w a b e = back_said (λ a ns. P a (bits r w ∷ ns)) rs (m (bits r w)) w a (b (bits r w) (mod-lt _ (pow_pos _))) e

-- A word that is read has a format, and its numbers there say what was read.
pub record Found {A : Type 0} (P : A → ℕ → List ℕ → Type 0) (fs : List (Format A)) (w : ℕ) (a : A) : Type 0 where
  pub place : ℕ
  pub form : Format A
  pub found : at fs place ≡ Some form
  pub inside : matches form.fixed w ≡ true
  pub says : P a place (numbers_in form.fields w)

pub find : {A : Type 0} (P : A → ℕ → List ℕ → Type 0) (fs : List (Format A)) (w : ℕ) (a : A) → AllBack P fs → reading fs w ≡ Some a
    → Found P fs w a
unfolding reading
find P [] w a b e = absurd (none-some a e)
find {A} P (f ∷ fs) w a b e = go (matches f.fixed w) refl e (find (λ a k. P a (suc k)) fs w a b.1)
  where
    go : (t : Bool) → matches f.fixed w ≡ t → cond t (said f.fields f.meaning w) (reading fs w) ≡ Some a
        → (reading fs w ≡ Some a → Found (λ a k. P a (suc k)) fs w a) → Found P (f ∷ fs) w a
    go true m q rest =
        let h = back_said (λ a. P a 0) f.fields f.meaning w a b.0 q in
        record { place = 0; form = f; found = refl; inside = m; says = h }
    go false m q rest =
        let r = rest q in
        record { place = suc r.place; form = r.form; found = r.found; inside = r.inside; says = r.says }

-- What is read can be written, after any numbers outside of the formats that fit.
pub read_write : {A : Type 0} (P : A → ℕ → List ℕ → Type 0) (fs : List (Format A)) (outer : List Fixed) (w : ℕ) (a : A)
    → all (is_sound outer) (map shape fs) ≡ true → Fits outer
    → (g : Found P fs w a) → (v : ℕ) × (writing fs (placed (Some 0) outer) (g.place ⟨ numbers_in g.form.fields w ⟩) ≡ Some v)
unfolding writing
read_write P fs outer w a s h g = let u = fit_placed 0 outer h in let f = g.form in
    let b = fits_both f.fixed _ (sound_at fs outer g.place f s g.found).fitted (numbers_fit f.fields w) in
    let v = fit_placed u.0 (f.fixed ++ filled f.fields (numbers_in f.fields w)) b in
    (v.0, rw (g.found, u.1) v.1)
