-- Bits without a meaning: a written word has zeros there, and a word that is read and has zeros there is the word that is written.
use Rattle.std.specs.Prelude.{ℕ, zero, suc, ◌+◌, ◌-◌, ◌*◌, ◌/◌, ◌%◌, ◌^◌, ◌<◌, Bool, true, cond, ◌&&◌, List, [], ◌∷◌, ◌++◌, map, ◌≡◌, refl, Some}
use Rattle.std.proofs.lemmas.Option.{same_Some, none-some}
use Rattle.std.proofs.Common.{true≢false, sym, ap, ap₂, ◌∙◌, subst, mod-eq_of_lt, mod-lt, one-add, arith, pow_pos}
use Rattle.std.proofs.lemmas.Nat.{mod-pow-add}
use Rattle.word.specs.BoolLaws.{and_left, and_right}
use Rattle.isa.specs.Format.{Range, bits, Fixed, ◌≔◌, Format, matches}
use Rattle.decoder_laws.specs.Layout as layout
use Rattle.decoder_laws.specs.Layout.{Shape, shape, all, is_in, differ, all_differ}
use Rattle.fields.specs.Place.{Fields, ◌⟨◌⟩, at, placed, filled, writing}
use Rattle.encoder_laws.specs.PutLaws.{in_word, apart}
use Rattle.encoder_laws.specs.PlaceLaws.{matches_head, matches_tail, ranges_of, tidy, Fits, placed_zero, tidy_filled, all_filled}
use Rattle.encoder_laws.specs.FormatLaws.{unlike, bit_in, either_of, unmatched, at_all, covers, is_sound, sound_at, InFormat, in_format_lem, numbers_in, Found, read_write}

-- Ranges that have the number 0.
abbrev pub blanks : List Range → List Fixed
blanks rs = map (λ r. r ≔ 0) rs

-- A written word has zeros in the bits that its format leaves without a meaning.
placed_blank : (w : ℕ) (ps : List Fixed) (rs : List Range) (ns : List ℕ) (us : List Range) → tidy (ranges_of (ps ++ filled rs ns)) ≡ true
    → placed (Some 0) (ps ++ filled rs ns) ≡ Some w
    → all (λ r. in_word r && all (apart r) (ranges_of ps ++ rs)) us ≡ true → matches (blanks us) w ≡ true
placed_blank w ps rs ns [] t p a = refl
placed_blank w ps rs ns (u ∷ us) t p a = let h = and_left (in_word u && all (apart u) (ranges_of ps ++ rs)) _ a in
    rw (placed_zero w (ps ++ filled rs ns) u t p (and_left (in_word u) _ h) (all_filled (apart u) ps rs ns (and_right (in_word u) _ h)))
    (placed_blank w ps rs ns us t p (and_right (in_word u && all (apart u) (ranges_of ps ++ rs)) _ a))

unused_blank : {A : Type 0} (fs : List (Format A)) (outer : List Fixed) (t : Fields) (w : ℕ)
    → all (is_sound outer) (map shape fs) ≡ true → (i : InFormat fs outer t w) → matches (blanks i.form.unused) w ≡ true
unused_blank fs outer t w s i = let f = i.form in
    let h = sound_at fs outer t.format f s i.found in
    let d = tidy_filled (outer ++ f.fixed) f.fields t.numbers h.tidied in
    placed_blank w (outer ++ f.fixed) f.fields t.numbers f.unused d i.whole h.spared

pub unused_zero : {A : Type 0} (fs : List (Format A)) (outer : List Fixed) (t : Fields) (w : ℕ) (f : Format A)
    → all (is_sound outer) (map shape fs) ≡ true → writing fs (placed (Some 0) outer) t ≡ Some w → at fs t.format ≡ Some f
    → matches (blanks f.unused) w ≡ true
unused_zero {A} fs outer t w f s q k = let i = in_format_lem fs outer t w s q in
    subst (λ (g : Format A). matches (blanks g.unused) w ≡ true) (same_Some i.form f (sym i.found ∙ k))
    (unused_blank fs outer t w s i)

-- Two words with the same numbers in ranges that have all 32 bits are the same word.
abbrev Same : ℕ → ℕ → List Range → Type 0
Same v w [] = Unit {0}
Same v w (r ∷ rs) = (bits r v ≡ bits r w) × Same v w rs

same_bit : (v w b : ℕ) (rs : List Range) → Same v w rs → layout.some (is_in b) rs ≡ true → v / 2 ^ b % 2 ≡ w / 2 ^ b % 2
same_bit v w b [] s e = absurd (true≢false (sym e))
same_bit v w b (r ∷ rs) s e = either_of (is_in b r) _
    (λ h. bit_in b r v h ∙ ap (λ (x : ℕ). x / 2 ^ (b - r.low) % 2) s.0 ∙ sym (bit_in b r w h)) (same_bit v w b rs s.1) e

same_low : (v w : ℕ) (rs : List Range) → Same v w rs → (n : ℕ) → covers rs n ≡ true → v % 2 ^ n ≡ w % 2 ^ n
same_low v w rs s zero e = omega arith
same_low v w rs s (suc n) e =
    upper v ∙ ap₂ (λ (x y : ℕ). x * 2 ^ n + y) (same_bit v w n rs s (and_left _ _ e))
    (same_low v w rs s n (and_right (layout.some (is_in n) rs) _ e)) ∙ sym (upper w)
  where
    upper : (x : ℕ) → x % 2 ^ suc n ≡ (x / 2 ^ n % 2) * 2 ^ n + x % 2 ^ n
    upper x = ap (λ (k : ℕ). x % 2 ^ k) (sym (one-add n)) ∙ mod-pow-add x 1 n

same_word : (v w : ℕ) (rs : List Range) → Same v w rs → covers rs 32 ≡ true → v < 2 ^ 32 → w < 2 ^ 32 → v ≡ w
same_word v w rs s e p q = sym (mod-eq_of_lt p) ∙ same_low v w rs s 32 e ∙ mod-eq_of_lt q

same_both : (v w : ℕ) (rs ss : List Range) → Same v w rs → Same v w ss → Same v w (rs ++ ss)
same_both v w [] ss s t = t
same_both v w (r ∷ rs) ss s t = (s.0, same_both v w rs ss s.1 t)

same_matched : (v w : ℕ) (ps : List Fixed) → matches ps v ≡ true → matches ps w ≡ true → Same v w (ranges_of ps)
same_matched v w [] m n = tt
same_matched v w (p ∷ ps) m n =
    (matches_head p ps v m ∙ sym (matches_head p ps w n), same_matched v w ps (matches_tail p ps v m) (matches_tail p ps w n))

same_blank : (v w : ℕ) (rs : List Range) → matches (blanks rs) v ≡ true → matches (blanks rs) w ≡ true → Same v w rs
same_blank v w [] m n = tt
same_blank v w (r ∷ rs) m n = let p = r ≔ 0 in let ps = blanks rs in
    (matches_head p ps v m ∙ sym (matches_head p ps w n), same_blank v w rs (matches_tail p ps v m) (matches_tail p ps w n))

same_filled : (v w : ℕ) (rs : List Range) → matches (filled rs (numbers_in rs w)) v ≡ true → Same v w rs
same_filled v w [] m = tt
same_filled v w (r ∷ rs) m = let p = r ≔ bits r w in let ps = filled rs (numbers_in rs w) in
    (matches_head p ps v m, same_filled v w rs (matches_tail p ps v m))

matched_fits : (ps : List Fixed) (w : ℕ) → matches ps w ≡ true → Fits ps
matched_fits [] w m = tt
matched_fits (p ∷ ps) w m =
    let h = subst (λ (n : ℕ). n < 2 ^ (suc p.range.high - p.range.low)) (matches_head p ps w m) (mod-lt _ (pow_pos _)) in
    (h, matched_fits ps w (matches_tail p ps w m))

-- A word that is read, and has zeros in the bits that its format leaves without a meaning, is the word that its numbers are written as.
pub whole_word : {A : Type 0} (P : A → ℕ → List ℕ → Type 0) (fs : List (Format A)) (outer : List Fixed) (w : ℕ) (a : A)
    → all (is_sound outer) (map shape fs) ≡ true → (g : Found P fs w a)
    → matches outer w ≡ true → matches (blanks g.form.unused) w ≡ true → w < 2 ^ 32
    → writing fs (placed (Some 0) outer) (g.place ⟨ numbers_in g.form.fields w ⟩) ≡ Some w
whole_word {A} P fs outer w a s g m u h = let v = read_write P fs outer w a s (matched_fits outer w m) g in
    let i = in_format_lem fs outer (g.place ⟨ numbers_in g.form.fields w ⟩) v.0 s v.1 in
    v.1 ∙ ap Some (go v.0 i (subst Has (same_Some g.form i.form (sym g.found ∙ i.found)) (g.inside, u, refl)))
  where
    Has : Format A → Type 0
    Has f =
        (matches f.fixed w ≡ true) × (matches (blanks f.unused) w ≡ true)
        × (numbers_in g.form.fields w ≡ numbers_in f.fields w)

    go : (v : ℕ) (i : InFormat fs outer (g.place ⟨ numbers_in g.form.fields w ⟩) v) → Has i.form → v ≡ w
    go v i k = let f = i.form in
        let x = same_matched v w outer i.outside m in
        let y = same_matched v w f.fixed i.inside k.0 in
        let z = same_filled v w f.fields (subst (λ ns. matches (filled f.fields ns) v ≡ true) k.2 i.field) in
        let u = same_blank v w f.unused (unused_blank fs outer _ v s i) k.1 in
        let All-same = same_both v w (ranges_of outer) _ x (same_both v w (ranges_of f.fixed) _ y (same_both v w f.fields _ z u)) in
        same_word v w (ranges_of outer ++ (ranges_of f.fixed ++ (f.fields ++ f.unused))) All-same
        (sound_at fs outer g.place f s i.found).filling i.word h

-- A word is bare for a list of formats if the format that it matches, if there is one, finds zeros in its bits without a meaning.
unfoldable pub bare : {A : Type 0} → List (Format A) → ℕ → Bool
bare [] w = true
bare (f ∷ fs) w = cond (matches f.fixed w) (matches (blanks f.unused) w) (bare fs w)

bare_none : {A : Type 0} (fs : List (Format A)) (s : Shape) (w : ℕ) → all (λ t. differ t s) (map shape fs) ≡ true
    → matches s.fixed w ≡ true → bare fs w ≡ true
unfolding bare
bare_none [] s w d m = refl
bare_none (f ∷ fs) s w d m = rw (unmatched (shape f) s w (and_left _ _ d) m) (bare_none fs s w (and_right (differ (shape f) s) _ d) m)

bare_at : {A : Type 0} (fs : List (Format A)) (k : ℕ) (f : Format A) (w : ℕ)
    → all_differ (map shape fs) ≡ true → at fs k ≡ Some f → matches f.fixed w ≡ true → bare fs w ≡ matches (blanks f.unused) w
unfolding bare
bare_at [] k f w d e m = absurd (none-some f e)
bare_at {A} (h ∷ fs) zero f w d e m =
    subst (λ (g : Format A). matches g.fixed w ≡ true → bare (h ∷ fs) w ≡ matches (blanks g.unused) w) (same_Some h f e)
    (λ n. rw n refl) m
bare_at (h ∷ fs) (suc k) f w d e m =
    rw (unmatched (shape h) (shape f) w (at_all (differ (shape h)) fs k f (and_left _ _ d) e) m)
    (bare_at fs k f w (and_right (all (differ (shape h)) (map shape fs)) _ d) e m)

-- What is written is bare, for its own list and for one that differs from it.
pub write_bare : {A : Type 0} (fs : List (Format A)) (outer : List Fixed) (t : Fields) (w : ℕ)
    → all_differ (map shape fs) ≡ true → all (is_sound outer) (map shape fs) ≡ true → InFormat fs outer t w → bare fs w ≡ true
write_bare fs outer t w d s i = bare_at fs t.format i.form w d i.found i.inside ∙ unused_blank fs outer t w s i

pub other_bare : {A B : Type 0} (gs : List (Format B)) (fs : List (Format A)) (outer : List Fixed) (t : Fields) (w : ℕ)
    → unlike gs fs ≡ true → InFormat fs outer t w → bare gs w ≡ true
other_bare gs fs outer t w d i = bare_none gs (shape i.form) w
    (at_all (λ s. all (λ r. differ r s) (map shape gs)) fs t.format i.form d i.found) i.inside

-- What is read from a bare word is written as that word.
pub read_whole : {A : Type 0} (P : A → ℕ → List ℕ → Type 0) (fs : List (Format A)) (outer : List Fixed) (w : ℕ) (a : A)
    → all_differ (map shape fs) ≡ true → all (is_sound outer) (map shape fs) ≡ true
    → (g : Found P fs w a) → matches outer w ≡ true → bare fs w ≡ true → w < 2 ^ 32
    → writing fs (placed (Some 0) outer) (g.place ⟨ numbers_in g.form.fields w ⟩) ≡ Some w
read_whole P fs outer w a d s g m b h = whole_word P fs outer w a s g m
    (sym (bare_at fs g.place g.form w d g.found g.inside) ∙ b) h
