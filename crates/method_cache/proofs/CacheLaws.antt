-- Laws of the method cache: that the replacement is what is asked for, that a lookup keeps what 11 lets pass, and lookups one after the
-- other.
use Rattle.std.specs.Prelude.{ℕ, zero, suc, ◌+◌, ◌/◌, ◌<◌, ◌≤◌, Bool, not, ◌&&◌, ◌||◌, ◌≡◌, eqb, ltb, length, drop}
use Rattle.std.proofs.Common.{suc-le-suc, ◌∙◌, add_assoc, zero-add, leb-true, le-leb, ltb-false, ne_eqb, length-append}
use Rattle.std.proofs.Math.Bool.{true, false, cond}
use mathlib.Core.List.{List, [], ◌∷◌, ◌++◌}
use Rattle.std.proofs.Math.Path.{refl, sym, ap}
use native.Mathlib.Omega.{arith}
use Rattle.std.proofs.lemmas.Bool.{eqb-false, not-true}
use Rattle.std.proofs.Math.Dec.{leb}
use Rattle.word.specs.Word.{is_multiple_of4}
use Rattle.word.specs.BoolLaws.{and_left, and_right, or_left, or_right}
use Rattle.method_cache.specs.declared.Method.{Method}
use Rattle.method_cache.specs.MethodCache.{greatest_blocks, greatest_bytes, capacity_ok, size_at, bad_base, bad_size, bad_block, is_held, bytes_held, has_room, room_for, looked, held_after, misses, words_fetched, held_good, held_fits, held_ok}

-- A block that is held changes nothing: neither what is held nor its order, and nothing is counted.
module _ (c : Method) (code held : List ℕ) (base : ℕ) where
  pub hit_keeps : is_held base held ≡ true → looked c code held base ≡ held
  unfolding looked
  hit_keeps e = rw e

  pub hit_free : is_held base held ≡ true → (misses c code held (base ∷ []) ≡ 0) × (words_fetched c code held (base ∷ []) ≡ 0)
  unfolding misses words_fetched
  hit_free e = (rw e refl, rw e refl)

  pub miss_youngest : is_held base held ≡ false → looked c code held base ≡ room_for c code (size_at code base) held ++ (base ∷ [])
  unfolding looked
  miss_youngest e = rw e

cons_not_nil : {h : ℕ} {hs : List ℕ} → h ∷ hs ≡ [] → ⊥
cons_not_nil {h} {hs} e = let z : length (h ∷ hs) ≡ 0 = ap length e in omega (arith, z)

-- The replacement: what goes are the oldest, k of them, and there is room then, unless none is left; and no fewer would have made room.
pub record Replaces (c : Method) (code : List ℕ) (size : ℕ) (held left : List ℕ) : Type 0 where
  pub gone : ℕ
  pub few : gone ≤ length held
  pub oldest : left ≡ drop gone held
  pub enough : (left ≡ [] → ⊥) → has_room c code size left ≡ true
  pub needed : (j : ℕ) → j < gone → has_room c code size (drop j held) ≡ false

pub room_least : (c : Method) (code : List ℕ) (size : ℕ) (held : List ℕ) → Replaces c code size held (room_for c code size held)
unfolding room_for
room_least c code size [] = record { gone = 0; few = omega arith; oldest = refl; enough = λ n. absurd (n refl); needed = λ j p. absurd (omega arith) }
room_least c code size (h ∷ hs) = go (has_room c code size (h ∷ hs)) refl (room_least c code size hs)
  where
    go : (t : Bool) → has_room c code size (h ∷ hs) ≡ t → Replaces c code size hs (room_for c code size hs)
        → Replaces c code size (h ∷ hs) (cond t (h ∷ hs) (room_for c code size hs))
    go true e r = record { gone = 0; few = omega arith; oldest = refl; enough = λ n. e; needed = λ j p. absurd (omega arith) }
    go false e r =
        record {
          gone = suc r.gone;
          few = suc-le-suc r.few;
          oldest = r.oldest;
          enough = r.enough;
          needed = before;
        }
      where
        before : (j : ℕ) → j < suc r.gone → has_room c code size (drop j (h ∷ hs)) ≡ false
        before zero p = e
        before (suc j) p = r.needed j (omega (arith, p))

-- Where the block fits an empty cache, there is room then in any case.
pub room_made : (c : Method) (code : List ℕ) (size : ℕ) (held : List ℕ) → 1 ≤ c.blocks → size ≤ c.bytes → has_room c code size (room_for c code size held) ≡ true
unfolding bytes_held
room_made c code size held p q = go (room_for c code size held) (room_least c code size held)
  where
    go : (left : List ℕ) → Replaces c code size held left → has_room c code size left ≡ true
    go [] r = λ i. le-leb 1 c.blocks p i && le-leb (0 + size) c.bytes (omega (arith, q)) i
    go (h ∷ hs) r = r.enough (λ z. cons_not_nil z)

-- So a lookup leaves no more than sixteen blocks.
pub looked_few : (c : Method) (code held : List ℕ) (base : ℕ) → c.blocks ≤ 16 → length held ≤ 16 → length (looked c code held base) ≤ 16
unfolding looked
looked_few c code held base p q = go (is_held base held) (room_for c code (size_at code base) held) (room_least c code (size_at code base) held)
  where
    go : (t : Bool) (left : List ℕ) → Replaces c code (size_at code base) held left → length (cond t held (left ++ (base ∷ []))) ≤ 16
    go true left r = q
    go false [] r = omega arith
    go false (h ∷ hs) r =
        let e = and_left _ _ (r.enough (λ z. cons_not_nil z)) in
        omega (arith, length-append (h ∷ hs) (base ∷ []), leb-true (length (h ∷ hs) + 1) c.blocks e, p)

-- What is good stays good where the oldest go, and where a good block that is not held follows.
good_drop : (c : Method) (code held : List ℕ) (k : ℕ) → held_good c code held ≡ true → held_good c code (drop k held) ≡ true
unfolding held_good
good_drop c code held zero e = e
good_drop c code [] (suc k) e = refl
good_drop c code (h ∷ hs) (suc k) e = good_drop c code hs k (and_right (not (bad_block c code h) && not (is_held h hs)) (held_good c code hs) e)

held_drop : (base : ℕ) (held : List ℕ) (k : ℕ) → is_held base held ≡ false → is_held base (drop k held) ≡ false
unfolding is_held
held_drop base held zero e = e
held_drop base [] (suc k) e = refl
held_drop base (h ∷ hs) (suc k) e = held_drop base hs k (or_right (eqb base h) (is_held base hs) e)

eqb_turned : (a b : ℕ) → eqb a b ≡ false → eqb b a ≡ false
eqb_turned a b e = ne_eqb b a (λ z. eqb-false a b e (sym z))

held_snoc : (a b : ℕ) (held : List ℕ) → is_held a held ≡ false → eqb a b ≡ false → is_held a (held ++ (b ∷ [])) ≡ false
unfolding is_held
held_snoc a b [] e f = rw f refl
held_snoc a b (h ∷ hs) e f = rw (or_left (eqb a h) (is_held a hs) e) (held_snoc a b hs (or_right (eqb a h) (is_held a hs) e) f)

good_snoc : (c : Method) (code : List ℕ) (base : ℕ) (held : List ℕ) → bad_block c code base ≡ false → is_held base held ≡ false → held_good c code held ≡ true
    → held_good c code (held ++ (base ∷ [])) ≡ true
unfolding held_good is_held
good_snoc c code base [] p q e = rw p refl
good_snoc c code base (h ∷ hs) p q e =
    let x = and_left (not (bad_block c code h) && not (is_held h hs)) (held_good c code hs) e in
    let bad = and_left (not (bad_block c code h)) (not (is_held h hs)) x in
    let once = held_snoc h base hs (not-true _ (and_right (not (bad_block c code h)) (not (is_held h hs)) x)) (eqb_turned base h (or_left (eqb base h) (is_held base hs) q)) in
    rw (bad, once) (good_snoc c code base hs p (or_right (eqb base h) (is_held base hs) q) (and_right (not (bad_block c code h) && not (is_held h hs)) (held_good c code hs) e))

bytes_snoc : (code held : List ℕ) (base : ℕ) → bytes_held code (held ++ (base ∷ [])) ≡ bytes_held code held + size_at code base
unfolding bytes_held
bytes_snoc code [] base = omega arith
bytes_snoc code (h ∷ hs) base = let e = bytes_snoc code hs base in omega (arith, e)

-- A capacity that 1 lets pass while the cache is on.
pub record Capacity (c : Method) : Type 0 where
  pub some : 1 ≤ c.blocks
  pub blocks : c.blocks ≤ 16
  pub bytes : c.bytes ≤ 16384

pub capacity_on : (c : Method) → capacity_ok c ≡ true → c.on ≡ true → Capacity c
unfolding capacity_ok
capacity_on c e on =
    let n = leb 1 c.blocks && leb c.blocks greatest_blocks in
    let b = leb 64 c.bytes && leb c.bytes greatest_bytes in
    let f : n && b ≡ true = ap (λ (t : Bool). not t || (n && b)) (sym on) ∙ e in
    record {
      some = leb-true 1 c.blocks (and_left (leb 1 c.blocks) (leb c.blocks 16) (and_left n b f));
      blocks = leb-true c.blocks 16 (and_right (leb 1 c.blocks) (leb c.blocks 16) (and_left n b f));
      bytes = leb-true c.bytes 16384 (and_right (leb 64 c.bytes) (leb c.bytes 16384) (and_right n b f));
    }

-- The size of a block that 13 does not describe fits the capacity.
size_fits : (c : Method) (code : List ℕ) (base : ℕ) → bad_block c code base ≡ false → size_at code base ≤ c.bytes
unfolding bad_block
size_fits c code base e =
    let size = size_at code base in
    let s = or_right (bad_base (length code) base) (bad_size (length code) base size c.bytes) e in
    ltb-false c.bytes size
    (or_right (ltb (length code) (base + size)) (ltb c.bytes size) (or_right (eqb size 0 || not (is_multiple_of4 size)) (ltb (length code) (base + size) || ltb c.bytes size) s))

-- A lookup that 13 lets pass keeps what 11 lets pass.
module _ (c : Method) (code held : List ℕ) (base : ℕ) (cap : Capacity c) (fine : bad_block c code base ≡ false) where
  looked_fits : held_fits c code held ≡ true → held_fits c code (looked c code held base) ≡ true
  unfolding looked held_good is_held bytes_held
  looked_fits e = go (is_held base held) refl (room_for c code (size_at code base) held) (room_least c code (size_at code base) held)
    where
      good : held_good c code held ≡ true
      good = and_left (held_good c code held) (leb (length held) c.blocks && leb (bytes_held code held) c.bytes) e

      fits : (left : List ℕ) → held_good c code left ≡ true → is_held base left ≡ false → length left + 1 ≤ c.blocks → bytes_held code left + size_at code base ≤ c.bytes
          → held_fits c code (left ++ (base ∷ [])) ≡ true
      fits left g n p q =
          rw (good_snoc c code base left fine n g, le-leb (length (left ++ (base ∷ []))) c.blocks (omega (arith, length-append left (base ∷ []), p)), le-leb (bytes_held code (left ++ (base ∷ []))) c.bytes (omega (arith, bytes_snoc code left base, q)))
          refl

      go : (t : Bool) → is_held base held ≡ t → (left : List ℕ) → Replaces c code (size_at code base) held left → held_fits c code (cond t held (left ++ (base ∷ []))) ≡ true
      go true n left r = e
      go false n [] r = fits [] refl refl (omega (arith, cap.some)) (omega (arith, size_fits c code base fine))
      go false n (h ∷ hs) r =
          let room = r.enough (λ z. cons_not_nil z) in
          fits (h ∷ hs) (ap (held_good c code) r.oldest ∙ good_drop c code held r.gone good) (ap (is_held base) r.oldest ∙ held_drop base held r.gone n)
          (leb-true (length (h ∷ hs) + 1) c.blocks (and_left (leb (length (h ∷ hs) + 1) c.blocks) (leb (bytes_held code (h ∷ hs) + size_at code base) c.bytes) room))
          (leb-true (bytes_held code (h ∷ hs) + size_at code base) c.bytes (and_right (leb (length (h ∷ hs) + 1) c.blocks) (leb (bytes_held code (h ∷ hs) + size_at code base) c.bytes) room))

  pub looked_ok : c.on ≡ true → held_ok c code held ≡ true → held_ok c code (looked c code held base) ≡ true
  unfolding held_ok
  looked_ok on e =
      ap (λ (t : Bool). cond t (held_fits c code (looked c code held base)) (eqb (length (looked c code held base)) 0)) on
      ∙ looked_fits (sym (ap (λ (t : Bool). cond t (held_fits c code held) (eqb (length held) 0)) on) ∙ e)

  -- It misses once at most, and fetches 4,096 words at most.
  pub misses_few : misses c code held (base ∷ []) ≤ 1
  unfolding misses
  misses_few = go (is_held base held)
    where
      go : (t : Bool) → cond t 0 1 + 0 ≤ 1
      go true = omega arith
      go false = omega arith

  pub fetched_few : words_fetched c code held (base ∷ []) ≤ 4096
  unfolding words_fetched
  fetched_few = go (is_held base held)
    where
      go : (t : Bool) → cond t 0 (size_at code base / 4) + 0 ≤ 4096
      go true = omega arith
      go false = omega (arith, size_fits c code base fine, cap.bytes)

-- Lookups one after the other: a sequence of bases in two parts.
module _ (c : Method) (code : List ℕ) where
  pub held_append : (held ds bs : List ℕ) → held_after c code held (ds ++ bs) ≡ held_after c code (held_after c code held ds) bs
  unfolding held_after
  held_append held [] bs = refl
  held_append held (d ∷ ds) bs = held_append (looked c code held d) ds bs

  pub misses_append : (held ds bs : List ℕ) → misses c code held (ds ++ bs) ≡ misses c code held ds + misses c code (held_after c code held ds) bs
  unfolding held_after misses
  misses_append held [] bs = sym (zero-add (misses c code held bs))
  misses_append held (d ∷ ds) bs =
      ap (λ (n : ℕ). cond (is_held d held) 0 1 + n) (misses_append (looked c code held d) ds bs)
      ∙ sym (add_assoc (cond (is_held d held) 0 1) (misses c code (looked c code held d) ds) _)

  pub fetched_append : (held ds bs : List ℕ) → words_fetched c code held (ds ++ bs) ≡ words_fetched c code held ds + words_fetched c code (held_after c code held ds) bs
  unfolding held_after words_fetched
  fetched_append held [] bs = sym (zero-add (words_fetched c code held bs))
  fetched_append held (d ∷ ds) bs =
      ap (λ (n : ℕ). cond (is_held d held) 0 (size_at code d / 4) + n) (fetched_append (looked c code held d) ds bs)
      ∙ sym (add_assoc (cond (is_held d held) 0 (size_at code d / 4)) (words_fetched c code (looked c code held d) ds) _)
