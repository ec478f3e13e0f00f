-- What admitted settings tell.
use Rattle.std.specs.Prelude.{ℕ, ◌≤◌, ◌%◌, Bool, true, false, cond, ◌&&◌, ◌≡◌, refl, eqb, Ok, Err, is_ok}
use Rattle.std.proofs.Common.{sym, ap}
use borrow.Author.Tests.{leb-true}
use Rattle.std.proofs.Math.Dec.{leb}
use Rattle.stack_cache.specs.Stack.{is_cache_size, cache_of, make_cache}
use Rattle.method_cache.specs.MethodCache.{capacity_ok}
use Rattle.stack_cache.specs.declared.StackCache.{StackCache}
use Rattle.answers.specs.declared.Refusal.{Refusal}
use Rattle.answers.specs.declared.Refusal.TheVariants as refusal
use Rattle.word.specs.BoolLaws.{and_left, and_right}
use Rattle.settings.specs.declared.Settings.{Settings}
use Rattle.word.specs.Word.{is_multiple_of4}
use Rattle.settings.specs.Settings.{admits, greatest_length, code_length_ok, area_ok}

module _ (g : Settings) (ok : admits g ≡ true) where
  lengths : Bool
  lengths = code_length_ok g.code && (leb g.main greatest_length && leb g.local greatest_length)

  area : Bool
  area = area_ok g.main g.lo g.hi

  admitted : (lengths && (is_cache_size g.words && area)) ≡ true
  unfolding admits lengths area
  admitted = and_left (lengths && (is_cache_size g.words && area)) (capacity_ok g.method) ok

  pub capacity_ok_lem : capacity_ok g.method ≡ true
  unfolding admits
  capacity_ok_lem =
      and_right ((code_length_ok g.code && (leb g.main greatest_length && leb g.local greatest_length)) && (is_cache_size g.words && area_ok g.main g.lo g.hi)) (capacity_ok g.method) ok

  lengths_ok : lengths ≡ true
  lengths_ok = and_left lengths (is_cache_size g.words && area) admitted

  pub size_ok : is_cache_size g.words ≡ true
  size_ok = and_left (is_cache_size g.words) area (and_right lengths (is_cache_size g.words && area) admitted)

  area_ok_lem : area ≡ true
  area_ok_lem = and_right (is_cache_size g.words) area (and_right lengths (is_cache_size g.words && area) admitted)

  pub code_small : g.code ≤ 65536
  unfolding lengths
  code_small =
      let c = and_left (code_length_ok g.code) (leb g.main greatest_length && leb g.local greatest_length) lengths_ok in
      leb-true g.code 65536 (and_right (leb 4 g.code) (leb g.code 65536) (and_left (leb 4 g.code && leb g.code 65536) (is_multiple_of4 g.code) c))

  pub main_small : g.main ≤ 65536
  unfolding lengths
  main_small =
      let m = and_right (code_length_ok g.code) (leb g.main greatest_length && leb g.local greatest_length) lengths_ok in
      leb-true g.main 65536 (and_left (leb g.main 65536) (leb g.local 65536) m)

  pub words_small : g.words ≤ 512
  unfolding is_cache_size
  words_small =
      leb-true g.words 512 (and_right (leb 4 g.words) (leb g.words 512) (and_left (leb 4 g.words && leb g.words 512) (eqb (512 % g.words) 0) size_ok))

  ordered : (leb g.lo g.hi && leb g.hi g.main) ≡ true
  unfolding area
  ordered = and_right (is_multiple_of4 g.lo && is_multiple_of4 g.hi) (leb g.lo g.hi && leb g.hi g.main) area_ok_lem

  pub area_ordered : g.lo ≤ g.hi
  area_ordered = leb-true g.lo g.hi (and_left (leb g.lo g.hi) (leb g.hi g.main) ordered)

  pub area_inside : g.hi ≤ g.main
  area_inside = leb-true g.hi g.main (and_right (leb g.lo g.hi) (leb g.hi g.main) ordered)

-- what making a cache tells of its size
pub size_refused : (w : ℕ) {r : Refusal} → make_cache w ≡ Err r → is_cache_size w ≡ false
unfolding make_cache
size_refused w {r} = go (is_cache_size w)
  where
    go : (t : Bool) → cond t (Ok (cache_of w)) (Err refusal.Limits) ≡ Err r → t ≡ false
    go true e = cc
    go false e = refl

pub size_words : (w : ℕ) {k : StackCache} → make_cache w ≡ Ok k → k.words ≡ w
unfolding make_cache
size_words w {k} = go (is_cache_size w)
  where
    go : (t : Bool) → cond t (Ok (cache_of w)) (Err refusal.Limits) ≡ Ok k → k.words ≡ w
    go true e = let h : cache_of w ≡ k = cc in ap (λ (c : StackCache). c.words) (sym h)
    go false e = cc

pub size_made : (w : ℕ) {k : StackCache} → make_cache w ≡ Ok k → is_cache_size w ≡ true
unfolding make_cache
size_made w {k} = go (is_cache_size w)
  where
    go : (t : Bool) → cond t (Ok (cache_of w)) (Err refusal.Limits) ≡ Ok k → t ≡ true
    go true e = refl
    go false e = cc

pub size_told : (w : ℕ) → is_ok (make_cache w) ≡ is_cache_size w
unfolding make_cache
size_told w = go (is_cache_size w)
  where
    go : (t : Bool) → is_ok (cond t (Ok (cache_of w)) (Err refusal.Limits)) ≡ t
    go true = refl
    go false = refl
