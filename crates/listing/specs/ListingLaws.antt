-- Laws of a listing, one line at a time, and that no line of a case's code is left out.
use Rattle.std.specs.Prelude.{ℕ, zero, suc, ◌+◌, ◌*◌, ◌≤◌, ◌<◌, Bool, true, false, cond, ◌≡◌, refl, List, [], ◌++◌, leb, length}
use Rattle.std.proofs.Common.{sym, ap, ◌∙◌, add-one, arith, le-leb}
use Rattle.std.proofs.lemmas.Bool.{lt-leb}
use Rattle.text.specs.Page.{Page, with_text}
use Rattle.text.specs.PageLaws.{text_append, text_none}
use Rattle.big_endian.specs.Bytes.{word_at}
use Rattle.decoder.specs.Decode.{is_two_words, bundle_words}
use Rattle.fetch.specs.Fetch.{following_at}
use Rattle.listing.specs.Listing.{line_text, lines_text}

-- Where the code ends no line follows.
pub lines_over : (n : ℕ) (code : List ℕ) (a : ℕ) → length code ≤ a → lines_text n code a ≡ []
unfolding lines_text
lines_over zero code a h = refl
lines_over (suc n) code a h = rw (le-leb (length code) a h)

-- Where the lines are counted out none follows either.
pub lines_out : (n : ℕ) (code : List ℕ) (a : ℕ) → n ≡ 0 → lines_text n code a ≡ []
unfolding lines_text
lines_out n code a e = rw e

-- A line and those behind it.
pub lines_more : (m n : ℕ) (code : List ℕ) (a b : ℕ) → m ≡ n + 1 → b ≡ following_at code a → a < length code
    → lines_text m code a ≡ line_text code a ++ lines_text n code b
unfolding lines_text
lines_more m n code a b e f h = rw (e, f, add-one n, lt-leb (length code) a h)

-- The same on a page.
pub lines_end : (p : Page) (n : ℕ) (code : List ℕ) (a : ℕ) → length code ≤ a → p ≡ with_text p (lines_text n code a)
lines_end p n code a h = rw (lines_over n code a h) (sym (text_none p))

pub lines_none : (p : Page) (code : List ℕ) (a : ℕ) → p ≡ with_text p (lines_text 0 code a)
lines_none p code a = rw (lines_out 0 code a refl) (sym (text_none p))

pub lines_step : (p q : Page) (m n : ℕ) (code : List ℕ) (a b : ℕ) → m ≡ n + 1 → b ≡ following_at code a → a < length code
    → q ≡ with_text p (line_text code a) → with_text q (lines_text n code b) ≡ with_text p (lines_text m code a)
lines_step p q m n code a b e f h g =
    rw (lines_more m n code a b e f h) (ap (λ (x : Page). with_text x (lines_text n code b)) g ∙ sym (text_append p (line_text code a) (lines_text n code b)))

-- A bundle has at least one word, so that a line stands for 4 bytes or more.
following_later : (code : List ℕ) (a : ℕ) → a + 4 ≤ following_at code a
unfolding bundle_words
following_later code a = go (is_two_words (word_at code a))
  where
    go : (t : Bool) → a + 4 ≤ a + 4 * cond t 2 1
    go true = omega arith
    go false = omega arith

-- Where n lines of 4 bytes reach the code's end, more lines are the same text.
pub lines_enough : (n m : ℕ) (code : List ℕ) (a : ℕ) → n ≤ m → length code ≤ a + 4 * n → lines_text m code a ≡ lines_text n code a
unfolding lines_text
lines_enough zero zero code a g h = refl
lines_enough zero (suc m) code a g h = rw (le-leb (length code) a (omega arith))
lines_enough (suc n) zero code a g h = absurd (omega arith)
lines_enough (suc n) (suc m) code a g h =
    ap (λ (t : List ℕ). cond (leb (length code) a) [] (line_text code a ++ t))
    (lines_enough n m code (following_at code a) (omega arith) (omega (arith, h, following_later code a)))
