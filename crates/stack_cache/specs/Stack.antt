-- The stack cache (section 3.3 of the handbook as document 01 condenses it). W is the number of the cache's words, st and ss
-- are the byte addresses between which the window lies, and an amount n is in words.
use Rattle.std.specs.Prelude.{ℕ, zero, suc, ◌+◌, ◌-◌, ◌*◌, ◌/◌, ◌%◌, ◌^◌, min, max, Bool, true, false, not, cond, ◌&&◌, ◌||◌, List, [], ◌∷◌, eqb, ltb, leb, length, get_or, set, Result, Ok, Err}
use Rattle.word.specs.Word.{add, sub}
use Rattle.big_endian.specs.Bytes.{word_at, put_word}
use Rattle.stack_cache.specs.declared.StackControl.{StackControl}
use Rattle.stack_cache.specs.declared.StackControl.TheVariants.{Sres, Sens, Sfree, Sspill}
use Rattle.answers.specs.declared.Refusal.{Refusal}
use Rattle.answers.specs.declared.Refusal.TheVariants as refusal
use Rattle.stack_cache.specs.declared.Plan.{Plan}
use Rattle.stack_cache.specs.declared.StackCache.{StackCache}

-- A cache has 4 to 512 words, a power of two: the divisors of 512 are the powers of two up to it.
abbrev pub least : ℕ
least = 4

abbrev pub greatest : ℕ
greatest = 512

unfoldable pub is_cache_size : ℕ → Bool
is_cache_size w = (leb least w && leb w greatest) && eqb (greatest % w) 0

abbrev pub cache_of : ℕ → StackCache
cache_of w = record { words = w }

-- A cache of w words, or refusal 1.
unfoldable pub make_cache : ℕ → Result StackCache Refusal
make_cache w = cond (is_cache_size w) (Ok (cache_of w)) (Err refusal.Limits)

-- The cache place of the word at an address: the number of the word, modulo W.
unfoldable pub cache_word : List ℕ → ℕ → ℕ
cache_word cache a = get_or cache (a / 4 % length cache) 0

unfoldable pub put_cache_word : List ℕ → ℕ → ℕ → List ℕ
put_cache_word cache a v = set cache (a / 4 % length cache) v

-- The k bytes of a word from place a % 4 on, most significant byte first, as a number; and the word with those bytes replaced.
abbrev pub unit : ℕ → ℕ → ℕ
unit k a = 256 ^ (4 - k - a % 4)

unfoldable pub part_of : ℕ → ℕ → ℕ → ℕ
part_of k w a = w / unit k a % 256 ^ k

unfoldable pub put_part : ℕ → ℕ → ℕ → ℕ → ℕ
put_part k w a v = w - part_of k w a * unit k a + v % 256 ^ k * unit k a

-- An access of k bytes at address a to the cache.
unfoldable pub cache_number : ℕ → List ℕ → ℕ → ℕ
cache_number k cache a = part_of k (cache_word cache a) a

unfoldable pub put_cache_number : ℕ → List ℕ → ℕ → ℕ → List ℕ
put_cache_number k cache a v = put_cache_word cache a (put_part k (cache_word cache a) a v)

-- The addresses of the k words below a, and from a up, in the order in which they are moved.
unfoldable pub below : ℕ → ℕ → List ℕ
below zero a = []
below (suc k) a = sub a 4 ∷ below k (sub a 4)

unfoldable pub above : ℕ → ℕ → List ℕ
above zero a = []
above (suc k) a = a ∷ above k (add a 4)

-- Spilling, from ss downwards, as long as the window has more than W words: at most `most` times.
unfoldable pub spill_while : ℕ → ℕ → ℕ → ℕ → List ℕ
spill_while zero w st ss = []
spill_while (suc most) w st ss = cond (ltb (4 * w) (ss - st)) (sub ss 4 ∷ spill_while most w st (sub ss 4)) []

-- Filling, from ss upwards, as long as the window has fewer than n words: at most `most` times.
unfoldable pub fill_while : ℕ → ℕ → ℕ → ℕ → List ℕ
fill_while zero n st ss = []
fill_while (suc most) n st ss = cond (ltb (ss - st) (4 * n)) (ss ∷ fill_while most n st (add ss 4)) []

-- Where st is after a stack instruction: sres lowers it, sfree raises it.
unfoldable pub top_after : StackControl → ℕ → ℕ → ℕ
top_after Sres st n = st - 4 * n
top_after Sens st n = st
top_after Sfree st n = st + 4 * n
top_after Sspill st n = st

-- The addresses of the words that it spills, in order. sres makes room for all that lies between the new st and ss, W words
-- at most; sspill takes n words, or all that the window has if these are fewer.
unfoldable pub spills : StackControl → ℕ → ℕ → ℕ → ℕ → List ℕ
spills Sres w st ss n = spill_while w w (st - 4 * n) ss
spills Sens w st ss n = []
spills Sfree w st ss n = []
spills Sspill w st ss n = below (min n ((ss - st) / 4)) ss

-- The addresses of the words that it fills, in order.
unfoldable pub fills : StackControl → ℕ → ℕ → ℕ → List ℕ
fills Sres st ss n = []
fills Sens st ss n = fill_while n n st ss
fills Sfree st ss n = []
fills Sspill st ss n = []

-- Where ss is afterwards: each word moved shifts it by 4; where st has risen above it, it is st.
unfoldable pub spill_after : StackControl → ℕ → ℕ → ℕ → ℕ → ℕ
spill_after Sres w st ss n = ss - 4 * length (spills Sres w st ss n)
spill_after Sens w st ss n = ss + 4 * length (fills Sens st ss n)
spill_after Sfree w st ss n = max ss (st + 4 * n)
spill_after Sspill w st ss n = ss - 4 * length (spills Sspill w st ss n)

-- Refusal 7 of every stack instruction and access: st and ss are no two multiples of 4 in order with at most W words between.
unfoldable pub bad_window : ℕ → ℕ → ℕ → Bool
bad_window w st ss = (not (eqb (ss % 4) 0) || not (eqb (st % 4) 0)) || (ltb ss st || ltb (4 * w) (ss - st))

-- Refusal 7 of stack instructions alone: sres or sens of more than W words, or a new st that is no 32-bit address.
unfoldable pub bad_amount : StackControl → ℕ → ℕ → ℕ → Bool
bad_amount Sres w st n = ltb w n || ltb st (4 * n)
bad_amount Sens w st n = ltb w n
bad_amount Sfree w st n = leb (2 ^ 32) (st + 4 * n)
bad_amount Sspill w st n = false

-- Refusal 8: a word that is moved lies outside the stack area from lo to hi.
abbrev pub in_area : ℕ → ℕ → ℕ → Bool
in_area lo hi a = leb lo a && leb (a + 4) hi

-- Which words may be spilled, and which filled.
abbrev pub spill_open : ℕ → ℕ → ℕ → Bool
spill_open = in_area

abbrev pub fill_open : ℕ → ℕ → ℕ → Bool
fill_open = in_area

unfoldable pub every : (ℕ → Bool) → List ℕ → Bool
every allowed [] = true
every allowed (a ∷ rest) = allowed a && every allowed rest

unfoldable pub moved_outside : StackControl → ℕ → ℕ → ℕ → ℕ → ℕ → ℕ → Bool
moved_outside c w lo hi st ss n = not (every (spill_open lo hi) (spills c w st ss n) && every (fill_open lo hi) (fills c st ss n))

abbrev pub moves : ℕ → ℕ → ℕ → ℕ → Plan
moves st ss j k = record { st = st; ss = ss; spilled = j; filled = k }

-- A stack instruction judged as a whole, before any word moves: refused with 7 or 8, or where st and ss will be and how many
-- words move.
unfoldable pub planned : StackControl → ℕ → ℕ → ℕ → ℕ → ℕ → ℕ → Result Plan Refusal
planned c w lo hi st ss n =
    cond (bad_window w st ss || bad_amount c w st n) (Err refusal.Window)
    (cond (moved_outside c w lo hi st ss n) (Err refusal.MoveOutside)
    (Ok (moves (top_after c st n) (spill_after c w st ss n) (length (spills c w st ss n)) (length (fills c st ss n)))))

-- The stack area's bytes after the words of a list of addresses were spilled, one after the other; lo is the area's address.
unfoldable pub spilled : List ℕ → ℕ → List ℕ → List ℕ → List ℕ
spilled cache lo area [] = area
spilled cache lo area (a ∷ rest) = spilled cache lo (put_word area (sub a lo) (cache_word cache a)) rest

-- The cache after the words of a list of addresses were filled.
unfoldable pub filled : List ℕ → ℕ → List ℕ → List ℕ → List ℕ
filled area lo cache [] = cache
filled area lo cache (a ∷ rest) = filled area lo (put_cache_word cache a (word_at area (sub a lo))) rest
