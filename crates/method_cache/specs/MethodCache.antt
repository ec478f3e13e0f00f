-- The method cache (section 3.4.1 of the handbook as request (iii) of document 02 has it). It holds whole blocks of code, each known by
-- its base; a list of bases held has the oldest first.
use Rattle.std.specs.Prelude.{ℕ, ◌+◌, ◌-◌, ◌/◌, Bool, true, false, not, cond, ◌&&◌, ◌||◌, List, [], ◌∷◌, ◌++◌, eqb, ltb, leb, length}
use Rattle.word.specs.Word.{is_multiple_of4}
use Rattle.big_endian.specs.Bytes.{word_at}
use Rattle.method_cache.specs.declared.Method.{Method}

-- A capacity of 1 to 16 blocks and of 64 to 16,384 bytes, where the cache is on: else refusal 1.
abbrev pub greatest_blocks : ℕ
greatest_blocks = 16

abbrev pub greatest_bytes : ℕ
greatest_bytes = 16384

unfoldable pub capacity_ok : Method → Bool
capacity_ok c = not c.on || ((leb 1 c.blocks && leb c.blocks greatest_blocks) && (leb 64 c.bytes && leb c.bytes greatest_bytes))

-- A block's byte size is the word before it.
unfoldable pub size_at : List ℕ → ℕ → ℕ
size_at code base = word_at code (base - 4)

-- Refusal 13 describes a base below 4, above the code length or not a multiple of 4, and a size that is 0, not a multiple of 4, past
-- the code's end or above the capacity.
abbrev pub bad_base : ℕ → ℕ → Bool
bad_base code_length base = ltb base 4 || (ltb code_length base || not (is_multiple_of4 base))

abbrev pub bad_size : ℕ → ℕ → ℕ → ℕ → Bool
bad_size code_length base size bytes = (eqb size 0 || not (is_multiple_of4 size)) || (ltb code_length (base + size) || ltb bytes size)

unfoldable pub bad_block : Method → List ℕ → ℕ → Bool
bad_block c code base = bad_base (length code) base || bad_size (length code) base (size_at code base) c.bytes

-- Whether a block is held, and the bytes of all that are.
unfoldable pub is_held : ℕ → List ℕ → Bool
is_held base [] = false
is_held base (h ∷ hs) = eqb base h || is_held base hs

unfoldable pub bytes_held : List ℕ → List ℕ → ℕ
bytes_held code [] = 0
bytes_held code (h ∷ hs) = size_at code h + bytes_held code hs

-- Whether one block more, of this size, fits the capacity beside those held.
abbrev pub has_room : Method → List ℕ → ℕ → List ℕ → Bool
has_room c code size held = leb (length held + 1) c.blocks && leb (bytes_held code held + size) c.bytes

-- Oldest out first, none without need: what stays to make room.
unfoldable pub room_for : Method → List ℕ → ℕ → List ℕ → List ℕ
room_for c code size [] = []
room_for c code size (h ∷ hs) = cond (has_room c code size (h ∷ hs)) (h ∷ hs) (room_for c code size hs)

-- A lookup: a block that is held stays where it is in the order; one that is not becomes the youngest.
unfoldable pub looked : Method → List ℕ → List ℕ → ℕ → List ℕ
looked c code held base = cond (is_held base held) held (room_for c code (size_at code base) held ++ (base ∷ []))

-- Over a sequence of bases looked up: the blocks held after it, its misses, and the words that it fetches, which for each miss are a
-- quarter of the block's size.
unfoldable pub held_after : Method → List ℕ → List ℕ → List ℕ → List ℕ
held_after c code held [] = held
held_after c code held (b ∷ bs) = held_after c code (looked c code held b) bs

unfoldable pub misses : Method → List ℕ → List ℕ → List ℕ → ℕ
misses c code held [] = 0
misses c code held (b ∷ bs) = cond (is_held b held) 0 1 + misses c code (looked c code held b) bs

unfoldable pub words_fetched : Method → List ℕ → List ℕ → List ℕ → ℕ
words_fetched c code held [] = 0
words_fetched c code held (b ∷ bs) = cond (is_held b held) 0 (size_at code b / 4) + words_fetched c code (looked c code held b) bs

-- What 11 lets pass of the blocks held: no base that 13 describes, none twice, no more blocks or bytes than the capacity; and while the
-- cache is off, none.
unfoldable pub held_good : Method → List ℕ → List ℕ → Bool
held_good c code [] = true
held_good c code (h ∷ hs) = (not (bad_block c code h) && not (is_held h hs)) && held_good c code hs

abbrev pub held_fits : Method → List ℕ → List ℕ → Bool
held_fits c code held = held_good c code held && (leb (length held) c.blocks && leb (bytes_held code held) c.bytes)

unfoldable pub held_ok : Method → List ℕ → List ℕ → Bool
held_ok c code held = cond c.on (held_fits c code held) (eqb (length held) 0)
