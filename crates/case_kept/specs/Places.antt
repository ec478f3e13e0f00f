-- The places that a case names in its memories and in its stack cache. The line with a store's length may come after a place of it, so
-- a place is noted with its line and judged at the case's first operation. Of each store only the places that reach further than all
-- before are noted, since no other one can be the first that lies outside.
use Rattle.std.specs.Prelude.{ℕ, zero, suc, ◌+◌, ◌*◌, ◌%◌, min, cond, Option, Some, None, List, leb, ltb, eqb}
use Rattle.case_kept.specs.declared.places.Store.{Store}
use Rattle.case_kept.specs.Indices.{MAIN, LOCAL, WORDS, REACH, NOTED, LINE, NOTES}
use Rattle.case_kept.specs.Kept.{kept_number, put}

-- A last byte that no memory has.
abbrev pub NO_BYTE : ℕ
NO_BYTE = 4294967295

-- The last byte of the word at an address. An address that is no multiple of 4 has none in any memory. A place in the shorter last word
-- of a memory is outside, since this byte is.
unfoldable pub last_byte : ℕ → ℕ
last_byte address = cond (eqb (address % 4) 0) (cond (ltb 65532 address) NO_BYTE (address + 3)) NO_BYTE

-- Where it is kept how far the places of a store reach.
abbrev pub reach_index : Store → ℕ
reach_index Store.Main = REACH
reach_index Store.Local = REACH + 1
reach_index Store.Cache = REACH + 2

-- Where the length of a store is kept.
abbrev pub length_index : Store → ℕ
length_index Store.Main = MAIN
length_index Store.Local = LOCAL
length_index Store.Cache = WORDS

-- There is room for this many notes, more than a file of 1 MiB can make. Places after them are not judged.
abbrev pub ROOM : ℕ
ROOM = 50000

-- Note n: where the store's length is kept, the place's last byte or word, and its line.
abbrev pub with_note : List ℕ → ℕ → Store → ℕ → List ℕ
with_note kept n store last =
    let at = NOTES + 3 * n in
    let line = kept_number kept LINE in
    put (put (put (put kept at (length_index store)) (at + 1) last) (at + 2) line) NOTED (n + 1)

abbrev pub note_if_room : List ℕ → Store → ℕ → List ℕ
note_if_room kept store last =
    let n = kept_number kept NOTED in
    cond (leb ROOM n) kept (with_note kept n store last)

-- A place of a store, by its last byte or word.
unfoldable pub note_place : List ℕ → Store → ℕ → List ℕ
note_place kept store last =
    cond (leb (last + 1) (kept_number kept (reach_index store))) kept
    (note_if_room (put kept (reach_index store) (last + 1)) store last)

-- The first of n notes from an index on whose last byte or word is none of its store's.
unfoldable pub outside_from : ℕ → List ℕ → ℕ → Option ℕ
outside_from zero kept at = None
outside_from (suc n) kept at =
    cond (leb (kept_number kept (kept_number kept at)) (kept_number kept (at + 1))) (Some (kept_number kept (at + 2)))
    (outside_from n kept (at + 3))

-- The line of the first place outside its store.
unfoldable pub first_outside : List ℕ → Option ℕ
first_outside kept = outside_from (min (kept_number kept NOTED) ROOM) kept NOTES
