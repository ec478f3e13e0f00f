-- Interrupts replayed (request (vi) of document 02): what the list of records and the table of handlers say, and how far a replay is.
use Rattle.std.specs.Prelude.{ℕ, zero, suc, ◌+◌, ◌*◌, ◌/◌, ◌%◌, Bool, true, false, not, cond, ◌&&◌, List, eqb, ltb, leb, length, get_or}
use Rattle.sections.specs.Words.{words_in}
use Rattle.replay.specs.declared.Replay.{Replay}

-- A replay of its parts, and one that begins.
abbrev pub replay : Bool → ℕ → ℕ → Replay
replay active place done = record { active = active; place = place; done = done }

abbrev pub not_begun : Replay
not_begun = replay false 0 0

-- List and table are bytes that are read by words, the first of number 0; past the last there are zeros.
abbrev pub word_of : List ℕ → ℕ → ℕ
word_of bytes i = get_or (words_in bytes) i 0

-- A record is two words, a bundle number and a vector. A place in the list counts records.
abbrev pub records : List ℕ → ℕ
records list = length list / 8

abbrev pub number_of : List ℕ → ℕ → ℕ
number_of list i = word_of list (2 * i)

abbrev pub vector_of : List ℕ → ℕ → ℕ
vector_of list i = word_of list (2 * i + 1)

-- The table has an address for each of the 32 vectors.
abbrev pub greatest_vector : ℕ
greatest_vector = 31

unfoldable pub handler_at : List ℕ → ℕ → ℕ
handler_at table vector = word_of table vector

abbrev pub handler_of : List ℕ → List ℕ → ℕ → ℕ
handler_of list table place = handler_at table (vector_of list place)

-- n records from place i on whose bundle numbers do not fall, the first of which is at least `least`, and whose vectors are in the table.
unfoldable pub records_ok : List ℕ → ℕ → ℕ → ℕ → Bool
records_ok list zero i least = true
records_ok list (suc n) i least =
    (leb (vector_of list i) greatest_vector && leb least (number_of list i)) && records_ok list n (i + 1) (number_of list i)

-- Where this is false, refusal 15: whole records, so many that a place among them is a word, an address for each vector, and records as
-- above.
unfoldable pub replay_ok : List ℕ → List ℕ → Bool
replay_ok list table =
    ((eqb (length list % 8) 0 && leb (records list) 4294967295) && eqb (length table) 128) && records_ok list (records list) 0 0

-- The record at the place is due once its number of bundles is done, unless a handler is active. None is at or past the list's end.
unfoldable pub due_in : List ℕ → Replay → Bool
due_in list r = (ltb r.place (records list) && leb (number_of list r.place) r.done) && not r.active

-- One bundle more, in a word that stays at its greatest value.
unfoldable pub one_more : ℕ → ℕ
one_more n = cond (ltb n 4294967295) (n + 1) n
