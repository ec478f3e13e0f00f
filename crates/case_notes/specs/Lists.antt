-- The lists of a case, each given by lines that go on behind the entries so far: the blocks that the method cache holds, the oldest
-- first, and the words of the record to go on from.
use Rattle.std.specs.Prelude.{ℕ, zero, suc, ◌+◌, cond, Option, Some, None, Result, Ok, Err, List, length, leb}
use Rattle.case_file.specs.declared.Reason.{Reason}
use Rattle.case_file.specs.Arguments.{code_entry, held_entry}
use Rattle.case_kept.specs.Indices.{HELD, RECORD}
use Rattle.case_kept.specs.Kept.{kept_number, put}
use Rattle.case_notes.specs.declared.Listed.{Listed}
use Rattle.case_notes.specs.Description.{Judged, Noted, noted, fine}

-- Bases are numbers, and a record has words.
abbrev pub entry_of : Listed → List ℕ → ℕ → Result (Option (ℕ × ℕ)) Reason
entry_of Listed.Held = held_entry
entry_of Listed.Record = code_entry

-- An entry goes behind those of the list at an index: how many there are, and behind that the entries. One above the most is a mistake.
unfoldable pub behind : List ℕ → ℕ → ℕ → Reason → ℕ → Noted
behind kept first most full n =
    let count = kept_number kept first in
    cond (leb most count) (noted (Err full) kept) (fine (put (put kept (first + (count + 1)) n) first (count + 1)))

-- There is room for 16 blocks in a state, and for 8,192 bytes of record.
abbrev pub MOST_WORDS : ℕ
MOST_WORDS = 2048

abbrev pub more : Listed → List ℕ → ℕ → Noted
more Listed.Held kept base = behind kept HELD 16 Reason.TooManyHeld base
more Listed.Record kept w = behind kept RECORD MOST_WORDS Reason.TooMuchRecord w

-- The line goes on where there was no mistake.
abbrev pub or_mistake : Judged → Noted → Noted → Noted
or_mistake (Ok _) rest n = rest
or_mistake (Err r) rest n = n

abbrev pub and_then : Noted → (List ℕ → Noted) → Noted
and_then n rest = or_mistake n.judged (rest n.kept) n

abbrev pub take_entry : Listed → Result (Option (ℕ × ℕ)) Reason → List ℕ → (ℕ → List ℕ → Noted) → Noted
take_entry l (Ok (Some entry)) kept rest = and_then (more l kept entry.0) (rest entry.1)
take_entry l (Err r) kept rest = noted (Err r) kept
take_entry l (Ok None) kept rest = fine kept

-- At most n entries of a line from a position on.
unfoldable pub take_from : Listed → ℕ → List ℕ → ℕ → List ℕ → Noted
take_from l zero line at kept = fine kept
take_from l (suc n) line at kept = take_entry l (entry_of l line at) kept (take_from l n line)

-- A line has no more entries than bytes.
abbrev pub taken : Listed → List ℕ → ℕ → List ℕ → Noted
taken l line list kept = take_from l (length line) line list kept
