-- A description line, with all that it may fill: code, memories, stack cache and the kept numbers.
use Rattle.std.specs.Prelude.{ℕ, zero, suc, ◌+◌, min, cond, Option, Some, None, Result, Ok, Err, List, ◌++◌, length, take, drop, leb}
use Rattle.big_endian.specs.Bytes.{put_word}
use Rattle.case_file.specs.declared.Line.{Line}
use Rattle.case_file.specs.declared.Reason.{Reason}
use Rattle.case_file.specs.Arguments.{code_entry}
use Rattle.case_kept.specs.declared.places.Store.{Store}
use Rattle.case_kept.specs.Indices.{CODE}
use Rattle.case_kept.specs.Kept.{kept_number, put}
use Rattle.case_notes.specs.Description.{Judged, Noted, GREATEST, given, given_read}
use Rattle.case_notes.specs.Marking.{mark_items}
use Rattle.case_notes.specs.declared.Listed.TheVariants as Listed
use Rattle.case_notes.specs.Lists.{taken}
use Rattle.case_notes.specs.Held.{hold_bases}
use Rattle.case_notes.specs.Replay.{of_replay}
use Rattle.case_kept.specs.Places.{last_byte, note_place}
use Rattle.case_kept.specs.Clearing.{COPY, put_in_copy}

-- What a line leaves that fills one buffer: whether it is a mistake, the kept numbers, and the buffer.
pub record Filled : Type 0 where
  pub judged : Judged
  pub kept : List ℕ
  pub buffer : List ℕ

abbrev pub filled : Judged → List ℕ → List ℕ → Filled
filled judged kept buffer = record { judged = judged; kept = kept; buffer = buffer }

-- A code word goes behind those that the case has. Where the greatest length leaves no room for it, the line is a mistake.
unfoldable pub appended : List ℕ → ℕ → List ℕ → Filled
appended kept w code =
    let n = kept_number kept CODE in
    cond (leb GREATEST n) (filled (Err Reason.TooMuchCode) kept code) (filled (Ok tt) (put kept CODE (n + 4)) (put_word code n w))

-- The line goes on where there was no mistake.
abbrev pub or_mistake : Judged → Filled → Filled → Filled
or_mistake (Ok _) rest f = rest
or_mistake (Err r) rest f = f

abbrev pub and_then : Filled → (List ℕ → List ℕ → Filled) → Filled
and_then f rest = or_mistake f.judged (rest f.kept f.buffer) f

abbrev pub append_entry : Result (Option (ℕ × ℕ)) Reason → List ℕ → List ℕ → (ℕ → List ℕ → List ℕ → Filled) → Filled
append_entry (Ok (Some entry)) kept code rest = and_then (appended kept entry.0 code) (rest entry.1)
append_entry (Err r) kept code rest = filled (Err r) kept code
append_entry (Ok None) kept code rest = filled (Ok tt) kept code

-- At most n entries of a code line from a position on.
unfoldable pub append_from : ℕ → List ℕ → ℕ → List ℕ → List ℕ → Filled
append_from zero line at kept code = filled (Ok tt) kept code
append_from (suc n) line at kept code = append_entry (code_entry line at) kept code (append_from n line)

-- A line has no more entries than bytes.
abbrev pub code_line : List ℕ → ℕ → List ℕ → List ℕ → Filled
code_line line list kept code = append_from (length line) line list kept code

-- A memory and behind it its copy: a word is put into the first part alone, as far as it lies there.
unfoldable pub put_below_copy : List ℕ → ℕ → ℕ → List ℕ
put_below_copy memory address w =
    let n = min COPY (length memory) in
    put_word (take n memory) address w ++ drop n memory

-- `mainword` and `localword`: the word is put there at once, and its place is judged later.
unfoldable pub memory_word : List ℕ → Store → ℕ → ℕ → List ℕ → Filled
memory_word kept store address w memory = filled (Ok tt) (note_place kept store (last_byte address)) (put_below_copy memory address w)

unfoldable pub cache_word : List ℕ → ℕ → ℕ → List ℕ → Filled
cache_word kept place w cache = filled (Ok tt) (note_place kept Store.Cache place) (put_in_copy cache place w)

-- What a description line leaves.
pub record Described : Type 0 where
  pub judged : Judged
  pub code : List ℕ
  pub main : List ℕ
  pub local : List ℕ
  pub cache : List ℕ
  pub kept : List ℕ

abbrev pub described : Judged → List ℕ → List ℕ → List ℕ → List ℕ → List ℕ → Described
described judged code main local cache kept = record { judged = judged; code = code; main = main; local = local; cache = cache; kept = kept }

module _ (line code main local cache kept : List ℕ) where
  abbrev pub in_code : Filled → Described
  in_code f = described f.judged f.buffer main local cache f.kept

  abbrev pub in_main : Filled → Described
  in_main f = described f.judged code f.buffer local cache f.kept

  abbrev pub in_local : Filled → Described
  in_local f = described f.judged code main f.buffer cache f.kept

  abbrev pub in_cache : Filled → Described
  in_cache f = described f.judged code main local f.buffer f.kept

  abbrev pub in_kept : Noted → Described
  in_kept n = described n.judged code main local cache n.kept

  -- The lines of the table, by what they fill.
  unfoldable pub described_by : Line → Described
  described_by (Line.Code list) = in_code (code_line line list kept code)
  described_by (Line.Private list) = in_kept (mark_items line list kept)
  described_by (Line.Held list) = in_kept (hold_bases line list kept)
  described_by (Line.Record list) = in_kept (taken Listed.Record line list kept)
  described_by (Line.Replay r) = in_kept (of_replay r kept)
  described_by (Line.MainWord address w) = in_main (memory_word kept Store.Main address w main)
  described_by (Line.LocalWord address w) = in_local (memory_word kept Store.Local address w local)
  described_by (Line.CacheWord place w) = in_cache (cache_word kept place w cache)
  described_by Line.Empty = in_kept (given Line.Empty kept)
  described_by (Line.Case name) = in_kept (given (Line.Case name) kept)
  described_by (Line.Main n) = in_kept (given (Line.Main n) kept)
  described_by (Line.Local n) = in_kept (given (Line.Local n) kept)
  described_by (Line.Stack words lo hi) = in_kept (given (Line.Stack words lo hi) kept)
  described_by (Line.Entry a) = in_kept (given (Line.Entry a) kept)
  described_by (Line.Fetch a) = in_kept (given (Line.Fetch a) kept)
  described_by (Line.Base a) = in_kept (given (Line.Base a) kept)
  described_by (Line.Reg n w) = in_kept (given (Line.Reg n w) kept)
  described_by (Line.Pred n v) = in_kept (given (Line.Pred n v) kept)
  described_by (Line.Special name w) = in_kept (given (Line.Special name w) kept)
  described_by (Line.Br target wait) = in_kept (given (Line.Br target wait) kept)
  described_by (Line.Call target wait) = in_kept (given (Line.Call target wait) kept)
  described_by (Line.Block target base wait) = in_kept (given (Line.Block target base wait) kept)
  described_by (Line.Load n w) = in_kept (given (Line.Load n w) kept)
  described_by (Line.Run n) = in_kept (given (Line.Run n) kept)
  described_by Line.Step = in_kept (given Line.Step kept)
  described_by Line.Check = in_kept (given Line.Check kept)
  described_by (Line.Write text) = in_kept (given (Line.Write text) kept)
  described_by Line.Listing = in_kept (given Line.Listing kept)
  described_by (Line.Product wait low high) = in_kept (given (Line.Product wait low high) kept)
  described_by (Line.Method blocks bytes) = in_kept (given (Line.Method blocks bytes) kept)
  described_by (Line.RecordBytes n) = in_kept (given (Line.RecordBytes n) kept)
  described_by Line.Save = in_kept (given Line.Save kept)
  described_by (Line.Resume asked room) = in_kept (given (Line.Resume asked room) kept)
  described_by (Line.Xret target base wait) = in_kept (given (Line.Xret target base wait) kept)

  -- The same of what a line was read as: one that is a mistake leaves all as it was.
  abbrev pub described_read : Result Line Reason → Described
  described_read (Ok said) = described_by said
  described_read (Err r) = in_kept (given_read (Err r) kept)
