-- A file, cut into lines. What the system gives of the file is free; what is made of it is not.
use Rattle.std.specs.Prelude.{ℕ, ◌+◌, ◌<◌, ◌≤◌, min, Bool, true, false, cond, List, ◌≡◌, ◌≢◌, get_or, set, take, eqb, leb, IsSome}
use Rattle.std.specs.Io.KnownBytes.{Keeps, Consumes, IsAtEnd}
use Rattle.std.specs.declared.option.Option.{Option}
use Rattle.case_input.specs.declared.Input.{Input}
use Rattle.case_input.specs.declared.Found.{Found}
use Rattle.case_input.specs.declared.Found.TheVariants as found

-- Nothing more is read.
abbrev pub closed : Found → Input
closed f = record { at = 0; end = 0; held = 0; ended = true; found = f }

-- Bytes of the piece from a position to another are to be taken, and some of a line are held.
abbrev pub going_on : ℕ → ℕ → ℕ → Found → Input
going_on at end held f = record { at = at; end = end; held = held; ended = false; found = f }

-- At the file's end a line that has begun is a line.
abbrev pub at_file_end : ℕ → Input
at_file_end held = cond (eqb held 0) (closed found.End) (closed (found.Line held))

-- What is made of some bytes of the file: none mean its end.
abbrev pub after_piece : ℕ → ℕ → Input
after_piece held n = cond (eqb n 0) (at_file_end held) (going_on 0 n held found.Nothing)

-- What may come of reading a piece: that it cannot be read, or up to 65,536 bytes of it.
pub record Piece (held : ℕ) (r : Input) : Type 0 where
  pub legible : Bool
  pub bytes : ℕ
  pub few : bytes ≤ 65536
  pub given : r ≡ cond legible (after_piece held bytes) (closed found.Unreadable)

-- A byte of the file: the line end, which is byte 10, ends a line; any other is held, of which a line has up to 4,000.
abbrev pub after_byte : ℕ → ℕ → ℕ → ℕ → Input
after_byte b at end held =
    cond (eqb b 10) (going_on at end 0 (found.Line held))
    (cond (leb 4000 held) (closed found.TooLong) (going_on at end (held + 1) found.Nothing))

abbrev pub line_after_byte : List ℕ → ℕ → ℕ → List ℕ
line_after_byte line b held = cond (eqb b 10) line (cond (leb 4000 held) line (set line held b))

-- A look at the file: after its end nothing is done; a byte of the piece is taken where one is left; else the next piece is read.
pub record Look (s : Input) (piece line : List ℕ) (r : Input) (piece' line' : List ℕ) : Type 0 where
  pub over : s.ended ≡ true → (r ≡ closed found.End) × (piece' ≡ piece) × (line' ≡ line)
  pub byte : s.ended ≡ false → s.at < min s.end 65536
      → (r ≡ after_byte (get_or piece s.at 0) (s.at + 1) (min s.end 65536) s.held) × (piece' ≡ piece) × (line' ≡ line_after_byte line (get_or piece s.at 0) s.held)
  pub more : s.ended ≡ false → min s.end 65536 ≤ s.at → Piece s.held r × (line' ≡ line)

-- What a read does to the bytes that the file has left, where these are known: those that are now to be taken of the piece stood at their
-- front, the file's end is found only where none is left, and where the file cannot be read none is lost.
pub record HasRead (old new : Option (List ℕ)) (r : Input) (piece : List ℕ) : Type 0 where
  pub failed : r.found ≡ found.Unreadable → Keeps old new
  pub given : r.found ≢ found.Unreadable → Consumes old new (take r.end piece)
  pub last : r.found ≢ found.Unreadable → r.ended ≡ true → IsAtEnd new

-- The same of a look, which takes bytes out of the file only where none of the piece is left.
pub record TakesBytes (s : Input) (old new : Option (List ℕ)) (r : Input) (piece : List ℕ) : Type 0 where
  pub over : s.ended ≡ true → Keeps old new
  pub byte : s.ended ≡ false → s.at < min s.end 65536 → Keeps old new
  pub more : s.ended ≡ false → min s.end 65536 ≤ s.at → HasRead old new r piece

-- Why the file cannot be read is told where it cannot, and only there.
pub record TellsFailure {E : Type 0} (r : Input) (old new : Option E) : Type 0 where
  pub told : r.found ≡ found.Unreadable → IsSome new
  pub kept : r.found ≢ found.Unreadable → new ≡ old
