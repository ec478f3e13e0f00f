-- The lines on a replay, and its list and table as bytes.
use Rattle.std.specs.Prelude.{ℕ, ◌+◌, ◌*◌, List}
use Rattle.case_file.specs.declared.ReplayLine.{ReplayLine}
use Rattle.case_file.specs.declared.Reason.TheVariants as Reason
use Rattle.case_kept.specs.Indices.{REPLAYS, ACTIVE, PLACE, DONE, LIST_BYTES, TABLE_BYTES, TABLE, INTERRUPTS}
use Rattle.case_kept.specs.Kept.{put}
use Rattle.case_notes.specs.Description.{Noted, number_once, one_of32}
use Rattle.case_notes.specs.Lists.{behind, and_then}
use Rattle.case_notes.specs.Record.{entries, handed_in, laid}

-- A case has at most 4,096 interrupts, of two numbers each.
abbrev pub MOST_NUMBERS : ℕ
MOST_NUMBERS = 8192

abbrev pub number_behind : ℕ → List ℕ → Noted
number_behind n kept = behind kept INTERRUPTS MOST_NUMBERS Reason.TooManyInterrupts n

-- An interrupt goes behind those that the case has: its number, and then its vector.
unfoldable pub interrupt : List ℕ → ℕ → ℕ → Noted
interrupt kept number vector = and_then (number_behind number kept) (number_behind vector)

unfoldable pub said : ReplayLine → List ℕ → Noted
said (ReplayLine.Interrupt number vector) kept = interrupt kept number vector
said (ReplayLine.Handler vector address) kept = one_of32 kept TABLE vector address
said (ReplayLine.ListBytes n) kept = number_once kept LIST_BYTES n
said (ReplayLine.TableBytes n) kept = number_once kept TABLE_BYTES n
said ReplayLine.Active kept = number_once kept ACTIVE 1
said (ReplayLine.Place n) kept = number_once kept PLACE n
said (ReplayLine.Done n) kept = number_once kept DONE n

-- That a line says something of the replay is kept beside it.
abbrev pub of_replay : ReplayLine → List ℕ → Noted
of_replay r kept = said r (put kept REPLAYS 1)

-- The list as bytes: a word for each of its numbers.
abbrev pub list_numbers : List ℕ → ℕ
list_numbers kept = entries kept INTERRUPTS MOST_NUMBERS

abbrev pub list_length : List ℕ → ℕ
list_length kept = handed_in kept LIST_BYTES 65536 (4 * list_numbers kept)

abbrev pub laid_list : List ℕ → List ℕ → List ℕ
laid_list kept bytes = laid (INTERRUPTS + 1) (list_numbers kept) kept bytes

-- The table as bytes: a word for each of the 32 handlers.
abbrev pub table_length : List ℕ → ℕ
table_length kept = handed_in kept TABLE_BYTES 256 128

abbrev pub laid_table : List ℕ → List ℕ → List ℕ
laid_table kept bytes = laid TABLE 32 kept bytes
