-- Where each of the kept numbers stands, under the names of the code, with `-` for `_`.
use Rattle.std.specs.Prelude.{ℕ}

-- How many numbers are kept, and where those end that are cleared for a new case. Of those behind only INTERRUPTS is.
abbrev pub ALL : ℕ
ALL = 160600

abbrev pub CASE_END : ℕ
CASE_END = 301

-- The lengths of code and memories, the stack cache's words, the stack area, and the entry.
abbrev pub CODE : ℕ
CODE = 0

abbrev pub MAIN : ℕ
MAIN = 1

abbrev pub LOCAL : ℕ
LOCAL = 2

abbrev pub WORDS : ℕ
WORDS = 3

abbrev pub LO : ℕ
LO = 4

abbrev pub HI : ℕ
HI = 5

abbrev pub ENTRY : ℕ
ENTRY = 6

-- The state: eight specials, 32 registers, 8 predicates; the waiting transfer's kind and the numbers of its line; whether a load
-- waits, and its register and value.
abbrev pub FETCH : ℕ
FETCH = 7

abbrev pub BASE : ℕ
BASE = 8

abbrev pub SPECIALS : ℕ
SPECIALS = 9

abbrev pub TRANSFER : ℕ
TRANSFER = 17

-- The kinds of a waiting transfer. Where none waits, the kind is 0.
abbrev pub BR : ℕ
BR = 1

abbrev pub CALL : ℕ
CALL = 2

abbrev pub BLOCK : ℕ
BLOCK = 3

abbrev pub XRET : ℕ
XRET = 4

abbrev pub TARGET : ℕ
TARGET = 18

abbrev pub LOAD : ℕ
LOAD = 21

abbrev pub LOADED : ℕ
LOADED = 22

abbrev pub REGISTERS : ℕ
REGISTERS = 24

abbrev pub PREDICATES : ℕ
PREDICATES = 56

-- GIVEN + N tells whether a line gave the number at N.
abbrev pub GIVEN : ℕ
GIVEN = 64

-- The marking: each number tells whether an item is private.
abbrev pub PRIVATE_REGISTERS : ℕ
PRIVATE_REGISTERS = 128

abbrev pub PRIVATE_PREDICATES : ℕ
PRIVATE_PREDICATES = 160

abbrev pub PRIVATE_SL : ℕ
PRIVATE_SL = 168

abbrev pub PRIVATE_SH : ℕ
PRIVATE_SH = 169

abbrev pub PRIVATE_MAIN : ℕ
PRIVATE_MAIN = 170

abbrev pub PRIVATE_LOCAL : ℕ
PRIVATE_LOCAL = 171

abbrev pub PRIVATE_STACK : ℕ
PRIVATE_STACK = 172

-- The products under way: how many, and from PRODUCT on three numbers of each, by rising wait.
abbrev pub PRODUCTS : ℕ
PRODUCTS = 180

abbrev pub PRODUCT : ℕ
PRODUCT = 181

-- The method cache: whether a line gives it, and the blocks and bytes of its capacity. Whether a line gives blocks that it holds, how
-- many it holds, and behind that their bases, the oldest first.
abbrev pub METHOD : ℕ
METHOD = 187

abbrev pub BLOCKS : ℕ
BLOCKS = 188

abbrev pub BYTES : ℕ
BYTES = 189

abbrev pub HOLDS : ℕ
HOLDS = 190

abbrev pub HELD : ℕ
HELD = 191

-- The record to go on from: how many bytes of it are handed in, how many words it has, and behind that the words.
abbrev pub RECORD_BYTES : ℕ
RECORD_BYTES = 208

abbrev pub RECORD : ℕ
RECORD = 300

-- The replay: whether a line says something of it; of the state whether a handler is active, the list place and the bundles done; how
-- many bytes of the list and of the table are handed in; the table's 32 addresses. Of the list how many numbers it has, two for each
-- record, and behind that the numbers.
abbrev pub REPLAYS : ℕ
REPLAYS = 215

abbrev pub ACTIVE : ℕ
ACTIVE = 216

abbrev pub PLACE : ℕ
PLACE = 217

abbrev pub DONE : ℕ
DONE = 218

abbrev pub LIST_BYTES : ℕ
LIST_BYTES = 219

abbrev pub TABLE_BYTES : ℕ
TABLE_BYTES = 220

abbrev pub TABLE : ℕ
TABLE = 224

abbrev pub INTERRUPTS : ℕ
INTERRUPTS = 152400

-- How far the places of each store reach, how many are noted, the number of the line, the phase, and the notes.
abbrev pub REACH : ℕ
REACH = 176

abbrev pub NOTED : ℕ
NOTED = 179

abbrev pub LINE : ℕ
LINE = 2350

abbrev pub PHASE : ℕ
PHASE = 2351

-- The phase of a report that has ended.
abbrev pub STOPPED : ℕ
STOPPED = 4

abbrev pub NOTES : ℕ
NOTES = 2400
