-- What is handed to a run: what stays the same during it, and what is lent for writing.
use Rattle.std.specs.Prelude.{ℕ, ◌+◌, Bool, ◌&&◌, List, [], leb, ltb, length}
use Rattle.std.specs.Borrow.{MutBor}
use denote.Triple.Both.{Both}
use Rattle.method_cache.specs.declared.Method.{Method}
use Rattle.settings.specs.declared.Config.{Config}
use Rattle.settings.specs.declared.Given.{Given}
use Rattle.settings.specs.declared.Settings.{Settings}

-- What stays the same: the code, the replay's list and table, the stack area, which is main memory from lo to hi, and the method cache's
-- capacity.
pub record Setup : Type 0 where
  pub code : List ℕ
  pub list : List ℕ
  pub table : List ℕ
  pub lo : ℕ
  pub hi : ℕ
  pub method : Method

-- The setup of the code lent and the numbers handed over beside it, where nothing is replayed.
abbrev pub setup : List ℕ → Config → Setup
setup code c = record { code = code; list = []; table = []; lo = c.lo; hi = c.hi; method = c.method }

-- The setup with what is replayed: a list of interrupts and a table of handlers.
abbrev pub replaying : List ℕ → List ℕ → Setup → Setup
replaying list table x = record { code = x.code; list = list; table = table; lo = x.lo; hi = x.hi; method = x.method }

-- The setup of what a run is given.
abbrev pub given_setup : Given → Setup
given_setup x = replaying x.list.now x.table.now (setup x.code.now x.config)

-- What is lent for writing: main memory, local memory, and the words of the stack cache.
pub record Buffers : Type 0 where
  pub main : List ℕ
  pub local : List ℕ
  pub cache : List ℕ

abbrev pub buffers : List ℕ → List ℕ → List ℕ → Buffers
buffers m l c = record { main = m; local = l; cache = c }

-- In contracts, what a function is lent: as it is when the function is called, and when it returns.
abbrev pub Lent : Type 0
Lent = Both (MutBor (List ℕ)) (MutBor (List ℕ))

abbrev pub found : Lent → Lent → Lent → Buffers
found main local cache = buffers main.entry.now local.entry.now cache.entry.now

abbrev pub left : Lent → Lent → Lent → Buffers
left main local cache = buffers main.exit.now local.exit.now cache.exit.now

-- The settings of a setup and the lengths of what is lent beside it; lengths are those of what is lent, so nothing can disagree.
abbrev pub settings : Setup → ℕ → ℕ → ℕ → Settings
settings x main local words = record { code = length x.code; main = main; local = local; words = words; lo = x.lo; hi = x.hi; method = x.method }

abbrev pub lent : Setup → Buffers → Settings
lent x b = settings x (length b.main) (length b.local) (length b.cache)

-- The setup of settings and code, where nothing is replayed.
abbrev pub setup_of : List ℕ → Settings → Setup
setup_of code g = record { code = code; list = []; table = []; lo = g.lo; hi = g.hi; method = g.method }

-- The setup of what a run is given and of its settings, where these are at hand.
abbrev pub given_setup_of : Given → Settings → Setup
given_setup_of x g = replaying x.list.now x.table.now (setup_of x.code.now g)

-- The bytes of main memory that belong to the stack.
unfoldable pub is_stack_byte : Setup → ℕ → Bool
is_stack_byte x a = leb x.lo a && ltb a x.hi

-- Whether n bytes from a on meet the area from lo to hi, and whether they meet the stack's.
unfoldable pub touches : ℕ → ℕ → ℕ → ℕ → Bool
touches lo hi a n = ltb lo hi && (ltb a hi && ltb lo (a + n))

abbrev pub touches_stack : Setup → ℕ → ℕ → Bool
touches_stack x = touches x.lo x.hi
