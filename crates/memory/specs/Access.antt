-- Loads and stores: the tests of refusals 5, 6 and 7 of an access, and what it reads or writes.
use Rattle.std.specs.Prelude.{ℕ, ◌+◌, ◌%◌, ◌^◌, Bool, true, false, not, ◌&&◌, List, [], ◌∷◌, eqb, leb}
use Rattle.word.specs.Word.{sign_extend}
use Rattle.big_endian.specs.Bytes.{number_at, put_number}
use Rattle.isa.specs.declared.AccessKind.{AccessKind}
use Rattle.isa.specs.declared.AccessKind.TheVariants.{Stack, Local, Cached, Main}
use Rattle.isa.specs.declared.LoadWidth.{LoadWidth}
use Rattle.isa.specs.declared.LoadWidth.TheVariants.{Word, Half, Byte, HalfUnsigned, ByteUnsigned}
use Rattle.isa.specs.declared.StoreWidth.{StoreWidth}
use Rattle.isa.specs.declared.StoreWidth.TheVariants as store
use Rattle.stack_cache.specs.Stack.{bad_window, cache_number, put_cache_number}
use Rattle.settings.specs.declared.Settings.{Settings}
use Rattle.settings.specs.Setup.{Setup, Buffers, buffers, touches_stack}
use Rattle.answers.specs.declared.Refusal.TheVariants as refusal
use Rattle.answers.specs.Test.{Test, test}

-- The bytes of an access are 2 ^ scale, and its immediate counts in them.
unfoldable pub load_scale : LoadWidth → ℕ
load_scale Word = 2
load_scale Half = 1
load_scale Byte = 0
load_scale HalfUnsigned = 1
load_scale ByteUnsigned = 0

unfoldable pub store_scale : StoreWidth → ℕ
store_scale store.Word = 2
store_scale store.Half = 1
store_scale store.Byte = 0

-- The number of k bytes at an address. Cached and main are one memory.
unfoldable pub read_number : Buffers → AccessKind → ℕ → ℕ → ℕ
read_number b Stack k a = cache_number k b.cache a
read_number b Local k a = number_at k b.local a
read_number b Cached k a = number_at k b.main a
read_number b Main k a = number_at k b.main a

-- Table 2.5: signed loads copy the sign, unsigned ones do not.
unfoldable pub extended : LoadWidth → ℕ → ℕ
extended Word n = n
extended Half n = sign_extend 16 n
extended Byte n = sign_extend 8 n
extended HalfUnsigned n = n
extended ByteUnsigned n = n

unfoldable pub loaded_value : Buffers → AccessKind → LoadWidth → ℕ → ℕ
loaded_value b k w a = extended w (read_number b k (2 ^ load_scale w) a)

unfoldable pub stored : Buffers → AccessKind → ℕ → ℕ → ℕ → Buffers
stored b Stack k a v = buffers b.main b.local (put_cache_number k b.cache a v)
stored b Local k a v = buffers b.main (put_number k b.local a v) b.cache
stored b Cached k a v = buffers (put_number k b.main a v) b.local b.cache
stored b Main k a v = buffers (put_number k b.main a v) b.local b.cache

-- 7 of a stack access: the window is none that a stack cache of W words can have.
abbrev pub is_stack : AccessKind → Bool
is_stack Stack = true
is_stack Local = false
is_stack Cached = false
is_stack Main = false

abbrev pub bad_access : Settings → ℕ → ℕ → AccessKind → Bool
bad_access g st ss k = is_stack k && bad_window g.words st ss

-- Which bytes of main memory are open to a load, and which to a store: those that it has, but for the stack's. n is the access's
-- number of bytes.
unfoldable pub main_open : Settings → Setup → ℕ → ℕ → Bool
main_open g x a n = leb (a + n) g.main && not (touches_stack x a n)

abbrev pub main_readable : Settings → Setup → ℕ → ℕ → Bool
main_readable = main_open

abbrev pub main_writable : Settings → Setup → ℕ → ℕ → Bool
main_writable = main_open

-- Whether all bytes of an access are open to it: of main memory as `main` says, all of local memory, and of the stack the window.
unfoldable pub access_open : Bool → Settings → ℕ → ℕ → AccessKind → ℕ → ℕ → Bool
access_open main g st ss Stack a n = leb st a && leb (a + n) ss
access_open main g st ss Local a n = leb (a + n) g.local
access_open main g st ss Cached a n = main
access_open main g st ss Main a n = main

-- The tests of an access of n bytes, in their order: 5, 7, 6. 5 is an address that the access width does not divide, 6 a byte that is
-- not open to it.
abbrev pub access_tests : Bool → Settings → ℕ → ℕ → AccessKind → ℕ → ℕ → List Test
access_tests main g st ss k a n =
    test refusal.Misaligned (not (eqb (a % n) 0)) ∷ test refusal.Window (bad_access g st ss k) ∷ test refusal.AccessOutside (not (access_open main g st ss k a n)) ∷ []

abbrev pub load_tests : Settings → Setup → ℕ → ℕ → AccessKind → LoadWidth → ℕ → List Test
load_tests g x st ss k w a = access_tests (main_readable g x a (2 ^ load_scale w)) g st ss k a (2 ^ load_scale w)

abbrev pub store_tests : Settings → Setup → ℕ → ℕ → AccessKind → StoreWidth → ℕ → List Test
store_tests g x st ss k w a = access_tests (main_writable g x a (2 ^ store_scale w)) g st ss k a (2 ^ store_scale w)
