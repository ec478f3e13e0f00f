-- The state record (request (iv) of document 02): a stopped box as eleven sections of words, each after its count, in bytes. docs/RECORD.md has
-- the same as a table.
use Rattle.std.specs.Prelude.{ℕ, ◌+◌, ◌-◌, ◌*◌, ◌/◌, ◌%◌, ◌^◌, Bool, cond, ◌&&◌, ◌||◌, List, [], ◌∷◌, eqb, leb, ltb, length, get_or}
use Rattle.word.specs.Word.{add}
use Rattle.sections.specs.Words.{AreWords, bytes_of, words_in}
use Rattle.sections.specs.Sections.{joined, is_cut, section_at}
use Rattle.method_cache.specs.MethodCache.{greatest_blocks}
use Rattle.settings.specs.Setup.{Setup}
use Rattle.alu_effects.specs.declared.Specials.{Specials}
use Rattle.alu_effects.specs.AluEffects.{predicates_word}
use Rattle.effects.specs.declared.Transfer.{Transfer}
use Rattle.effects.specs.declared.Transfer.TheVariants.{Br, Call, Block, Xret}
use Rattle.products.specs.declared.Products.{Products}
use Rattle.products.specs.declared.Products.TheVariants as products
use Rattle.products.specs.Products.{product}
use Rattle.core_state.specs.declared.WaitingTransfer.{WaitingTransfer}
use Rattle.core_state.specs.declared.WaitingTransfer.TheVariants as transfer
use Rattle.core_state.specs.declared.WaitingLoad.{WaitingLoad}
use Rattle.core_state.specs.declared.WaitingLoad.TheVariants as load
use Rattle.core_state.specs.State.{State, state, further, specials, predicates_of}
use Rattle.replay.specs.declared.Replay.{Replay}
use Rattle.replay.specs.Replay.{replay}
use Rattle.bundle_model.specs.declared.Counts.{Counts}
use Rattle.bundle_model.specs.Bundle.{well_formed}

-- A stopped box: its state, the words of its stack cache, and the counts of the run that stopped.
pub record Box : Type 0 where
  pub state : State
  pub cache : List ℕ
  pub counts : Counts

abbrev pub box : State → List ℕ → Counts → Box
box s cache counts = record { state = s; cache = cache; counts = counts }

-- The words of the special registers beside s0.
abbrev pub specials_section : Specials → List ℕ
specials_section x = x.sl ∷ x.sh ∷ x.ss ∷ x.st ∷ x.srb ∷ x.sro ∷ x.sxb ∷ x.sxo ∷ []

abbrev pub specials_in : List ℕ → Specials
specials_in l = specials (get_or l 0 0) (get_or l 1 0) (get_or l 2 0) (get_or l 3 0) (get_or l 4 0) (get_or l 5 0) (get_or l 6 0) (get_or l 7 0)

-- A waiting transfer: its kind, its wait, its target, and of a block transfer and of xret the base.
unfoldable pub transfer_section : WaitingTransfer → List ℕ
transfer_section transfer.Nothing = []
transfer_section (transfer.Waits (Br target) wait) = 0 ∷ wait ∷ target ∷ []
transfer_section (transfer.Waits (Call target) wait) = 1 ∷ wait ∷ target ∷ []
transfer_section (transfer.Waits (Block target base) wait) = 2 ∷ wait ∷ target ∷ base ∷ []
transfer_section (transfer.Waits (Xret target base) wait) = 3 ∷ wait ∷ target ∷ base ∷ []

unfoldable pub transfer_of : ℕ → ℕ → ℕ → Transfer
transfer_of kind target base =
    cond (eqb kind 0) (Br target)
    (cond (eqb kind 1) (Call target)
    (cond (eqb kind 2) (Block target base) (Xret target base)))

unfoldable pub transfer_in : List ℕ → WaitingTransfer
transfer_in l = cond (eqb (length l) 0) transfer.Nothing (transfer.Waits (transfer_of (get_or l 0 0) (get_or l 2 0) (get_or l 3 0)) (get_or l 1 0))

-- What the words of a waiting transfer look like: none, three with kind 0 or 1, or four with kind 2 or 3.
unfoldable pub is_transfer : List ℕ → Bool
is_transfer l = eqb (length l) 0 || (cond (leb (get_or l 0 0) 1) (eqb (length l) 3) (leb (get_or l 0 0) 3 && eqb (length l) 4))

-- A waiting load: its register and its value.
unfoldable pub load_section : WaitingLoad → List ℕ
load_section load.Nothing = []
load_section (load.Waits r v) = r ∷ v ∷ []

unfoldable pub load_in : List ℕ → WaitingLoad
load_in l = cond (eqb (length l) 0) load.Nothing (load.Waits (get_or l 0 0) (get_or l 1 0))

unfoldable pub is_load : List ℕ → Bool
is_load l = eqb (length l) 0 || eqb (length l) 2

-- Products under way: wait, low and high word of each, by rising wait (of equal ones 11 judges). Here both waits count from now, in the state
-- the second one counts from the landing of the first.
unfoldable pub product_section : Products → List ℕ
product_section products.Nothing = []
product_section (products.One p) = p.wait ∷ p.low ∷ p.high ∷ []
product_section (products.Two p q) = p.wait ∷ p.low ∷ p.high ∷ add p.wait q.wait ∷ q.low ∷ q.high ∷ []

unfoldable pub products_in : List ℕ → Products
products_in l =
    let first = product (get_or l 0 0) (get_or l 1 0) (get_or l 2 0) in
    cond (eqb (length l) 0) products.Nothing
    (cond (eqb (length l) 3) (products.One first)
    (products.Two first (product (get_or l 3 0 - get_or l 0 0) (get_or l 4 0) (get_or l 5 0))))

unfoldable pub are_products : List ℕ → Bool
are_products l = (eqb (length l) 0 || eqb (length l) 3) || (eqb (length l) 6 && leb (get_or l 0 0) (get_or l 3 0))

-- Counts: two words each, the upper one first. They take any value.
abbrev pub upper : ℕ → ℕ
upper n = n / 2 ^ 32

abbrev pub lower : ℕ → ℕ
lower n = n % 2 ^ 32

unfoldable pub count_section : Counts → List ℕ
count_section c =
    upper c.bundles ∷ lower c.bundles ∷ upper c.cycles ∷ lower c.cycles
    ∷ upper c.spilled ∷ lower c.spilled ∷ upper c.filled ∷ lower c.filled
    ∷ upper c.misses ∷ lower c.misses ∷ upper c.fetched ∷ lower c.fetched ∷ []

-- The count at a place.
unfoldable pub count_at : List ℕ → ℕ → ℕ
count_at l i = get_or l i 0 * 2 ^ 32 + get_or l (i + 1) 0

abbrev pub counts_of_words : List ℕ → Counts
counts_of_words l =
    record { bundles = count_at l 0; cycles = count_at l 2; spilled = count_at l 4; filled = count_at l 6; misses = count_at l 8; fetched = count_at l 10 }

-- The replay: whether a handler is active, the place in the list, and the bundles done. The first word is 0 or 1, the others take any value.
unfoldable pub replay_section : Replay → List ℕ
replay_section r = cond r.active 1 0 ∷ r.place ∷ r.done ∷ []

abbrev pub replay_in : List ℕ → Replay
replay_in l = replay (eqb (get_or l 0 0) 1) (get_or l 1 0) (get_or l 2 0)

-- The eleven sections, in the order of the requests.
unfoldable pub record_sections : Box → List (List ℕ)
record_sections x =
    let s = x.state in
    (s.fetch ∷ s.base ∷ [])
    ∷ s.registers
    ∷ (predicates_word s.predicates ∷ [])
    ∷ specials_section s.specials
    ∷ x.cache
    ∷ transfer_section s.transfer
    ∷ load_section s.load
    ∷ product_section s.further.products
    ∷ count_section x.counts
    ∷ s.further.held
    ∷ replay_section s.further.replay
    ∷ []

abbrev pub record_words : Box → List ℕ
record_words x = joined (record_sections x)

-- The record, in bytes. Every stopped box has one; boxes that 11 describes may share it.
unfoldable pub record_of : Box → List ℕ
record_of x = bytes_of (record_words x)

-- What is read of words, whatever they are.
unfoldable pub box_in : List ℕ → Box
box_in l =
    let flow = section_at 0 l in
    box
    (state (section_at 1 l) (predicates_of 8 (get_or (section_at 2 l) 0 0)) (specials_in (section_at 3 l)) (get_or flow 0 0) (get_or flow 1 0)
    (transfer_in (section_at 5 l)) (load_in (section_at 6 l)) (further (products_in (section_at 7 l)) (section_at 9 l) (replay_in (section_at 10 l))))
    (section_at 4 l)
    (counts_of_words (section_at 8 l))

-- The form of a record with W cache words: eleven sections with nothing behind them, each with a count that it can have and values and an order
-- that some state's record has.
abbrev pub fixed_sections : ℕ → List ℕ → Bool
fixed_sections w l =
    ((eqb (length (section_at 0 l)) 2 && eqb (length (section_at 1 l)) 32) && (eqb (length (section_at 2 l)) 1 && eqb (length (section_at 3 l)) 8))
    && ((eqb (length (section_at 4 l)) w && eqb (length (section_at 8 l)) 12) && eqb (length (section_at 10 l)) 3)

abbrev pub free_sections : List ℕ → Bool
free_sections l =
    (is_transfer (section_at 5 l) && is_load (section_at 6 l)) && (are_products (section_at 7 l) && leb (length (section_at 9 l)) greatest_blocks)

-- The words that cannot have every value: the predicates, and whether a handler is active.
abbrev pub small_words : List ℕ → Bool
small_words l = ltb (get_or (section_at 2 l) 0 0) 256 && leb (get_or (section_at 10 l) 0 0) 1

unfoldable pub is_record : ℕ → List ℕ → Bool
is_record w l = is_cut 11 l && ((fixed_sections w l && small_words l) && free_sections l)

-- Bytes of that form: whole words.
unfoldable pub has_form : ℕ → List ℕ → Bool
has_form w bytes = eqb (length bytes % 4) 0 && is_record w (words_in bytes)

-- The box of a record.
abbrev pub read_record : List ℕ → Box
read_record bytes = box_in (words_in bytes)

-- Bytes that are taken for a record of W cache words, over this code and these settings: they have the form, and hold a state that 11 does
-- not describe. Other bytes are refused with 14.
unfoldable pub accepts : Setup → ℕ → List ℕ → Bool
accepts x w bytes = has_form w bytes && well_formed x (read_record bytes).state

-- The lengths of the shortest and the longest record with W cache words, in bytes: eleven counts and the sections that have one count; and, beside
-- these, a waiting transfer with a base, a load, two products, and as many blocks as any capacity has.
abbrev pub shortest : ℕ → ℕ
shortest w = 4 * (11 + (2 + 32 + 1 + 8 + w + 12 + 3))

abbrev pub longest : ℕ → ℕ
longest w = shortest w + 4 * (4 + 2 + 6 + greatest_blocks)

-- Every number that goes into the record is a word below 2 ^ 32, as those of the types are.
abbrev pub InWords : Box → Type 0
InWords x = AreWords (record_words x)
