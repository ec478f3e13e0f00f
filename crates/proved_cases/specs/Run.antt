-- Runs as cases: bundles tried by `step`, one after the other, from the state that `opening` builds.
use Rattle.std.specs.Prelude.{ℕ, zero, suc, ◌-◌, ◌*◌, ◌/◌, ◌%◌, false, List, [], ◌∷◌, ◌++◌, map, ◌≡◌, refl, length, replicate}
use Rattle.std.proofs.Common.{ap}
use Rattle.word.specs.Word.{signed, less_signed, less_equal_signed, shift_right_signed, copy_bit, product_signed, sign_extend}
use Rattle.big_endian.specs.Bytes.{number_at, put_number}
use Rattle.alu.specs.Alu.{arithmetic, multiply, compare, combine}
use Rattle.isa.specs.Format.{reading, row}
use Rattle.decoder.specs.Decode as decoder
use Rattle.decoder.specs.Decode.{bundle_words, guard_of, slot_two, decode}
use Rattle.stack_cache.specs.Stack.{is_cache_size, cache_word, put_cache_word, part_of, put_part, cache_number, put_cache_number, below, spill_while, fill_while, top_after, spills, fills, spill_after, bad_window, bad_amount, every, moved_outside, spilled, filled}
use Rattle.sections.specs.Words.{words_from, words_in}
use Rattle.replay.specs.Replay.{replay, handler_at, records_ok, replay_ok, due_in, one_more}
use Rattle.products.specs.Products.{products_ok, due_product, nearer_products, with_one_more}
use Rattle.core_state.specs.State.{State, with_register, with_predicate, predicates_of, with_special, with_stack, with_replay, landed, arrived, going_on, transferred, entered, parts_ok, ended as has_ended, fresh}
use Rattle.core_state.specs.declared.WaitingTransfer.{WaitingTransfer}
use Rattle.method_cache.specs.MethodCache.{capacity_ok, held_after, misses, words_fetched, held_ok}
use Rattle.answers.specs.Answer.{Returned, accepted, done, ended, spent, refused}
use Rattle.bundle_model.specs.declared.Counts.{Counts}
use Rattle.settings.specs.Settings.{admits}
use Rattle.memory.specs.Access.{load_scale, store_scale, read_number, extended, loaded_value, stored, main_open, access_open}
use Rattle.alu_effects.specs.AluEffects.{predicates_word, special, op2_value, alu_effect, slot_two_effect}
use Rattle.effects.specs.Effect.{access_address, amount_words, amount_aligned, stack_effect, transfer_of, effect_of, slot_one_effect, on_effect}
use Rattle.bundle_model.specs.Interrupt.{due, entry_lookups, entry_tests, taken}
use Rattle.bundle_model.specs.Bundle.{stack_moved, buffers_after, write_one, written, Outcome, outcome, bundle, attempt, well_formed, readiness, step}
use Rattle.step_laws.specs.StepCases.{effect_at}
use Rattle.bundle_model.specs.Lookup.{bases_of, lookup_tests}
use Rattle.bundle_model.specs.Refusal.{slot_tests}
use Rattle.core_state.specs.Writes.{write_alu, delay_slots}
use Rattle.state.specs.Open.{Open, opening}
use Rattle.proved_cases.specs.Case.{Case, AllHold}
use Rattle.settings.specs.Setup.{Setup, Buffers, buffers, touches}
use Rattle.answers.specs.Test.{verdict}
use Rattle.fetch.specs.Fetch.{outside_code}

-- The machine of every run: main memory of 1024 bytes, all zero, with the stack area from 512 to its end; no local memory and no method
-- cache; no interrupt is replayed, and no handler is in the table.
abbrev pub within : List ℕ → Setup
within code = record { code = code; list = []; table = replicate 128 0; lo = 512; hi = 1024; method = record { on = false; blocks = 0; bytes = 0 } }

-- Main memory that is zero but for its last bytes.
abbrev pub ending_in : List ℕ → List ℕ
ending_in last = replicate (1024 - length last) 0 ++ last

-- What is run: code, the address at which it is entered, what the cache holds then, and how many bundles are tried.
pub record Given : Type 0 where
  pub code : List ℕ
  pub entry : ℕ
  pub cache : List ℕ
  pub bundles : ℕ

-- The buffers at the start. An opening leaves zeros in the cache; here it holds words that can be told apart.
abbrev pub lent_at_start : Given → Buffers
lent_at_start g = buffers (ending_in []) [] g.cache

-- The opening. (Its line, and that of `seen`, name the definitions by which it is computed: what unfolds it unfolds them too.)
unfoldable pub opened : Given → Open
unfolding opening admits is_cache_size capacity_ok fresh predicates_of
opened g = opening (within g.code) (lent_at_start g) g.entry

-- What a step gives, and the addresses of the words that it spills and fills, in order.
pub record Seen : Type 0 where
  pub outcome : Outcome
  pub spilled : List ℕ
  pub filled : List ℕ

-- A bundle that is not done moves no words.
abbrev pub if_done : Returned → List ℕ → List ℕ
if_done done addresses = addresses
if_done accepted addresses = []
if_done ended addresses = []
if_done spent addresses = []
if_done (refused n) addresses = []

unfoldable pub seen : List ℕ → State → Buffers → Seen
unfolding step readiness admits is_cache_size capacity_ok well_formed parts_ok held_ok has_ended bundle slot_tests bases_of lookup_tests held_after misses words_fetched
    attempt replay_ok records_ok words_in words_from due due_in handler_at one_more entry_lookups entry_tests taken entered
    outside_code number_at bundle_words decode guard_of decoder.slot_one slot_two reading row signed
    slot_one_effect slot_two_effect effect_of alu_effect op2_value arithmetic multiply compare combine
    less_signed less_equal_signed shift_right_signed copy_bit product_signed predicates_word special
    load_scale store_scale access_address stack_effect amount_words amount_aligned transfer_of
    verdict touches main_open access_open bad_window bad_amount moved_outside every spills spill_while below fills fill_while top_after spill_after
    written landed arrived products_ok due_product nearer_products with_one_more write_one write_alu with_register with_predicate with_special predicates_of delay_slots transferred
    loaded_value extended sign_extend read_number cache_number cache_word part_of
    buffers_after stored put_number put_cache_number put_cache_word put_part stack_moved spilled filled
seen code s b =
    let o = step (within code) s b in
    let one = effect_at (within code) (taken (within code) s) in
    record {
      outcome = o;
      spilled = if_done o.answer (on_effect [] (λ c n m. spills c (length b.cache) s.specials.st s.specials.ss n) (λ d t. []) (λ n handler. []) one);
      filled = if_done o.answer (on_effect [] (λ c n m. fills c s.specials.st s.specials.ss n) (λ d t. []) (λ n handler. []) one);
    }

-- Each step goes on with the state and the buffers that the one before left.
abbrev pub steps_from : ℕ → List ℕ → State → Buffers → List Seen
steps_from zero code s b = []
steps_from (suc k) code s b =
    let x = seen code s b in
    x ∷ steps_from k code x.outcome.state x.outcome.buffers

-- What a run gives: the answer of its opening, and what each step gives.
pub record Trace : Type 0 where
  pub opened : Returned
  pub steps : List Seen

abbrev pub traced : Given → Trace
traced g =
    let o = opened g in
    record { opened = o.answer; steps = steps_from g.bundles g.code o.state (lent_at_start g) }

-- A run as data, in five records. Where st and ss are, and the addresses of the words moved;
pub record Stack : Type 0 where
  pub st : ℕ
  pub ss : ℕ
  pub spilled : List ℕ
  pub filled : List ℕ

-- where the core goes on, and how many bundles are done;
pub record Flow : Type 0 where
  pub fetch : ℕ
  pub transfer : WaitingTransfer
  pub done : ℕ

-- the last bytes of main memory, and the cache;
pub record Lent : Type 0 where
  pub last : List ℕ
  pub cache : List ℕ

-- a bundle's word, and what must be after it;
pub record Tried : Type 0 where
  pub word : ℕ
  pub answer : Returned
  pub counts : Counts
  pub stack : Stack
  pub flow : Flow
  pub lent : Lent

-- the code words before the entry, what the cache holds at the start, and the bundles from the entry on.
pub record Run : Type 0 where
  pub before : List ℕ
  pub cache : List ℕ
  pub tried : List Tried

-- The bytes of code words.
abbrev pub bytes_of : List ℕ → List ℕ
bytes_of [] = []
bytes_of (w ∷ ws) = w / 16777216 ∷ w / 65536 % 256 ∷ w / 256 % 256 ∷ w % 256 ∷ bytes_of ws

abbrev pub given : Run → Given
given r =
    record {
      code = bytes_of (r.before ++ map (λ t. t.word) r.tried);
      entry = 4 * length r.before;
      cache = r.cache;
      bundles = length r.tried;
    }

-- What must be seen after a bundle. All that is not named there is as in the fresh state: registers, predicates, the other special
-- registers, base, and no waiting load.
abbrev pub expected : Run → Tried → Seen
expected r t =
    let s = going_on (fresh (length (given r).code) 1024 (given r).entry) t.flow.fetch t.flow.transfer in
    record {
      outcome = outcome t.answer (with_replay (with_stack s t.stack.st t.stack.ss) (replay false 0 t.flow.done)) t.counts (buffers (ending_in t.lent.last) [] t.lent.cache);
      spilled = t.stack.spilled;
      filled = t.stack.filled;
    }

abbrev pub case : Run → Case Given Trace
case r = record { given = given r; expected = record { opened = accepted; steps = map (expected r) r.tried } }

-- A run is computed bundle by bundle: each step by itself, from what the data says of the bundle before. (Computed as one, a run
-- of four bundles costs too much.)
abbrev pub each_from : List ℕ → (Tried → Seen) → State → Buffers → List Tried → List Seen
each_from code e s b [] = []
each_from code e s b (t ∷ ts) = seen code s b ∷ each_from code e (e t).outcome.state (e t).outcome.buffers ts

abbrev pub each : Run → Trace
each r =
    let o = opened (given r) in
    record { opened = o.answer; steps = each_from (given r).code (expected r) o.state (lent_at_start (given r)) r.tried }

abbrev pub EachHolds : List Run → Type 0
EachHolds runs = map each runs ≡ map (λ r. (case r).expected) runs

-- Bundles that hold one by one hold as a run.
abbrev first : {A : Type 0} → A → List A → A
first d [] = d
first d (x ∷ xs) = x

abbrev rest : {A : Type 0} → List A → List A
rest [] = []
rest (x ∷ xs) = xs

steps_hold : (code : List ℕ) (e : Tried → Seen) (s : State) (b : Buffers) (ts : List Tried)
    → each_from code e s b ts ≡ map e ts → steps_from (length ts) code s b ≡ map e ts
steps_hold code e s b [] h = refl
steps_hold code e s b (t ∷ ts) h =
    go (seen code s b) (ap (first (e t)) h) (steps_hold code e (e t).outcome.state (e t).outcome.buffers ts (ap rest h))
  where
    go : (x : Seen) → x ≡ e t → steps_from (length ts) code (e t).outcome.state (e t).outcome.buffers ≡ map e ts
        → x ∷ steps_from (length ts) code x.outcome.state x.outcome.buffers ≡ e t ∷ map e ts
    go x p q = rw p (ap (λ (l : List Seen). e t ∷ l) q)

run_holds : (r : Run) → each r ≡ (case r).expected → traced (given r) ≡ (case r).expected
run_holds r h =
    let s = (opened (given r)).state in
    let answer : (traced (given r)).opened ≡ accepted = ap (λ (t : Trace). t.opened) h in
    rw (answer, steps_hold (given r).code (expected r) s (lent_at_start (given r)) r.tried (ap (λ (t : Trace). t.steps) h))

pub runs_hold : (runs : List Run) → EachHolds runs → AllHold traced (map case runs)
runs_hold [] h = refl
runs_hold (r ∷ rs) h = rw (run_holds r (ap (first (case r).expected) h), runs_hold rs (ap rest h))
