-- Small programs for the evidence: their machine, their marking, and what two runs of them try.
use Rattle.std.specs.Prelude.{ℕ, zero, suc, ◌/◌, ◌%◌, Bool, true, false, List, [], ◌∷◌, map, ◌≡◌, refl, get_or, replicate}
use Rattle.std.proofs.lemmas.Bool.{false≢true}
use Rattle.std.proofs.Common.{sym}
use Rattle.word.specs.Word.{signed, less_signed, less_equal_signed, shift_right_signed, copy_bit, product_signed, sign_extend}
use Rattle.big_endian.specs.Bytes.{number_at, put_number}
use Rattle.alu.specs.Alu.{arithmetic, multiply, compare, combine}
use Rattle.isa.specs.Format.{reading, row}
use Rattle.decoder.specs.Decode as decoder
use Rattle.decoder.specs.Decode.{bundle_words, guard_of, slot_two, decode}
use Rattle.stack_cache.specs.Stack.{is_cache_size, cache_word, put_cache_word, part_of, put_part, cache_number, put_cache_number, below, spill_while, fill_while, top_after, spills, fills, spill_after, bad_window, bad_amount, every, moved_outside, spilled, filled}
use Rattle.method_cache.specs.declared.Method.{Method}
use Rattle.method_cache.specs.MethodCache.{capacity_ok, size_at, bad_block, is_held, bytes_held, room_for, looked, held_after, misses, words_fetched, held_good, held_ok}
use Rattle.answers.specs.Answer.{Returned}
use Rattle.settings.specs.Settings.{admits}
use Rattle.memory.specs.Access.{load_scale, store_scale, read_number, extended, loaded_value, stored, main_open, access_open}
use Rattle.alu_effects.specs.AluEffects.{predicates_word, special, op2_value, alu_effect, slot_two_effect}
use Rattle.effects.specs.Effect.{access_address, amount_words, amount_aligned, stack_effect, transfer_of, effect_of, slot_one_effect}
use Rattle.sections.specs.Words.{words_from, words_in}
use Rattle.replay.specs.Replay.{not_begun, handler_at, records_ok, replay_ok, due_in, one_more}
use Rattle.products.specs.declared.Products.TheVariants as products
use Rattle.products.specs.Products.{products_ok, due_product, nearer_products, with_one_more}
use Rattle.core_state.specs.State.{State, Shaped, state, specials, with_register, with_predicate, predicates_of, with_special, landed, transferred, entered, arrived, further, parts_ok, ended as has_ended}
use Rattle.core_state.specs.declared.WaitingTransfer.TheVariants as transfer
use Rattle.core_state.specs.declared.WaitingLoad.{WaitingLoad}
use Rattle.core_state.specs.declared.WaitingLoad.TheVariants as load
use Rattle.bundle_model.specs.Interrupt.{due, entry_lookups, entry_tests, taken}
use Rattle.bundle_model.specs.Bundle.{stack_moved, buffers_after, write_one, written, Outcome, bundle, attempt, well_formed, readiness, step}
use Rattle.bundle_model.specs.Lookup.{bases_of, lookup_tests}
use Rattle.bundle_model.specs.Refusal.{slot_tests}
use Rattle.core_state.specs.Writes.{write_alu, delay_slots}
use Rattle.run_model.specs.Run.{run, Tried, tries}
use Rattle.marking.specs.declared.Marking.{Marking}
use Rattle.marking_rules.specs.declared.Rule.TheVariants.{A, B, C, D, E}
use Rattle.marking.specs.Marking.{private_store, some as some_of, marking_ok}
use Rattle.marking_rules.specs.Rules.{asked, breaks_a, breaks_b, breaks_c, breaks_d, breaks_e, operation_breaks, breaks, keeps}
use Rattle.single_path.specs.Check.{CheckAnswer, walk_from, checked}
use Rattle.even_pace.specs.Terms.{Agree, has_private_access}
use Rattle.even_pace.specs.StateLaws.{state_refl, with_registers_lem, with_predicates_lem}
use Rattle.even_pace.specs.BufferLaws.{buffers_refl}
use Rattle.settings.specs.Setup.{Setup, Buffers, buffers, touches}
use Rattle.answers.specs.Test.{verdict}
use Rattle.fetch.specs.Fetch.{outside_code, bundle_at}
use Rattle.bundle_model.specs.Counts.{no_counts}

-- The bytes of code words.
abbrev pub bytes_of : List ℕ → List ℕ
bytes_of [] = []
bytes_of (w ∷ ws) = w / 16777216 ∷ w / 65536 % 256 ∷ w / 256 % 256 ∷ w % 256 ∷ bytes_of ws

-- A table of handlers that are all at 0: none is there.
abbrev pub no_handlers : List ℕ
no_handlers = replicate 128 0

-- Main memory of 32 bytes with the stack area from 16 on, 4 bytes of local memory and a cache of 4 words, all zero. No interrupt is replayed, unless
-- it is said.
abbrev pub with_method : List ℕ → Method → Setup
with_method code c = record { code = code; list = []; table = no_handlers; lo = 16; hi = 32; method = c }

-- Without a method cache, unless it is said.
abbrev pub within : List ℕ → Setup
within code = with_method code (record { on = false; blocks = 0; bytes = 0 })

abbrev pub lent : Buffers
lent = buffers (replicate 32 0) (replicate 4 0) (replicate 4 0)

-- r1 and p1 are private, sl and sh as given, and nothing else is.
abbrev pub marking_with : Bool → Bool → Marking
marking_with sl sh =
    record {
      registers = false ∷ true ∷ replicate 30 false;
      predicates = false ∷ true ∷ replicate 6 false;
      sl = sl;
      sh = sh;
      main = false;
      local = false;
      stack = false;
    }

abbrev pub marking : Marking
marking = marking_with false false

-- A state at address 0 with a value in r1, one in p1, and a load that waits or none.
abbrev pub begin : ℕ → Bool → WaitingLoad → State
begin v p waiting = state (0 ∷ v ∷ replicate 30 0) (true ∷ p ∷ replicate 6 false) (specials 0 0 32 32 0 4 0 0) 0 0 transfer.Nothing waiting (further products.Nothing [] not_begun)

-- What the check answers, which rules the bundle at 0 breaks, what a step gives, what a run tries, and what it answers. (The first line of each names
-- the definitions by which it is computed.)
unfoldable pub check_under : Marking → List ℕ → CheckAnswer
unfolding checked walk_from verdict admits is_cache_size capacity_ok marking_ok outside_code number_at bundle_words decode guard_of decoder.slot_one slot_two reading row signed
    keeps breaks operation_breaks asked breaks_a breaks_b breaks_c breaks_d breaks_e private_store some_of
check_under m code = checked (within code) 32 4 4 m

unfoldable pub check : List ℕ → CheckAnswer
unfolding check_under
check code = check_under marking code

unfoldable pub broken : List ℕ → List Bool
unfolding number_at bundle_words decode guard_of decoder.slot_one slot_two reading row signed breaks operation_breaks asked breaks_a breaks_b breaks_c breaks_d breaks_e private_store some_of
broken code = map (breaks marking (bundle_at code 0)) (A ∷ B ∷ C ∷ D ∷ E ∷ [])

unfoldable pub has_access : List ℕ → ℕ → Bool
unfolding has_private_access asked number_at bundle_words decode guard_of decoder.slot_one slot_two reading row signed
has_access code a = has_private_access marking (bundle_at code a)

unfoldable pub stepped : List ℕ → Method → State → Outcome
unfolding step readiness admits is_cache_size capacity_ok well_formed parts_ok held_ok held_good bad_block size_at is_held bytes_held has_ended bundle
    attempt replay_ok records_ok words_in words_from due due_in handler_at one_more entry_lookups entry_tests taken entered
    slot_tests bases_of lookup_tests looked room_for held_after misses words_fetched
    outside_code number_at bundle_words decode guard_of decoder.slot_one slot_two reading row signed
    slot_one_effect slot_two_effect effect_of alu_effect op2_value arithmetic multiply compare combine
    less_signed less_equal_signed shift_right_signed copy_bit product_signed predicates_word special
    load_scale store_scale access_address stack_effect amount_words amount_aligned transfer_of
    verdict touches main_open access_open bad_window bad_amount moved_outside every spills spill_while below fills fill_while top_after spill_after
    written landed arrived products_ok due_product nearer_products with_one_more write_one write_alu with_register with_predicate with_special predicates_of delay_slots transferred
    loaded_value extended sign_extend read_number cache_number cache_word part_of
    buffers_after stored put_number put_cache_number put_cache_word put_part stack_moved spilled filled
stepped code c s = step (with_method code c) s lent

unfoldable pub tried : ℕ → List ℕ → State → List Tried
unfolding stepped tries
tried k code s = tries (within code) k s lent no_counts

unfoldable pub answered : ℕ → List ℕ → State → Returned
unfolding run tried tries
answered k code s = (run (within code) k s lent).answer

-- Such states have the right shape, and any two of them agree.
pub begin_shaped : (v : ℕ) (p : Bool) (w : WaitingLoad) → Shaped (begin v p w)
begin_shaped v p w = record { registers = refl; predicates = refl }

pub begin_well : (code : List ℕ) (v : ℕ) (p : Bool) → well_formed (within code) (begin v p load.Nothing) ≡ true
unfolding well_formed parts_ok products_ok held_ok
begin_well code v p = refl

pub begin_agree : (sl sh : Bool) (x : Setup) (v₁ v₂ : ℕ) (p₁ p₂ : Bool)
    → Agree (marking_with sl sh) x (begin v₁ p₁ load.Nothing) lent (begin v₂ p₂ load.Nothing) lent
begin_agree sl sh x v₁ v₂ p₁ p₂ =
    record {
      state = with_predicates_lem (with_registers_lem (state_refl (begin v₁ p₁ load.Nothing)) (0 ∷ v₁ ∷ replicate 30 0) (0 ∷ v₂ ∷ replicate 30 0) (record { lengths = refl; places = registers }))
          (true ∷ p₁ ∷ replicate 6 false) (true ∷ p₂ ∷ replicate 6 false) (record { lengths = refl; places = predicates });
      buffers = buffers_refl lent;
    }
  where
    registers : (i : ℕ) → get_or marking.registers i false ≡ false → get_or (0 ∷ v₁ ∷ replicate 30 0) i 0 ≡ get_or (0 ∷ v₂ ∷ replicate 30 0) i 0
    registers zero e = refl
    registers (suc zero) e = absurd (false≢true (sym e))
    registers (suc (suc i)) e = refl

    predicates : (i : ℕ) → get_or marking.predicates i false ≡ false
        → get_or (true ∷ p₁ ∷ replicate 6 false) i false ≡ get_or (true ∷ p₂ ∷ replicate 6 false) i false
    predicates zero e = refl
    predicates (suc zero) e = absurd (false≢true (sym e))
    predicates (suc (suc i)) e = refl
