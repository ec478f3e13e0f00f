-- Interrupts (request (vi) of document 02): when the record at the replay's place is taken, what refuses it, and the state from which the
-- bundle that it is a part of is then done.
use Rattle.std.specs.Prelude.{ℕ, Bool, cond, ◌&&◌, List, [], ◌∷◌, eqb}
use Rattle.answers.specs.declared.Refusal.TheVariants as refusal
use Rattle.answers.specs.Test.{Test, test}
use Rattle.replay.specs.Replay.{handler_of, due_in}
use Rattle.method_cache.specs.MethodCache.{held_after, misses, words_fetched}
use Rattle.settings.specs.Setup.{Setup}
use Rattle.core_state.specs.State.{State, none_waits, entered, one_place_on, with_held}
use Rattle.bundle_model.specs.declared.Counts.{Counts}
use Rattle.bundle_model.specs.Lookup.{looked_up, lookup_tests}

-- It is taken at the first start of a bundle at which its number of bundles is done, no handler is active and no transfer waits. Loads and
-- products do not delay it.
unfoldable pub due : Setup → State → Bool
due x s = due_in x.list s.further.replay && none_waits s.transfer

abbrev pub handler_due : Setup → State → ℕ
handler_due x s = handler_of x.list x.table s.further.replay.place

-- Its handler is looked up in the method cache as the target of a call.
unfoldable pub entry_lookups : Setup → State → List ℕ
entry_lookups x s = cond (due x s) (looked_up x (handler_due x s) (handler_due x s)) []

-- 17 for a handler at 0, and right after it 13.
unfoldable pub entry_tests : Setup → State → List Test
entry_tests x s = cond (due x s) (test refusal.NoHandler (eqb (handler_due x s) 0) ∷ lookup_tests x.method x.code (entry_lookups x s)) []

-- The state from which the bundle is done: with the record taken if one is due, which enters the handler from the fetch address, and with the
-- blocks held after the handler's lookup.
unfoldable pub taken : Setup → State → State
taken x s =
    cond (due x s)
    (with_held (one_place_on (entered s (handler_due x s) s.fetch)) (held_after x.method x.code s.further.held (entry_lookups x s)))
    s

-- It costs no bundle and no cycle; what its lookup counts is counted with the bundle.
abbrev pub entry_counts : Setup → State → Counts
entry_counts x s =
    record {
      bundles = 0;
      cycles = 0;
      spilled = 0;
      filled = 0;
      misses = misses x.method x.code s.further.held (entry_lookups x s);
      fetched = words_fetched x.method x.code s.further.held (entry_lookups x s);
    }
