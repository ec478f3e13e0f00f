-- "Ends and refusals": the tests of a bundle, in the order in which they are judged.
use Rattle.std.specs.Prelude.{ℕ, Bool, not, ◌||◌, List, [], ◌∷◌, ◌++◌, eqb, ltb}
use Rattle.answers.specs.declared.Refusal.TheVariants as refusal
use Rattle.answers.specs.Test.{Test, test}
use Rattle.replay.specs.Replay.{greatest_vector}
use Rattle.stack_cache.specs.declared.StackControl.{StackControl}
use Rattle.stack_cache.specs.Stack.{bad_window, bad_amount, moved_outside}
use Rattle.settings.specs.declared.Settings.{Settings}
use Rattle.settings.specs.Setup.{Setup}
use Rattle.memory.specs.Access.{load_tests, store_tests}
use Rattle.fetch.specs.Fetch.{fetch_tests}
use Rattle.effects.specs.declared.Effect.{Effect}
use Rattle.effects.specs.declared.Effect.TheVariants as effect
use Rattle.core_state.specs.State.{State, none_waits}
use Rattle.bundle_model.specs.Lookup.{lookups, lookup_tests}

-- 5, 7 and 8 of a stack instruction: its register operand is no multiple of 4; a bad window or amount; a word that it moves lies
-- outside the stack area.
abbrev pub stack_tests : Settings → Setup → ℕ → ℕ → StackControl → ℕ → Bool → List Test
stack_tests g x st ss c n aligned =
    test refusal.Misaligned (not aligned) ∷
    test refusal.Window (bad_window g.words st ss || bad_amount c g.words st n) ∷
    test refusal.MoveOutside (moved_outside c g.words x.lo x.hi st ss n) ∷
    []

-- A trap has no handler if its vector is not in the table, or the address there is 0.
abbrev pub no_handler : ℕ → ℕ → Bool
no_handler vector handler = ltb greatest_vector vector || eqb handler 0

-- The whole order is 1, 11, 15, ended and spent, before any bundle; of a record that is due 17 and 13; and then 2, 3, 16, 17, 4, 5, 7, 8, 6, 13.
-- The tests from 16 to 6 are of slot one's effect, each kind of which has a row with those that it can fail, in that order; slot two refuses
-- nothing. 16 is a trap while a handler is active, 17 a trap above 31 or to a handler at 0, and 4 a second transfer executed before the first has
-- happened; a trap is one. `readiness` (Bundle) has what comes before any bundle, `entry_tests` (Interrupt) what is judged of a record.
abbrev pub effect_tests : Settings → Setup → State → Effect → List Test
effect_tests g x s (effect.Alu a) = []
effect_tests g x s (effect.Special d v) = []
effect_tests g x s (effect.Product l h) = []
effect_tests g x s (effect.Load k w r a) = load_tests g x s.specials.st s.specials.ss k w a
effect_tests g x s (effect.Store k w a v) = store_tests g x s.specials.st s.specials.ss k w a
effect_tests g x s (effect.Stack c n m) = stack_tests g x s.specials.st s.specials.ss c n m
effect_tests g x s (effect.Transfer d t) = test refusal.TransferWaits (not (none_waits s.transfer)) ∷ []
effect_tests g x s (effect.Trap n handler) = test refusal.HandlerActive s.further.replay.active ∷ test refusal.NoHandler (no_handler n handler) ∷ test refusal.TransferWaits (not (none_waits s.transfer)) ∷ []

-- All tests of slot one: behind those of its effect is 13, of what it looks up.
unfoldable pub slot_tests : Settings → Setup → State → Effect → List Test
slot_tests g x s e = effect_tests g x s e ++ lookup_tests x.method x.code (lookups x e)

-- All tests of a bundle whose slot one has this effect.
abbrev pub bundle_tests : Settings → Setup → State → Effect → List Test
bundle_tests g x s e = fetch_tests x.code s.fetch ++ slot_tests g x s e
