-- Parts of a bundle, for the contracts of the functions that do it: the outcome of a decoded bundle.
use Rattle.std.specs.Prelude.{ℕ, ◌-◌, Bool, cond, List, ◌≡◌, Ok, Err, Result}
use Rattle.answers.specs.declared.Refusal.{Refusal}
use Rattle.stack_cache.specs.Stack.{top_after, spill_after, below, above, spilled, filled}
use Rattle.method_cache.specs.Words.{held_in, FixedHeld}
use Rattle.settings.specs.declared.Settings.{Settings}
use Rattle.answers.specs.Answer.{done}
use Rattle.answers.specs.Test.{Verdict, verdict}
use Rattle.settings.specs.Setup.{Setup, Buffers, Lent}
use Rattle.memory.specs.Access.{loaded_value}
use Rattle.alu_effects.specs.declared.AluEffect.{AluEffect}
use Rattle.effects.specs.declared.Effect.{Effect}
use Rattle.effects.specs.declared.Effect.TheVariants as effect
use Rattle.effects.specs.Effect.{on_effect}
use Rattle.core_state.specs.declared.Core.{Core}
use Rattle.core_state.specs.declared.WaitingLoad.TheVariants as load
use Rattle.core_state.specs.State.{State, with_special, with_load, with_begun, with_held, with_stack}
use Rattle.core_state.specs.Core.{joined, Registers, Predicates, found_state, left_state, Canonical}
use Rattle.core_state.specs.Writes.{write_alu}
use Rattle.bundle_model.specs.declared.Carried.{Carried}
use Rattle.bundle_model.specs.declared.Counts.{Counts}
use Rattle.bundle_model.specs.declared.Answer.{Answer}
use Rattle.bundle_model.specs.declared.Bundled.{Bundled}
use Rattle.bundle_model.specs.declared.Advanced.{Advanced}
use Rattle.bundle_model.specs.Lookup.{held_by, misses_by, fetched_by}
use Rattle.bundle_model.specs.Refusal.{slot_tests}
use Rattle.bundle_model.specs.Counts.{no_counts, plus, counts_in}
use Rattle.bundle_model.specs.Bundle.{Stepped, area, with_area, Outcome, outcome, full, returned, state_done, undelayed_cycles, spilled_by, filled_by, counts_of, buffers_after, refused_or}

-- In contracts, the whole state that a function is lent: its blocks held are words beside the registers and predicates.
abbrev pub found_whole : Registers → Predicates → Lent → Core → State
found_whole registers predicates held c = with_held (found_state registers predicates c) (held_in held.entry.now)

abbrev pub bundled : {R : Type 0} → Answer R → Core → Bundled R
bundled a c = record { answer = a; core = c }

-- What a function gives back with the registers, the predicates, the blocks held and the counts that it leaves.
abbrev pub stepped_as : List ℕ → List Bool → List ℕ → List ℕ → Bundled Refusal → Stepped
stepped_as rs ps held counts r = record { answer = r.answer; state = with_held (joined rs ps r.core) (held_in held); counts = counts_in counts }

-- In contracts, what a function gives back with all that it leaves; and one that has the counts by value.
abbrev pub handed_back : Registers → Predicates → Lent → Lent → Bundled Refusal → Buffers → Outcome
handed_back registers predicates held counts r b =
    full (stepped_as registers.exit.now predicates.exit.now held.exit.now counts.exit.now r) b

abbrev pub advanced_back : Registers → Predicates → Lent → Advanced → Buffers → Outcome
advanced_back registers predicates held r b =
    outcome (returned r.answer) (with_held (left_state registers predicates r.core) (held_in held.exit.now)) r.counts b

-- In contracts, that a function keeps a core and the words of the blocks held in their one form, beside what it gives.
pub record Kept (Given : Type 0) (c r : Core) (w v : List ℕ) : Type 0 where
  pub given : Given
  pub canonical : Canonical c → Canonical r
  pub held : FixedHeld w → FixedHeld v

-- A decoded bundle whose slots have these effects, done or refused.
unfoldable pub executed : Settings → Setup → State → Effect → AluEffect → ℕ → Buffers → Outcome
executed g x s one two following b =
    refused_or (verdict (slot_tests g x s one)) s b
    (outcome done (state_done g x b s one two following) (counts_of g x s one) (buffers_after g x s one b))

-- Slot one carried out on the stores, with the buffers that it leaves; refused, it leaves them as they were.
pub record CarriedOut : Type 0 where
  pub carried : Result Carried Refusal
  pub buffers : Buffers

abbrev pub carrying : ℕ → ℕ → ℕ → Carried
carrying value st ss = record { value = value; st = st; ss = ss }

-- Done with nothing to tell, and done with a value loaded.
abbrev pub nothing : Carried
nothing = carrying 0 0 0

abbrev pub plainly : Result Carried Refusal
plainly = Ok nothing

abbrev pub loading : ℕ → Result Carried Refusal
loading v = Ok (carrying v 0 0)

abbrev pub carried_as : Result Carried Refusal → Buffers → CarriedOut
carried_as c b = record { carried = c; buffers = b }

abbrev pub unless_refused : Verdict → Buffers → CarriedOut → CarriedOut
unless_refused (Ok u) b other = other
unless_refused (Err r) b other = carried_as (Err r) b

-- What it loads, and where it leaves st and ss.
abbrev pub loaded_by : Buffers → Effect → ℕ
loaded_by b (effect.Alu a) = 0
loaded_by b (effect.Special d v) = 0
loaded_by b (effect.Product l h) = 0
loaded_by b (effect.Load k w r a) = loaded_value b k w a
loaded_by b (effect.Store k w a v) = 0
loaded_by b (effect.Stack c n m) = 0
loaded_by b (effect.Transfer d t) = 0
loaded_by b (effect.Trap n handler) = 0

abbrev pub top_by : State → Effect → ℕ
top_by s = on_effect 0 (λ c n m. top_after c s.specials.st n) (λ d t. 0) (λ n handler. 0)

abbrev pub spill_by : Settings → State → Effect → ℕ
spill_by g s = on_effect 0 (λ c n m. spill_after c g.words s.specials.st s.specials.ss n) (λ d t. 0) (λ n handler. 0)

unfoldable pub carried_out : Settings → Setup → State → Effect → Buffers → CarriedOut
carried_out g x s one b =
    unless_refused (verdict (slot_tests g x s one)) b (carried_as (Ok (carrying (loaded_by b one) (top_by s one) (spill_by g s one))) (buffers_after g x s one b))

-- What slot one counts beside the one cycle that every bundle has.
abbrev pub extra_cycles : Effect → ℕ
extra_cycles = on_effect 0 (λ c n m. 0) (λ d t. cond d 0 (undelayed_cycles t - 1)) (λ n handler. 3)

abbrev pub extra_of : Settings → Setup → State → Effect → Counts
extra_of g x s e =
    record { bundles = 0; cycles = extra_cycles e; spilled = spilled_by g s e; filled = filled_by s e; misses = misses_by x s e; fetched = fetched_by x s e }

abbrev pub one_cycle : Counts
one_cycle = record { bundles = 1; cycles = 1; spilled = 0; filled = 0; misses = 0; fetched = 0 }

-- Where it is refused, nothing is counted, and the blocks held stay.
abbrev pub counted_by : Result Carried Refusal → Counts → Counts
counted_by (Err r) more = no_counts
counted_by (Ok d) more = more

abbrev pub held_left : Result Carried Refusal → List ℕ → List ℕ → List ℕ
held_left (Err r) before after = before
held_left (Ok d) before after = after

-- In contracts, what carrying slot one out leaves of the blocks held, whose words are w and then v, and of the counts, c and then d.
pub record Tallied (r : Result Carried Refusal) (g : Settings) (x : Setup) (s : State) (one : Effect) (w v c d : List ℕ) : Type 0 where
  pub held : held_in v ≡ held_left r s.further.held (held_by x s one)
  pub counts : counts_in d ≡ plus (counts_in c) (counted_by r (extra_of g x s one))
  pub fixed : FixedHeld w → FixedHeld v

-- In contracts, slot one carried out from a state, with all that it finds and leaves: the stores, the blocks held and the counts.
abbrev pub CarriesOut : Settings → Setup → State → Effect → Result Carried Refusal → Buffers → Buffers → Lent → Lent → Type 0
CarriesOut g x s one r b b' held counts =
    (carried_as r b' ≡ carried_out g x s one b) × Tallied r g x s one held.entry.now held.exit.now counts.entry.now counts.exit.now

-- In contracts, the state of any registers and predicates with the core and the blocks that a function finds.
abbrev pub holding : List ℕ → List Bool → Core → Lent → State
holding rs ps core held = with_held (joined rs ps core) (held_in held.entry.now)

-- What slot one writes to the state, of the value loaded and st and ss.
unfoldable pub write_done : Effect → ℕ → ℕ → ℕ → State → State
write_done (effect.Alu a) loaded st ss onto = write_alu a onto
write_done (effect.Special d v) loaded st ss onto = with_special onto d v
write_done (effect.Product l h) loaded st ss onto = with_begun onto l h
write_done (effect.Load k w r a) loaded st ss onto = with_load onto (load.Waits r loaded)
write_done (effect.Store k w a v) loaded st ss onto = onto
write_done (effect.Stack c n m) loaded st ss onto = with_stack onto st ss
write_done (effect.Transfer d t) loaded st ss onto = onto
write_done (effect.Trap n handler) loaded st ss onto = onto

-- The buffers after a number of words below ss were spilled and a number from ss up were filled.
pub record Moved (lo hi ss j k : ℕ) (main cache main' cache' : List ℕ) : Type 0 where
  pub memory : main' ≡ with_area lo hi main (spilled cache lo (area lo hi main) (below j ss))
  pub words : cache' ≡ filled (area lo hi main) lo cache (above k ss)
