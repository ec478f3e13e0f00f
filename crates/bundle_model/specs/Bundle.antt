-- "Doing a bundle": the writes in their order, the counts, and one bundle as a whole.
use Rattle.std.specs.Prelude.{ℕ, ◌-◌, ◌^◌, Bool, not, cond, ◌&&◌, List, ◌++◌, length, take, drop, Ok, Err}
use Rattle.answers.specs.declared.Refusal.{Refusal}
use Rattle.answers.specs.declared.Refusal.TheVariants as refusal
use Rattle.answers.specs.Refusal.{number}
use Rattle.answers.specs.Answer.{Returned, accepted, done, ended, spent, refused}
use Rattle.answers.specs.Test.{Verdict, verdict}
use Rattle.stack_cache.specs.declared.StackControl.{StackControl}
use Rattle.stack_cache.specs.Stack.{top_after, spill_after, spills, fills, spilled, filled}
use Rattle.settings.specs.declared.Settings.{Settings}
use Rattle.settings.specs.Setup.{Setup, Buffers, buffers, lent}
use Rattle.settings.specs.Settings.{admits}
use Rattle.memory.specs.Access.{store_scale, loaded_value, stored}
use Rattle.fetch.specs.Fetch.{bundle_at, following_at}
use Rattle.effects.specs.declared.Transfer.{Transfer}
use Rattle.effects.specs.declared.Transfer.TheVariants.{Br, Call, Block, Xret}
use Rattle.alu_effects.specs.declared.AluEffect.{AluEffect}
use Rattle.effects.specs.declared.Effect.{Effect}
use Rattle.effects.specs.declared.Effect.TheVariants as effect
use Rattle.effects.specs.Effect.{slot_one, slot_two, on_effect}
use Rattle.core_state.specs.State.{State, start_of, with_special, with_stack, with_load, landed, arrived, with_begun, with_held, with_done, entered, parts_ok, ended as has_ended}
use Rattle.core_state.specs.declared.WaitingTransfer.{WaitingTransfer}
use Rattle.core_state.specs.declared.WaitingLoad.TheVariants as load
use Rattle.bundle_model.specs.declared.Answer.{Answer}
use Rattle.bundle_model.specs.declared.Answer.TheVariants.{Done, Ended, Refused}
use Rattle.bundle_model.specs.declared.Readiness.{Readiness}
use Rattle.bundle_model.specs.declared.Readiness.TheVariants as ready
use Rattle.bundle_model.specs.declared.Counts.{Counts}
use Rattle.core_state.specs.Writes.{write_alu, nearer, begun}
use Rattle.method_cache.specs.MethodCache.{held_ok}
use Rattle.bundle_model.specs.Lookup.{held_by, misses_by, fetched_by}
use Rattle.replay.specs.Replay.{replay_ok}
use Rattle.bundle_model.specs.Refusal.{bundle_tests}
use Rattle.bundle_model.specs.Interrupt.{entry_tests, entry_counts, taken}
use Rattle.bundle_model.specs.Counts.{no_counts, plus}

-- The stack area's part of main memory, and main memory with that part replaced.
abbrev pub area : ℕ → ℕ → List ℕ → List ℕ
area lo hi m = take (hi - lo) (drop lo m)

abbrev pub with_area : ℕ → ℕ → List ℕ → List ℕ → List ℕ
with_area lo hi m part = take lo m ++ (part ++ drop hi m)

-- The words of a stack instruction moved. Of main memory a spill gets the stack area alone.
unfoldable pub stack_moved : Settings → Setup → State → StackControl → ℕ → Buffers → Buffers
stack_moved g x s c n b =
    let part = area x.lo x.hi b.main in
    buffers
    (with_area x.lo x.hi b.main (spilled b.cache x.lo part (spills c g.words s.specials.st s.specials.ss n)))
    b.local
    (filled part x.lo b.cache (fills c s.specials.st s.specials.ss n))

-- What slot one writes to the buffers.
unfoldable pub buffers_after : Settings → Setup → State → Effect → Buffers → Buffers
buffers_after g x s (effect.Alu a) b = b
buffers_after g x s (effect.Special d v) b = b
buffers_after g x s (effect.Product l h) b = b
buffers_after g x s (effect.Load k w r a) b = b
buffers_after g x s (effect.Store k w a v) b = stored b k (2 ^ store_scale w) a v
buffers_after g x s (effect.Stack c n m) b = stack_moved g x s c n b
buffers_after g x s (effect.Transfer d t) b = b
buffers_after g x s (effect.Trap n handler) b = b

-- What slot one writes to the state. `from` is the state at the start, onto which is written what came before.
unfoldable pub write_one : Settings → Buffers → State → Effect → State → State
write_one g b from (effect.Alu a) onto = write_alu a onto
write_one g b from (effect.Special d v) onto = with_special onto d v
write_one g b from (effect.Product l h) onto = with_begun onto l h
write_one g b from (effect.Load k w r a) onto = with_load onto (load.Waits r (loaded_value b k w a))
write_one g b from (effect.Store k w a v) onto = onto
write_one g b from (effect.Stack c n m) onto = with_stack onto (top_after c from.specials.st n) (spill_after c g.words from.specials.st from.specials.ss n)
write_one g b from (effect.Transfer d t) onto = onto
write_one g b from (effect.Trap n handler) onto = onto

-- The end of a bundle: its own transfer begins, its trap enters the handler, or a transfer that waits comes nearer.
abbrev pub onward : Effect → WaitingTransfer → ℕ → State → State
onward e waiting following onto =
    let other = nearer waiting following onto in
    on_effect other (λ c n m. other) (λ d t. begun d t following onto) (λ n handler. entered onto handler following) e

-- The order of the writes, of which a later one hides an earlier one: the load that waited, the product that falls due, slot one, slot
-- two, and a transfer that falls due.
unfoldable pub written : Settings → Buffers → State → Effect → AluEffect → ℕ → State
written g b s one two following = onward one s.transfer following (write_alu two (write_one g b s one (arrived (landed s))))

-- The state after a bundle: what is written, and the blocks held after slot one's lookups.
abbrev pub state_done : Settings → Setup → Buffers → State → Effect → AluEffect → ℕ → State
state_done g x b s one two following = with_held (written g b s one two following) (held_by x s one)

-- Cycles: 1, but 3 where a brnd is executed and 4 where it is another transfer without delay, or a trap.
abbrev pub undelayed_cycles : Transfer → ℕ
undelayed_cycles (Br target) = 3
undelayed_cycles (Call target) = 4
undelayed_cycles (Block target base) = 4
undelayed_cycles (Xret target base) = 4

abbrev pub cycles_of : Effect → ℕ
cycles_of = on_effect 1 (λ c n m. 1) (λ d t. cond d 1 (undelayed_cycles t)) (λ n handler. 4)

-- The words that a stack instruction spills and fills.
abbrev pub spilled_by : Settings → State → Effect → ℕ
spilled_by g s = on_effect 0 (λ c n m. length (spills c g.words s.specials.st s.specials.ss n)) (λ d t. 0) (λ n handler. 0)

abbrev pub filled_by : State → Effect → ℕ
filled_by s = on_effect 0 (λ c n m. length (fills c s.specials.st s.specials.ss n)) (λ d t. 0) (λ n handler. 0)

abbrev pub counts_of : Settings → Setup → State → Effect → Counts
counts_of g x s e =
    record { bundles = 1; cycles = cycles_of e; spilled = spilled_by g s e; filled = filled_by s e; misses = misses_by x s e; fetched = fetched_by x s e }

-- What a step gives: what it returns, the state, the counts, and the buffers.
pub record Outcome : Type 0 where
  pub answer : Returned
  pub state : State
  pub counts : Counts
  pub buffers : Buffers

abbrev pub outcome : Returned → State → Counts → Buffers → Outcome
outcome a s c b = record { answer = a; state = s; counts = c; buffers = b }

-- The outcome with counts from before.
abbrev pub counted : Counts → Outcome → Outcome
counted c o = outcome o.answer o.state (plus c o.counts) o.buffers

-- What a step gives beside the buffers.
pub record Stepped : Type 0 where
  pub answer : Answer Refusal
  pub state : State
  pub counts : Counts

-- What each answer of the function returns, and the outcome of what it gives back with the buffers that it leaves.
abbrev pub returned : Answer Refusal → Returned
returned Done = done
returned Ended = ended
returned (Refused r) = refused (number r)

abbrev pub full : Stepped → Buffers → Outcome
full r b = outcome (returned r.answer) r.state r.counts b

-- A refused bundle leaves all as it was, and counts nothing.
abbrev pub refused_or : Verdict → State → Buffers → Outcome → Outcome
refused_or (Ok u) s b other = other
refused_or (Err r) s b other = outcome (refused (number r)) s no_counts b

-- The bundle at the fetch address done or refused.
unfoldable pub bundle : Settings → Setup → State → Buffers → Outcome
bundle g x s b =
    let i = bundle_at x.code s.fetch in
    let one = slot_one (start_of x.table s) i in
    refused_or (verdict (bundle_tests g x s one)) s b
    (outcome done (state_done g x b s one (slot_two (start_of x.table s) i) (following_at x.code s.fetch)) (counts_of g x s one) (buffers_after g x s one b))

-- By cases: a bundle done, and every other answer.
abbrev pub if_done : {A : Type 0} → Returned → A → A → A
if_done done a other = a
if_done accepted a other = other
if_done ended a other = other
if_done spent a other = other
if_done (refused n) a other = other

-- A bundle as it is tried: a record that is due is taken with it, and its lookup counts with it. Refused, by whatever number, it leaves all as
-- before, what was taken too. Done, it is one bundle more of the replay.
abbrev pub finished : State → Buffers → Counts → Outcome → Outcome
finished s b before o =
    if_done o.answer (outcome done (with_done o.state) (plus before o.counts) o.buffers) (outcome o.answer s no_counts b)

unfoldable pub attempt : Settings → Setup → State → Buffers → Outcome
attempt g x s b = refused_or (verdict (entry_tests x s)) s b (finished s b (entry_counts x s) (bundle g x (taken x s) b))

-- A well-formed state: 11 does not describe it, neither its parts nor the blocks that it holds of this code.
unfoldable pub well_formed : Setup → State → Bool
well_formed x s = parts_ok s && held_ok x.method x.code s.further.held

-- What is judged before a bundle is tried: 1, 11, 15 and ended.
unfoldable pub readiness : Settings → Setup → State → Readiness
readiness g x s =
    cond (not (admits g)) (ready.Refused refusal.Limits)
    (cond (not (well_formed x s)) (ready.Refused refusal.IllFormed)
    (cond (not (replay_ok x.list x.table)) (ready.Refused refusal.Replay)
    (cond (has_ended s g.code) ready.Ended ready.Ready)))

-- Where a bundle is not to be tried, all is left as found.
abbrev pub ready_or : Readiness → State → Buffers → Outcome → Outcome
ready_or ready.Ready s b other = other
ready_or ready.Ended s b other = outcome ended s no_counts b
ready_or (ready.Refused r) s b other = outcome (refused (number r)) s no_counts b

-- A step: 1, 11, 15, ended, and then the bundle. An ended state stays as it is, and takes no record.
unfoldable pub step : Setup → State → Buffers → Outcome
step x s b =
    let g = lent x b in
    ready_or (readiness g x s) s b (attempt g x s b)
