-- Evidence for replays: a run in which an interrupt is taken; a table that is refused; and why the replay has to be public. ReplayEvidence of
-- proofs/ has the theorem at work on them.
use Rattle.std.specs.Prelude.{ℕ, Bool, true, false, List, [], ◌∷◌, ◌++◌, map, ◌≡◌, refl, get_or, replicate}
use Rattle.std.proofs.lemmas.Bool.{false≢true}
use Rattle.std.proofs.Common.{ap, arith}
use Rattle.answers.specs.Answer.{Returned, ended, refused}
use Rattle.replay.specs.declared.Replay.{Replay}
use Rattle.replay.specs.Replay.{replay}
use Rattle.settings.specs.Setup.{Setup, replaying}
use Rattle.core_state.specs.State.{State, with_replay}
use Rattle.core_state.specs.declared.WaitingLoad.TheVariants as load
use Rattle.bundle_model.specs.Counts.{no_counts}
use Rattle.run_model.specs.Run.{run, Tried, tries}
use Rattle.single_path.specs.Check.{accepted, checked}
use Rattle.even_pace.specs.Terms.{Agree}
use Rattle.even_pace.specs.Examples.{bytes_of, within, lent, marking, begin, check_under, tried, answered}

-- A list of one record, of vector 5, and a table with its handler alone.
abbrev pub interrupt : ℕ → ℕ → List ℕ → Setup
interrupt number handler code = replaying (bytes_of (number ∷ 5 ∷ [])) (bytes_of (replicate 5 0 ++ handler ∷ replicate 26 0)) (within code)

-- A state begins with nothing replayed, at address 0, with a value in r1 and one in p1.
abbrev pub from : ℕ → Bool → State
from v p = begin v p load.Nothing

-- What a run tries and answers.
abbrev pub tries_of : Setup → ℕ → State → List Tried
tries_of x k s = tries x k s lent no_counts

abbrev pub answer_of : Setup → ℕ → State → Returned
answer_of x k s = (run x k s lent).answer

-- add r1 = r1, r1; add r2 = r2 + 1; brnd 3, to the end; and at 12 a handler: (p1) lwl r1 = [r0]; xretnd. The interrupt is due once one bundle is done.
abbrev pub program_i : List ℕ
program_i = bytes_of (0x02021080 ∷ 0x00042001 ∷ 0x04800003 ∷ 0x0A820080 ∷ 0x06000001 ∷ [])

abbrev pub machine_i : Setup
machine_i = interrupt 1 12 program_i

pub accepted_i : checked machine_i 32 4 4 marking ≡ accepted
unfolding check_under
accepted_i = refl

-- The second bundle is tried at the handler, in both runs; after the handler the interrupted one follows.
abbrev pub addresses : List Tried → List ℕ
addresses = map (λ (t : Tried). t.fetch)

pub addresses_i : (addresses (tries_of machine_i 6 (from 7 true)) ≡ 0 ∷ 12 ∷ 16 ∷ 4 ∷ 8 ∷ []) × (addresses (tries_of machine_i 6 (from 9 false)) ≡ 0 ∷ 12 ∷ 16 ∷ 4 ∷ 8 ∷ [])
unfolding tried
addresses_i = (refl, refl)

-- Both end, with the record taken, and r1 is unlike.
pub ends_i : (answer_of machine_i 6 (from 7 true) ≡ ended) × (answer_of machine_i 6 (from 9 false) ≡ ended)
unfolding answered
ends_i = (refl, refl)

pub replay_i : ((run machine_i 6 (from 7 true) lent).state.further.replay ≡ replay false 1 5) × ((run machine_i 6 (from 9 false) lent).state.further.replay ≡ replay false 1 5)
unfolding answered
replay_i = (refl, refl)

pub unlike_i : (get_or (run machine_i 6 (from 7 true) lent).state.registers 1 0 ≡ 0) × (get_or (run machine_i 6 (from 9 false) lent).state.registers 1 0 ≡ 18)
unfolding answered
unlike_i = (refl, refl)

-- A table of 124 bytes: no bundle is tried, and both runs answer 15.
abbrev pub machine_t : Setup
machine_t = replaying [] (replicate 124 0) (within program_i)

pub answers_t : (v : ℕ) (p : Bool) → (tries_of machine_t 6 (from v p) ≡ []) × (answer_of machine_t 6 (from v p) ≡ refused 15)
unfolding answered
answers_t v p = (refl, refl)

-- States that differ in how far the replay is may not agree. Where the record is due, the first bundle is tried at 12; where too few bundles are
-- done, where the record is taken, and where a handler is active, it is tried at 0.
abbrev pub replay_at : Replay → State
replay_at r = with_replay (from 0 true) r

pub unlike_replays : (addresses (tries_of machine_i 1 (replay_at (replay false 0 1))) ≡ 12 ∷ []) × (addresses (tries_of machine_i 1 (replay_at (replay false 0 0))) ≡ 0 ∷ [])
    × (addresses (tries_of machine_i 1 (replay_at (replay false 1 1))) ≡ 0 ∷ []) × (addresses (tries_of machine_i 1 (replay_at (replay true 0 1))) ≡ 0 ∷ [])
unfolding tried
unlike_replays = (refl, refl, refl, refl)

pub done_unlike : Agree marking machine_i (replay_at (replay false 0 1)) lent (replay_at (replay false 0 0)) lent → ⊥
done_unlike a = absurd (omega (arith, ap (λ (r : Replay). r.done) a.state.further.replay))

pub place_unlike : Agree marking machine_i (replay_at (replay false 0 1)) lent (replay_at (replay false 1 1)) lent → ⊥
place_unlike a = absurd (omega (arith, ap (λ (r : Replay). r.place) a.state.further.replay))

pub active_unlike : Agree marking machine_i (replay_at (replay false 0 1)) lent (replay_at (replay true 0 1)) lent → ⊥
active_unlike a = false≢true (ap (λ (r : Replay). r.active) a.state.further.replay)
