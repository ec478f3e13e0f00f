-- Steps and runs from a record (request (iv) of document 02): the state is handed in as bytes, and handed back as bytes over an output buffer.
use Rattle.std.specs.Prelude.{ℕ, not, cond, ◌||◌, List, eqb, ltb, length}
use Rattle.answers.specs.Answer.{Returned, done, refused}
use Rattle.settings.specs.Setup.{Setup, Buffers, buffers, settings}
use Rattle.settings.specs.Settings.{admits}
use Rattle.sections.specs.Words.{over}
use Rattle.replay.specs.Replay.{replay_ok}
use Rattle.core_state.specs.State.{State}
use Rattle.bundle_model.specs.declared.Counts.{Counts}
use Rattle.bundle_model.specs.Counts.{no_counts}
use Rattle.bundle_model.specs.Bundle.{Outcome, step}
use Rattle.run_model.specs.Run.{run}
use Rattle.record_model.specs.Record.{Box, box, record_of, read_record, accepts, longest}

-- What is given back: the answer, the counts of this call, how many bytes of a record were written, the memories and the output buffer.
pub record Resumed : Type 0 where
  pub answer : Returned
  pub counts : Counts
  pub written : ℕ
  pub main : List ℕ
  pub local : List ℕ
  pub out : List ℕ

abbrev pub resumed_of : Returned → Counts → ℕ → List ℕ → List ℕ → List ℕ → Resumed
resumed_of answer counts written main local out = record { answer = answer; counts = counts; written = written; main = main; local = local; out = out }

-- Turned away: every buffer as found, no record written.
abbrev pub as_found : ℕ → List ℕ → List ℕ → List ℕ → Resumed
as_found n main local out = resumed_of (refused n) no_counts 0 main local out

-- The box that an outcome leaves, and what is given back of the outcome: its record over the output buffer, which past it keeps its rest.
abbrev pub box_of : Outcome → Box
box_of o = box o.state o.buffers.cache o.counts

abbrev pub handed_out : Outcome → List ℕ → Resumed
handed_out o out = resumed_of o.answer o.counts (length (record_of (box_of o))) o.buffers.main o.buffers.local (over out (record_of (box_of o)))

-- What is done from a record of W cache words: 1, then 14, for an output buffer that is shorter than the longest record with that W or a record
-- that is not accepted, then 15, which no more than these two writes a record; and else from the state and cache words that the record is read
-- as. Its counts are not continued.
unfoldable pub from_record : (State → Buffers → Outcome) → Setup → ℕ → List ℕ → List ℕ → List ℕ → List ℕ → Resumed
from_record go x w bytes main local out =
    cond (not (admits (settings x (length main) (length local) w))) (as_found 1 main local out)
    (cond (ltb (length out) (longest w) || not (accepts x w bytes)) (as_found 14 main local out)
    (cond (not (replay_ok x.list x.table)) (as_found 15 main local out)
    (let box = read_record bytes in handed_out (go box.state (buffers main local box.cache)) out)))

-- One step, and a run with a budget.
abbrev pub restepped : Setup → ℕ → List ℕ → List ℕ → List ℕ → List ℕ → Resumed
restepped x = from_record (step x) x

abbrev pub resumed : Setup → ℕ → ℕ → List ℕ → List ℕ → List ℕ → List ℕ → Resumed
resumed x budget = from_record (run x budget) x

-- What a step answers where a run with a budget of 1 answers so: done if it has done its bundle.
unfoldable pub as_step : Returned → ℕ → Returned
as_step a bundles = cond (eqb bundles 1) done a
