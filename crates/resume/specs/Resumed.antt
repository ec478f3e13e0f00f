-- What the functions that go on from a record give back.
use Rattle.std.specs.Prelude.{not, cond, List, ℕ, Ok, Err, Bool}
use Rattle.answers.specs.Test.{Verdict}
use Rattle.answers.specs.declared.Refusal.TheVariants as refusal
use Rattle.answers.specs.Refusal.{number}
use Rattle.answers.specs.Answer.{Returned, done, ended, spent, refused}
use Rattle.settings.specs.Setup.{Setup}
use Rattle.replay.specs.Replay.{replay_ok}
use Rattle.core_state.specs.State.{State}
use Rattle.bundle_model.specs.Bundle.{well_formed}
use Rattle.resume_model.specs.Resume.{Resumed, resumed_of}
use Rattle.resume.specs.declared.Reply.{Reply}
use Rattle.resume.specs.declared.Reply.TheVariants as reply
use Rattle.resume.specs.declared.Resumed as struct

-- What each answer returns.
abbrev pub returned : Reply → Returned
returned reply.Done = done
returned reply.Ended = ended
returned reply.Spent = spent
returned (reply.Refused r) = refused (number r)

-- Why a record that has the form of one is turned away: 14 for a state that 11 describes, then 15.
abbrev pub judged_as : Bool → Bool → Verdict
judged_as formed replays = cond (not formed) (Err refusal.Record) (cond (not replays) (Err refusal.Replay) (Ok tt))

unfoldable pub judged_by : Setup → State → Verdict
judged_by x s = judged_as (well_formed x s) (replay_ok x.list x.table)

-- With the memories and the output buffer that are left.
abbrev pub resumed_with : struct.Resumed → List ℕ → List ℕ → List ℕ → Resumed
resumed_with r main local out = resumed_of (returned r.answer) r.counts r.written main local out
