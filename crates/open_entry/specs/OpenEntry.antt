-- The opening for C (requests (iv) and (v) of document 02): the fresh state goes out as its record.
use Rattle.std.specs.Prelude.{ℕ, not, cond, List, ltb, length, replicate}
use Rattle.answers.specs.Answer.{accepted}
use Rattle.settings.specs.Settings.{admits}
use Rattle.settings.specs.Setup.{Setup, buffers, settings}
use Rattle.core_state.specs.State.{fresh}
use Rattle.bundle_model.specs.Counts.{no_counts}
use Rattle.bundle_model.specs.Bundle.{outcome}
use Rattle.state.specs.Open.{entry_ok}
use Rattle.record_model.specs.Record.{longest}
use Rattle.resume_model.specs.Resume.{Resumed, as_found, handed_out}

-- 1, then 14 for an output buffer that is shorter than the longest record with that W, then 2, each with every buffer as found; and else the
-- record of the fresh state over an empty cache, counts 0.
unfoldable pub opened_record : Setup → ℕ → ℕ → List ℕ → List ℕ → List ℕ → Resumed
opened_record x w entry main local out =
    cond (not (admits (settings x (length main) (length local) w))) (as_found 1 main local out)
    (cond (ltb (length out) (longest w)) (as_found 14 main local out)
    (cond (not (entry_ok (length x.code) entry)) (as_found 2 main local out)
    (handed_out (outcome accepted (fresh (length x.code) x.hi entry) no_counts (buffers main local (replicate w 0))) out)))
