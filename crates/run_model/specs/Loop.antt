-- Bundles one after the other, as a loop does them that judges only whether the state has ended: what is judged before a bundle is judged
-- once, and holds from then on.
use Rattle.std.specs.Prelude.{ℕ, zero, suc, cond, length}
use Rattle.answers.specs.Answer.{done, ended, spent}
use Rattle.settings.specs.Setup.{Setup, Buffers, lent}
use Rattle.core_state.specs.State.{State, ended as has_ended}
use Rattle.bundle_model.specs.Counts.{no_counts}
use Rattle.bundle_model.specs.Bundle.{Outcome, outcome, counted, attempt, readiness, ready_or}
use Rattle.bundle_model.specs.Bundle.{if_done}

-- Up to k bundles from a state on, until one is refused or the state has ended; done where it is neither.
unfoldable pub goes_on : Setup → ℕ → State → Buffers → Outcome
goes_on x zero s b = outcome done s no_counts b
goes_on x (suc k) s b =
    let o = attempt (lent x b) x s b in
    let rest = goes_on x k o.state o.buffers in
    cond (has_ended s (length x.code)) (outcome ended s no_counts b) (if_done o.answer (counted o.counts rest) o)

-- The same, where the settings and the first state are judged before.
abbrev pub advanced : Setup → ℕ → State → Buffers → Outcome
advanced x k s b = ready_or (readiness (lent x b) x s) s b (goes_on x k s b)

-- A run whose bundles are all done is spent, unless the state has ended.
abbrev pub ending : Setup → Outcome → Outcome
ending x o = if_done o.answer (outcome (cond (has_ended o.state (length x.code)) ended spent) o.state o.counts o.buffers) o
