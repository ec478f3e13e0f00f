-- An interrupt and a trap (document 02, vi), as cases: each enters its handler, which reads sxo, and xretnd goes back.
use Rattle.std.specs.Prelude.{ℕ, ◌+◌, Bool, true, false, List, [], ◌∷◌, ◌++◌, refl, replicate}
use Rattle.answers.specs.Answer.{done}
use Rattle.replay.specs.Replay.{replay}
use Rattle.products.specs.declared.Products.TheVariants as products
use Rattle.settings.specs.Setup.{Setup, Buffers, buffers, replaying}
use Rattle.core_state.specs.State.{State, state, specials, further}
use Rattle.core_state.specs.declared.WaitingTransfer.TheVariants as transfer
use Rattle.core_state.specs.declared.WaitingLoad.TheVariants as load
use Rattle.bundle_model.specs.Bundle.{Outcome, outcome, step}
use Rattle.proved_cases.specs.Case.{Case, AllHold}
use Rattle.proved_cases.specs.Run.{within, ending_in, bytes_of, seen}

-- Three times nop, trap 3, nop; at 20 the handler, mfs r2 = sxo and xretnd; nop. The vectors 3 and 5 have it, and an interrupt of vector 5 is due once
-- two bundles are done.
abbrev pub machine : Setup
machine =
    replaying (bytes_of (2 ∷ 5 ∷ [])) (bytes_of (replicate 3 0 ++ 20 ∷ 0 ∷ 20 ∷ replicate 26 0))
    (within (bytes_of (0x00400000 ∷ 0x00400000 ∷ 0x00400000 ∷ 0x05800003 ∷ 0x00400000 ∷ 0x0244003A ∷ 0x06000001 ∷ 0x00400000 ∷ [])))

abbrev pub lent : Buffers
lent = buffers (ending_in []) [] (replicate 16 0)

-- What is told after a bundle: its cycles, fetch address and base, r2 and sxo, and the replay's handler and place.
pub record Told : Type 0 where
  pub cycles : ℕ
  pub fetch : ℕ
  pub base : ℕ
  pub r2 : ℕ
  pub sxo : ℕ
  pub active : Bool
  pub place : ℕ

abbrev pub told : ℕ → ℕ → ℕ → ℕ → ℕ → Bool → ℕ → Told
told cycles fetch base r2 sxo active place =
    record { cycles = cycles; fetch = fetch; base = base; r2 = r2; sxo = sxo; active = active; place = place }

-- The state after so many bundles. All that is not told is as in the fresh state, sxb too: the base that is left is 0.
abbrev pub after : ℕ → Told → State
after n t =
    state (0 ∷ 0 ∷ t.r2 ∷ replicate 29 0) (true ∷ replicate 7 false) (specials 0 0 1024 1024 0 32 0 t.sxo) t.fetch t.base transfer.Nothing
    load.Nothing (further products.Nothing [] (replay t.active t.place n))

-- At the start, and after each bundle: two times nop, the interrupt's handler, the third nop, the trap, and its handler. A trap and an xretnd take
-- 4 cycles, an interrupt none.
abbrev pub start : Told
start = told 0 0 0 0 0 false 0

abbrev pub bundles : List Told
bundles =
    told 1 4 0 0 0 false 0 ∷
    told 1 8 0 0 0 false 0 ∷
    told 1 24 20 8 8 true 1 ∷
    told 4 8 0 8 8 false 1 ∷
    told 1 12 0 8 8 false 1 ∷
    told 4 20 20 8 16 true 1 ∷
    told 1 24 20 16 16 true 1 ∷
    told 4 16 0 16 16 false 1 ∷
    []

-- Each bundle is a case: from the state that the one before leaves.
abbrev pub done_in : ℕ → State → Outcome
done_in cycles s = outcome done s (record { bundles = 1; cycles = cycles; spilled = 0; filled = 0; misses = 0; fetched = 0 }) lent

abbrev pub cases_from : ℕ → Told → List Told → List (Case State Outcome)
cases_from n t [] = []
cases_from n t (u ∷ us) = record { given = after n t; expected = done_in u.cycles (after (n + 1) u) } ∷ cases_from (n + 1) u us

abbrev pub left : State → Outcome
left s = step machine s lent

pub interrupt_and_trap : AllHold left (cases_from 0 start bundles)
unfolding seen
interrupt_and_trap = refl
