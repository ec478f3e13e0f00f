-- A multiply and three reads of sl (document 02, ii), as cases: the first two reads give the old word, and the third the product.
use Rattle.std.specs.Prelude.{ℕ, ◌+◌, ◌*◌, true, false, List, [], ◌∷◌, refl, replicate}
use Rattle.replay.specs.Replay.{replay}
use Rattle.products.specs.declared.Products.{Products}
use Rattle.products.specs.declared.Products.TheVariants.{Nothing, One}
use Rattle.products.specs.Products.{product}
use Rattle.core_state.specs.State.{State, state, specials, further}
use Rattle.core_state.specs.declared.WaitingTransfer.TheVariants as transfer
use Rattle.core_state.specs.declared.WaitingLoad.TheVariants as load
use Rattle.settings.specs.Setup.{buffers}
use Rattle.proved_cases.specs.Case.{Case, AllHold}
use Rattle.proved_cases.specs.Run.{ending_in, bytes_of, seen}

-- mul r1, r2 and three times mfs r3 = sl.
abbrev pub code : List ℕ
code = bytes_of (0x02001120 ∷ 0x02460032 ∷ 0x02460032 ∷ 0x02460032 ∷ [])

-- What is told of a state: r3, sl, sh and the products under way.
pub record Told : Type 0 where
  pub r3 : ℕ
  pub sl : ℕ
  pub sh : ℕ
  pub products : Products

abbrev pub told : ℕ → ℕ → ℕ → Products → Told
told r3 sl sh products = record { r3 = r3; sl = sl; sh = sh; products = products }

-- The state after so many bundles: r1 is 6, r2 is 7, and all that is not told is as in the fresh state.
abbrev pub after : ℕ → Told → State
after n t =
    state (0 ∷ 6 ∷ 7 ∷ t.r3 ∷ replicate 28 0) (true ∷ replicate 7 false) (specials t.sl t.sh 1024 1024 0 16 0 0) (4 * n) 0 transfer.Nothing
    load.Nothing (further t.products [] (replay false 0 n))

-- At the start, and after each bundle.
abbrev pub start : Told
start = told 0 1 2 Nothing

abbrev pub bundles : List Told
bundles =
    told 0 1 2 (One (product 2 42 0)) ∷
    told 1 1 2 (One (product 1 42 0)) ∷
    told 1 42 0 Nothing ∷
    told 42 42 0 Nothing ∷
    []

-- Each bundle is a case: from the state that the one before leaves.
abbrev pub cases_from : ℕ → Told → List Told → List (Case State State)
cases_from n t [] = []
cases_from n t (u ∷ us) = record { given = after n t; expected = after (n + 1) u } ∷ cases_from (n + 1) u us

abbrev pub left : State → State
left s = (seen code s (buffers (ending_in []) [] (replicate 16 0))).outcome.state

pub product_late : AllHold left (cases_from 0 start bundles)
unfolding seen
product_late = refl
