-- What waits in a case, among the kept numbers.
use Rattle.std.specs.Prelude.{ℕ, ◌+◌, Bool, List}
use Rattle.case_kept.specs.Indices.{TRANSFER, TARGET, LOAD, LOADED, ACTIVE, PLACE, DONE}
use Rattle.case_kept.specs.Kept.{put, flag}

-- A waiting transfer: its kind, and the numbers of its line in their order. A line of two numbers has 0 for the third.
abbrev pub with_transfer : List ℕ → ℕ → ℕ → ℕ → ℕ → List ℕ
with_transfer kept kind a b c = put (put (put (put kept TRANSFER kind) TARGET a) (TARGET + 1) b) (TARGET + 2) c

-- A waiting load: that there is one, its register and its value.
abbrev pub with_load : List ℕ → ℕ → ℕ → List ℕ
with_load kept register value = put (put (put kept LOAD 1) LOADED register) (LOADED + 1) value

-- The three numbers of a product under way.
abbrev pub with_product : List ℕ → ℕ → ℕ → ℕ → ℕ → List ℕ
with_product kept first wait low high = put (put (put kept first wait) (first + 1) low) (first + 2) high

-- What a state has of a replay: whether a handler is active, the list place, and the bundles done.
abbrev pub with_replay : List ℕ → Bool → ℕ → ℕ → List ℕ
with_replay kept active place done = put (put (put kept ACTIVE (flag active)) PLACE place) DONE done
