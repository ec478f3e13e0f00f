use Prim.Native.Nat.{◌≤◌, ◌<◌}
use mathlib.Core.Path.{◌≡◌}
use lib.ListN.{drop}
use Rattle.assembly.specs.Forms.{forms, sizes, mnemonic_from}
use Rattle.assembly.proofs.table.mnemonic_at.Given as goal

abbrev pub invariant-loop-form : goal.invariant-loop-form
invariant-loop-form l = (l.form ≤ 27) × (l.function < 4294967296) × (mnemonic_from l.form (drop l.form (sizes forms)) l.function ≡ mnemonic_from 0 (sizes forms) l.row)
