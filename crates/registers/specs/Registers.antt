-- "What the core has": r0 is always 0 and p0 always true.
use Rattle.std.specs.Prelude.{ℕ, cond, List, eqb, set}

-- A list with one place written, the first excepted: r0 and p0 are never written.
abbrev pub put_later : {A : Type 0} → List A → ℕ → A → List A
put_later l i v = cond (eqb i 0) l (set l i v)
