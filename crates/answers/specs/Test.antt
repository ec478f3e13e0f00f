-- Refusals are tests in the order in which they are judged: the first that applies is told.
use Rattle.std.specs.Prelude.{Bool, cond, List, [], ◌∷◌, Result, Ok, Err, ⊤}
use Rattle.answers.specs.declared.Refusal.{Refusal}

-- Whether something may be done, or why it is refused.
abbrev pub Verdict : Type 0
Verdict = Result ⊤ Refusal

-- A refusal and whether it applies.
pub record Test : Type 0 where
  pub refusal : Refusal
  pub applies : Bool

abbrev pub test : Refusal → Bool → Test
test r b = record { refusal = r; applies = b }

-- The first test that applies is told.
unfoldable pub verdict : List Test → Verdict
verdict [] = Ok tt
verdict (t ∷ ts) = cond t.applies (Err t.refusal) (verdict ts)
