-- The opening: the one way to a fresh state (request (v) of document 02). 1 is judged before 2. The lent cache words become zero too; a
-- refused opening leaves them as found, and hands back a state that no run takes.
use Rattle.answers.specs.Refusal.{number}
use Rattle.answers.specs.Test.{Verdict}
use Rattle.std.specs.Prelude.{ℕ, Bool, not, cond, ◌&&◌, List, ltb, length, replicate, Ok, Err}
use Rattle.word.specs.Word.{is_multiple_of4}
use Rattle.answers.specs.Answer.{Returned, accepted, refused}
use Rattle.settings.specs.Settings.{admits}
use Rattle.settings.specs.Setup.{Setup, Buffers, lent}
use Rattle.core_state.specs.State.{State, fresh, blank}
use Rattle.state.specs.Whole.{state_of}
use Rattle.state.specs.declared.Opened.{Opened}

-- What an opening returns, with the state and the cache that it leaves; and what each answer of the function returns.
pub record Open : Type 0 where
  pub answer : Returned
  pub state : State
  pub cache : List ℕ

abbrev pub open_of : Returned → State → List ℕ → Open
open_of a s c = record { answer = a; state = s; cache = c }

abbrev pub returned : Verdict → Returned
returned (Ok u) = accepted
returned (Err r) = refused (number r)

abbrev pub open_with : Opened → List ℕ → Open
open_with o c = open_of (returned o.answer) (state_of o.state) c

-- An entry is a multiple of 4 below the code's length: where this is false, refusal 2.
abbrev pub entry_ok : ℕ → ℕ → Bool
entry_ok code_length entry = is_multiple_of4 entry && ltb entry code_length

unfoldable pub opening : Setup → Buffers → ℕ → Open
opening x b entry =
    cond (not (admits (lent x b))) (open_of (refused 1) blank b.cache)
    (cond (not (entry_ok (length x.code) entry)) (open_of (refused 2) blank b.cache)
    (open_of accepted (fresh (length x.code) x.hi entry) (replicate (length b.cache) 0)))
