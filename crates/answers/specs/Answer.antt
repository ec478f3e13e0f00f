-- What an operation returns, in document 01's words. A contract turns the answer of its function, which is an enum, into this.
use Rattle.std.specs.Prelude.{ℕ}

-- A state opened; a bundle done; a run's ended and spent; a refusal with its number in the table.
pub data Returned : Type 0 where
  accepted : Returned
  done : Returned
  ended : Returned
  spent : Returned
  refused : ℕ → Returned
