-- What is made of the forms that a part of `make` is for.
use Rattle.std.specs.Prelude.{ℕ, cond, ◌&&◌, leb, ltb, Option, None}
use Rattle.isa.specs.declared.Operation.{Operation}

-- What is made of the forms from first to before last, and nothing of the others.
abbrev pub in_forms : ℕ → ℕ → ℕ → Option Operation → Option Operation
in_forms first last k o = cond (leb first k && ltb k last) o None
