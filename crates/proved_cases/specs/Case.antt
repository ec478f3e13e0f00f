-- Cases as data: what is given, and what a definition must make of it.
use Rattle.std.specs.Prelude.{List, map, ◌≡◌}

pub record Case (A B : Type 0) : Type 0 where
  pub given : A
  pub expected : B

-- The definition f gives in each case what is expected.
abbrev pub AllHold : {A B : Type 0} → (A → B) → List (Case A B) → Type 0
AllHold f cases = map (λ c. f c.given) cases ≡ map (λ c. c.expected) cases
