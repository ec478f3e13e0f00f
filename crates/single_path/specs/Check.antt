-- The check: the bundles from 0 to the code's end, one after the other, against the marking rules.
use Rattle.std.specs.Prelude.{ℕ, zero, suc, ◌+◌, ◌/◌, ◌<◌, Bool, true, not, cond, ◌&&◌, List, ◌≡◌, leb, eqb, length, Ok, Err}
use Rattle.answers.specs.Refusal.{number}
use Rattle.answers.specs.Test.{Verdict, verdict}
use Rattle.settings.specs.Setup.{Setup, settings}
use Rattle.settings.specs.Settings.{admits}
use Rattle.fetch.specs.Fetch.{bundle_at, following_at, fetch_tests}
use Rattle.marking.specs.declared.Marking.{Marking}
use Rattle.marking.specs.Marking.{marking_ok}
use Rattle.marking_rules.specs.Rules.{breaks, keeps}
use Rattle.single_path.specs.declared.Checked.{Checked}
use Rattle.single_path.specs.declared.Checked.TheVariants as enum

-- The walked addresses, all below the code length: 0, and with each one the address that follows the bundle there.
pub data Walked (code : List ℕ) : ℕ → Type 0 where
  first : 0 < length code → Walked code 0
  later : {a b : ℕ} → Walked code a → b ≡ following_at code a → b < length code → Walked code b

-- What the check returns: accepted, or a refusal's number and the bundle's address. Of refusal 9 the rule's letter is left free.
pub data CheckAnswer : Type 0 where
  accepted : CheckAnswer
  refused : ℕ → ℕ → CheckAnswer

-- What each answer of the function returns, but for its letter; and that refusal 9 comes with a letter, which the bundle breaks.
abbrev pub returned : Checked → CheckAnswer
returned enum.Accepted = accepted
returned (enum.Refused r a) = refused (number r) a
returned (enum.Broken a r) = refused 9 a

abbrev pub letter_broken : Marking → List ℕ → Checked → Bool
letter_broken m code enum.Accepted = true
letter_broken m code (enum.Refused r a) = not (eqb (number r) 9)
letter_broken m code (enum.Broken a r) = breaks m (bundle_at code a) r

-- A bundle that cannot be read is refused at its address.
abbrev pub refused_at : Verdict → ℕ → CheckAnswer → CheckAnswer
refused_at (Ok u) a other = other
refused_at (Err r) a other = refused (number r) a

-- The bundles from address a on, `most` at most: the first that fails gives 2, 3 or 9, in that order.
unfoldable pub walk_from : Marking → List ℕ → ℕ → ℕ → CheckAnswer
walk_from m code zero a = accepted
walk_from m code (suc most) a =
    let rest = walk_from m code most (following_at code a) in
    cond (leb (length code) a) accepted
    (refused_at (verdict (fetch_tests code a)) a
    (cond (keeps m (bundle_at code a)) rest (refused 9 a)))

-- Whether refusal 1 lets the settings and the marking pass. The lengths of what the check does not read are numbers.
abbrev pub passes : Setup → ℕ → ℕ → ℕ → Marking → Bool
passes x main local words m = admits (settings x main local words) && marking_ok m

-- The check's answer: 1 first. Code of n words has at most n bundles.
unfoldable pub checked : Setup → ℕ → ℕ → ℕ → Marking → CheckAnswer
checked x main local words m = cond (passes x main local words m) (walk_from m x.code (length x.code / 4 + 1) 0) (refused 1 0)
