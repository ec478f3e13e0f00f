use Rattle.answers.specs.Refusal.{number}
use Rattle.check_entry.specs.CheckEntry.{check_number, check_address, letter_told, broken_by, letter_broken_lem, no_letter}
use Rattle.single_path.specs.Check.{letter_broken}
use Rattle.fetch.specs.Fetch.{bundle_at}
use Prim.Native.Nat.{◌-◌}
use mathlib.Core.Path.{refl, sym, ap, ◌∙◌}
use borrow.Author.Rules.{rules}
use Rattle.check_entry.proofs.numbers.told.Goals as goal

pub returns-in-Accepted : goal.returns-in-Accepted
unfolding check_number check_address letter_told
returns-in-Accepted c = λ m code h. rw c.in-Accepted.is (record { answer = refl; address = refl; letter = refl })

pub returns-in-Refused : goal.returns-in-Refused
unfolding check_number check_address letter_told
returns-in-Refused c = λ m code h. let h2 = ap (letter_broken m code) (sym c.in-Refused.is) ∙ h in rw (c.in-Refused.is, c.number.ensures) (record { answer = refl; address = refl; letter = no_letter m code (number c.in-Refused.refusal) c.in-Refused.address h2 })

pub returns-in-Broken : goal.returns-in-Broken
unfolding check_number check_address letter_told
returns-in-Broken c = λ m code h.
    let h2 = ap (letter_broken m code) (sym c.in-Broken.is) ∙ h in
    rw (c.in-Broken.is, c.number-in-Broken.ensures)
    (record { answer = refl; address = refl; letter = ap (broken_by m (bundle_at code _)) c.letter_of.ensures ∙ letter_broken_lem m (bundle_at code _) _ h2 })
