-- The documents' number of each refusal.
use Rattle.std.specs.Prelude.{ℕ, ◌-◌, List, [], ◌∷◌, ◌≡◌, refl, get_or}
use Rattle.std.proofs.Common.{sym, ap, ◌∙◌}
use Rattle.answers.specs.declared.Refusal.{Refusal}
use Rattle.answers.specs.declared.Refusal.TheVariants.{Limits, OutsideCode, Undecodable, TransferWaits, Misaligned, AccessOutside, Window, MoveOutside, BrokenRule, TrapOrXret, IllFormed, NoWords, NoBlock, Record, Replay, HandlerActive, NoHandler}

abbrev pub number : Refusal → ℕ
number Limits = 1
number OutsideCode = 2
number Undecodable = 3
number TransferWaits = 4
number Misaligned = 5
number AccessOutside = 6
number Window = 7
number MoveOutside = 8
number BrokenRule = 9
number TrapOrXret = 10
number IllFormed = 11
number NoWords = 12
number NoBlock = 13
number Record = 14
number Replay = 15
number HandlerActive = 16
number NoHandler = 17

-- Refusals with one number are one refusal: each stands at its number in this list.
refusals : List Refusal
refusals = Limits ∷ OutsideCode ∷ Undecodable ∷ TransferWaits ∷ Misaligned ∷ AccessOutside ∷ Window ∷ MoveOutside ∷ BrokenRule ∷ TrapOrXret ∷ IllFormed ∷ NoWords ∷ NoBlock ∷ Record ∷ Replay ∷ HandlerActive ∷ NoHandler ∷ []

at_number : ℕ → Refusal
at_number n = get_or refusals (n - 1) Limits

by_number : (r : Refusal) → at_number (number r) ≡ r
unfolding at_number refusals
by_number Limits = refl
by_number OutsideCode = refl
by_number Undecodable = refl
by_number TransferWaits = refl
by_number Misaligned = refl
by_number AccessOutside = refl
by_number Window = refl
by_number MoveOutside = refl
by_number BrokenRule = refl
by_number TrapOrXret = refl
by_number IllFormed = refl
by_number NoWords = refl
by_number NoBlock = refl
by_number Record = refl
by_number Replay = refl
by_number HandlerActive = refl
by_number NoHandler = refl

pub number_injective : (r s : Refusal) → number r ≡ number s → r ≡ s
number_injective r s e = sym (by_number r) ∙ ap at_number e ∙ by_number s
