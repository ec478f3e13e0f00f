-- What the check for C takes and gives: the marking as bits of numbers, and its answer as numbers.
use Rattle.std.specs.Prelude.{ℕ, Bool, true, false, not, cond, ◌&&◌, ◌||◌, List, ◌≡◌, eqb, get_or}
use Rattle.std.proofs.lemmas.Bool.{not-true}
use Rattle.isa.specs.declared.Bundle.{Bundle}
use Rattle.fetch.specs.Fetch.{bundle_at}
use Rattle.core_state.specs.State.{predicates_of}
use Rattle.marking.specs.declared.Marking.{Marking}
use Rattle.marking_rules.specs.declared.Rule.{Rule}
use Rattle.marking_rules.specs.declared.Rule.TheVariants as rule
use Rattle.marking_rules.specs.Rules.{breaks}
use Rattle.single_path.specs.Check.{CheckAnswer, accepted as passed, refused as failed}
use Rattle.check_entry.specs.declared.CheckedCode.{CheckedCode}

-- The marking of three numbers: bit n of the first marks rn private, of the second pn, and bits 0 to 4 of the third sl, sh, main memory, local
-- memory and the stack. Other bits have no meaning.
unfoldable pub marking_of : ℕ → ℕ → ℕ → Marking
marking_of registers predicates others =
    let o = predicates_of 8 others in
    record { registers = predicates_of 32 registers; predicates = predicates_of 8 predicates; sl = get_or o 0 false; sh = get_or o 1 false; main = get_or o 2 false; local = get_or o 3 false; stack = get_or o 4 false }

-- The check's answer as two numbers; of an accepted code both are 0.
unfoldable pub check_number : CheckAnswer → ℕ
check_number passed = 0
check_number (failed n a) = n

unfoldable pub check_address : CheckAnswer → ℕ
check_address passed = 0
check_address (failed n a) = a

-- A rule's letter, by its code as a character.
unfoldable pub letter_of : Rule → ℕ
letter_of rule.A = 65
letter_of rule.B = 66
letter_of rule.C = 67
letter_of rule.D = 68
letter_of rule.E = 69

-- Whether a number is the letter of a rule that a bundle breaks.
abbrev is_broken : Marking → Bundle → ℕ → Rule → Bool
is_broken m b n r = eqb n (letter_of r) && breaks m b r

unfoldable pub broken_by : Marking → Bundle → ℕ → Bool
broken_by m b n = is_broken m b n rule.A || (is_broken m b n rule.B || (is_broken m b n rule.C || (is_broken m b n rule.D || is_broken m b n rule.E)))

-- What is told of the check: the two numbers, and a letter that the bundle breaks where the answer is 9, and else 0.
unfoldable pub letter_told : Marking → List ℕ → CheckedCode → Bool
letter_told m code t = cond (eqb t.answer 9) (broken_by m (bundle_at code t.address) t.rule) (eqb t.rule 0)

pub record Told (m : Marking) (code : List ℕ) (c : CheckAnswer) (t : CheckedCode) : Type 0 where
  pub answer : t.answer ≡ check_number c
  pub address : t.address ≡ check_address c
  pub letter : letter_told m code t ≡ true

-- The letter of a broken rule is one that is broken.
pub letter_broken_lem : (m : Marking) (b : Bundle) (r : Rule) → breaks m b r ≡ true → broken_by m b (letter_of r) ≡ true
unfolding broken_by letter_of
letter_broken_lem m b rule.A e = rw e
letter_broken_lem m b rule.B e = rw e
letter_broken_lem m b rule.C e = rw e
letter_broken_lem m b rule.D e = rw e
letter_broken_lem m b rule.E e = rw e

-- Of a refusal other than 9 no letter is told.
pub no_letter : (m : Marking) (code : List ℕ) (n a : ℕ) → not (eqb n 9) ≡ true → letter_told m code (record { answer = n; address = a; rule = 0 }) ≡ true
unfolding letter_told
no_letter m code n a e = rw (not-true (eqb n 9) e)
