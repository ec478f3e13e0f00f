-- Reading a bundle: what a first and a second word encode together.
use Rattle.std.specs.Prelude.{ℕ, Bool, cond, Option, None, Some}
use Rattle.isa.specs.Format.{◌⋯◌, bits, reading}
use Rattle.isa.specs.Formats.{is_set, predicate_operand, long_formats, applied, alu_formats, first_formats}
use Rattle.isa.specs.declared.PredicateOperand.{PredicateOperand}
use Rattle.isa.specs.declared.AluOperation.{AluOperation}
use Rattle.isa.specs.declared.Operation.{Operation}
use Rattle.isa.specs.declared.Operation.TheVariants.{Alu}
use Rattle.isa.specs.declared.Bundle.{Bundle}
use Rattle.isa.specs.declared.Bundle.TheVariants.{Undecodable, One, Two, Long}

-- A bundle has two words if bit 31 of its first is set.
abbrev pub is_two_words : ℕ → Bool
is_two_words first = is_set (bits (31 ⋯ 31) first)

unfoldable pub bundle_words : ℕ → ℕ
bundle_words first = cond (is_two_words first) 2 1

-- The guard stands in bits 30 to 27.
unfoldable pub guard_of : ℕ → PredicateOperand
guard_of w = predicate_operand (bits (30 ⋯ 27) w)

-- What slot one holds: an operation that either slot may hold, or else one that only it may.
abbrev pub either : Option AluOperation → Option Operation → Option Operation
either None other = other
either (Some a) other = Some (Alu a)

unfoldable pub slot_one : ℕ → Option Operation
slot_one w = either (reading alu_formats w) (reading first_formats w)

-- What slot two holds: a word with bit 31 clear, in one of six formats.
unfoldable pub slot_two : ℕ → Option AluOperation
slot_two w = cond (is_two_words w) None (reading alu_formats w)

-- A bundle of one word.
abbrev pub one : PredicateOperand → Option Operation → Bundle
one g None = Undecodable
one g (Some o) = One (record { guard = g; operation = o })

-- A bundle of two instructions: undecodable if either is.
abbrev pub two : PredicateOperand → Option Operation → PredicateOperand → Option AluOperation → Bundle
two g None h p = Undecodable
two g (Some o) h None = Undecodable
two g (Some o) h (Some a) = Two (record { guard = g; operation = o }) (record { guard = h; operation = a })

-- A long immediate, or else the other reading.
abbrev pub long : PredicateOperand → Option AluOperation → Bundle → Bundle
long g None other = other
long g (Some a) other = Long (record { guard = g; operation = Alu a })

unfoldable pub decode : ℕ → ℕ → Bundle
decode first second =
    cond (is_two_words first)
    (long (guard_of first) (applied (reading long_formats first) second)
    (two (guard_of first) (slot_one first) (guard_of second) (slot_two second)))
    (one (guard_of first) (slot_one first))
