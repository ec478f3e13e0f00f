-- Writing a bundle: the words of its instructions, to be read beside `Decode` of decoder.
use Rattle.std.specs.Prelude.{ℕ, Option, None, Some, Ok, Err, Result}
use Rattle.encoder.specs.declared.CodeWords.{CodeWords}
use Rattle.answers.specs.declared.Refusal.{Refusal}
use Rattle.answers.specs.declared.Refusal.TheVariants as refusal
use Rattle.isa.specs.Format.{◌⋯◌, ◌≔◌}
use Rattle.isa.specs.Formats.{long_formats, alu_formats, first_formats}
use Rattle.fields.specs.Place.{put, writing}
use Rattle.fields.specs.Fields.{operand_number, long_fields, alu_fields, first_fields}
use Rattle.isa.specs.declared.PredicateOperand.{PredicateOperand}
use Rattle.isa.specs.declared.Op2.{Op2}
use Rattle.isa.specs.declared.Op2.TheVariants as op2
use Rattle.isa.specs.declared.AluOperation.{AluOperation}
use Rattle.isa.specs.declared.AluOperation.TheVariants.{Arithmetic, Compare, Predicate, BitCopy}
use Rattle.isa.specs.declared.Operation.{Operation}
use Rattle.isa.specs.declared.Operation.TheVariants.{Alu, Multiply, Mts, Mfs, Load, Store, StackControl, Transfer, Trap, Xret}
use Rattle.isa.specs.declared.Instruction.{Instruction}
use Rattle.isa.specs.declared.Bundle.{Bundle}
use Rattle.isa.specs.declared.Bundle.TheVariants as bundle
use Rattle.encoder.specs.declared.CodeWords.TheVariants.{One, Two}

-- The operation as one that either slot may hold, if it is one.
abbrev pub either_slot : Operation → Option AluOperation
either_slot (Alu a) = Some a
either_slot (Multiply f rs1 rs2) = None
either_slot (Mts s rs1) = None
either_slot (Mfs rd s) = None
either_slot (Load k w rd ra n) = None
either_slot (Store k w ra rs n) = None
either_slot (StackControl o) = None
either_slot (Transfer d t) = None
either_slot (Trap n) = None
either_slot (Xret d) = None

-- The constant of a long immediate, which is its second word.
abbrev pub constant_in : Op2 → Option ℕ
constant_in (op2.Long n) = Some n
constant_in (op2.Immediate n) = None
constant_in (op2.Register r) = None

abbrev pub constant_of : Option AluOperation → Option ℕ
constant_of None = None
constant_of (Some (Arithmetic f rd rs1 o)) = constant_in o
constant_of (Some (Compare f pd rs1 o)) = None
constant_of (Some (Predicate f pd p q)) = None
constant_of (Some (BitCopy rd rs1 n p)) = None

-- The guard stands in bits 30 to 27 of every word.
unfoldable pub guarded : PredicateOperand → Option ℕ
guarded g = put (Some 0) (30 ⋯ 27 ≔ operand_number g)

-- The word of a slot. Its bit 31 is given: set in the first of two.
abbrev pub in_slot : Option ℕ → Operation → Option AluOperation → Option ℕ
in_slot start o (Some a) = writing alu_formats start (alu_fields a)
in_slot start o None = writing first_formats start (first_fields o)

unfoldable pub slot_word : ℕ → PredicateOperand → Operation → Option ℕ
slot_word two g o = in_slot (put (guarded g) (31 ⋯ 31 ≔ two)) o (either_slot o)

-- The first word of a long immediate, whose format sets bit 31 itself.
abbrev pub long_word : PredicateOperand → Option AluOperation → Option ℕ
long_word g None = None
long_word g (Some a) = writing long_formats (guarded g) (long_fields a)

-- The words of a bundle, or why there are none.
abbrev pub Written : Type 0
Written = Result CodeWords Refusal

-- One word, or two; 12 where one is missing.
abbrev pub alone : Option ℕ → Written
alone None = Err refusal.NoWords
alone (Some w) = Ok (One w)

abbrev pub beside : Option ℕ → Option ℕ → Written
beside None v = Err refusal.NoWords
beside (Some w) None = Err refusal.NoWords
beside (Some w) (Some v) = Ok (Two w v)

-- The words of a bundle, or the refusal.
unfoldable pub written : Bundle → Written
written bundle.Undecodable = Err refusal.NoWords
written (bundle.One i) = alone (slot_word 0 i.guard i.operation)
written (bundle.Two i j) = beside (slot_word 1 i.guard i.operation) (slot_word 0 j.guard (Alu j.operation))
written (bundle.Long i) = beside (long_word i.guard (either_slot i.operation)) (constant_of (either_slot i.operation))

-- The bundle of one instruction: of two words if it has a long constant.
abbrev pub of_length : Instruction → Option ℕ → Bundle
of_length i None = bundle.One i
of_length i (Some n) = bundle.Long i

unfoldable pub single : Instruction → Bundle
single i = of_length i (constant_of (either_slot i.operation))

-- The bundle of two instructions. What slot two cannot hold makes no bundle.
abbrev pub beside_alu : Instruction → PredicateOperand → Option AluOperation → Bundle
beside_alu i g None = bundle.Undecodable
beside_alu i g (Some a) = bundle.Two i (record { guard = g; operation = a })

unfoldable pub pair : Instruction → Instruction → Bundle
pair i j = beside_alu i j.guard (either_slot j.operation)
