-- The text of a bundle, read: an optional guard, a mnemonic and its operands; and a second instruction behind `;`.
use Rattle.std.specs.Prelude.{ℕ, Result, Ok, Err, cond, List, Option, None, Some}
use Rattle.text.specs.Field.{field_from, same_bytes}
use Rattle.case_words.specs.Names.{bytes}
use Rattle.case_file.specs.Arguments.{is_empty, bytes_of, is_end}
use Rattle.case_file.specs.declared.Reason.{Reason}
use Rattle.encoder.specs.Encode.{single, pair, written, Written}
use Rattle.assembly.specs.Forms.{predicate, letter, made, mnemonic_of}
use Rattle.assembly.specs.Operands.{OperandRead, plain, predicate_read, operand_at}
use Rattle.assembly.specs.declared.Operand.{Operand}
use Rattle.assembly.specs.declared.Mnemonic.{Mnemonic}
use Rattle.isa.specs.declared.PredicateOperand.{PredicateOperand}
use Rattle.isa.specs.declared.Operation.{Operation}
use Rattle.isa.specs.declared.Instruction.{Instruction}
use Rattle.isa.specs.declared.Bundle.{Bundle}

-- An instruction and the position after it, or why there is none.
abbrev pub InstructionRead : Type 0
InstructionRead = Result (Instruction × ℕ) Reason

-- Reading goes on after an operand, with it and the position after it; a mistake ends it.
abbrev pub go_on : OperandRead → (Operand → ℕ → InstructionRead) → InstructionRead
go_on (Ok read) rest = rest read.0 read.1
go_on (Err r) rest = Err r

-- What the operands make. A form that the table does not have belongs to a name that no instruction has.
abbrev pub instruction_of : PredicateOperand → Option Operation → ℕ → InstructionRead
instruction_of g None next = Err Reason.NoSuchInstruction
instruction_of g (Some o) next = Ok (record { guard = g; operation = o }, next)

-- The operands of a mnemonic from a position on.
unfoldable pub operands_at : List ℕ → ℕ → PredicateOperand → Mnemonic → InstructionRead
operands_at line at g m =
    go_on (operand_at line at (letter m.form 0)) (λ a at.
    go_on (operand_at line at (letter m.form 1)) (λ b at.
    go_on (operand_at line at (letter m.form 2)) (λ c at.
    go_on (operand_at line at (letter m.form 3)) (λ d at.
    instruction_of g (made m a b c d) at))))

-- A mnemonic and its operands, under a guard.
unfoldable pub named_at : List ℕ → ℕ → PredicateOperand → InstructionRead
named_at line at g =
    let f = field_from line at in
    cond (is_empty f) (Err Reason.FieldMissing) (operands_at line f.end g (mnemonic_of (bytes_of line f)))

-- A first field that is a predicate is the guard. Without one the guard is p0.
abbrev pub guarded_at : List ℕ → ℕ → OperandRead → InstructionRead
guarded_at line at (Ok read) = named_at line read.1 (predicate read.0)
guarded_at line at (Err r) = named_at line at (predicate (plain 0))

unfoldable pub instruction_at : List ℕ → ℕ → InstructionRead
instruction_at line at = let f = field_from line at in guarded_at line at (predicate_read (bytes_of line f) f.end)

-- The bundle that the rest of a line asks for, or what is wrong with it.
abbrev pub BundleRead : Type 0
BundleRead = Result Bundle Reason

-- One instruction to the line's end, or two with `;` between them.
abbrev pub second_read : List ℕ → Instruction → InstructionRead → BundleRead
second_read line i (Err r) = Err r
second_read line i (Ok read) = cond (is_end line read.1) (Ok (pair i read.0)) (Err Reason.FieldTooMany)

unfoldable pub after_first : List ℕ → ℕ → Instruction → BundleRead
after_first line at i =
    let f = field_from line at in
    cond (is_empty f) (Ok (single i))
    (cond (same_bytes (bytes_of line f) (bytes ";")) (second_read line i (instruction_at line f.end)) (Err Reason.FieldTooMany))

abbrev pub first_read : List ℕ → InstructionRead → BundleRead
first_read line (Err r) = Err r
first_read line (Ok read) = after_first line read.1 read.0

unfoldable pub bundle_read : List ℕ → ℕ → BundleRead
bundle_read line at = first_read line (instruction_at line at)

-- The words written for it.
abbrev pub words_of : BundleRead → Result Written Reason
words_of (Ok b) = Ok (written b)
words_of (Err r) = Err r
