-- The text of a bundle. A guard p0 is not written.
use Rattle.std.specs.Prelude.{ℕ, false, cond, List, [], ◌++◌, eqb}
use Rattle.case_words.specs.Names.{bytes}
use Rattle.assembly.specs.Forms.{letter, name_of}
use Rattle.assembly.specs.Operands.{predicate_text, operand_text}
use Rattle.disassembler.specs.Shown.{shown}
use Rattle.disassembler.specs.declared.Shown.{Shown}
use Rattle.isa.specs.declared.PredicateOperand.{PredicateOperand}
use Rattle.isa.specs.declared.Operation.{Operation}
use Rattle.isa.specs.declared.Operation.TheVariants.{Alu}
use Rattle.isa.specs.declared.Bundle.{Bundle}
use Rattle.isa.specs.declared.Bundle.TheVariants as bundle

-- The text of a name with its operands.
unfoldable pub shown_text : Shown → List ℕ
shown_text s =
    name_of s.mnemonic
    ++ (operand_text (letter s.mnemonic.form 0) s.a
    ++ (operand_text (letter s.mnemonic.form 1) s.b
    ++ (operand_text (letter s.mnemonic.form 2) s.c
    ++ operand_text (letter s.mnemonic.form 3) s.d)))

unfoldable pub guard_text : PredicateOperand → List ℕ
guard_text g = cond (cond g.negated false (eqb g.predicate 0)) [] (predicate_text g.negated g.predicate ++ bytes " ")

abbrev pub slot_text : PredicateOperand → Operation → List ℕ
slot_text g o = guard_text g ++ shown_text (shown o)

-- The text of a bundle. One that cannot be decoded has none.
unfoldable pub bundle_text : Bundle → List ℕ
bundle_text bundle.Undecodable = []
bundle_text (bundle.One i) = slot_text i.guard i.operation
bundle_text (bundle.Long i) = slot_text i.guard i.operation
bundle_text (bundle.Two i j) = slot_text i.guard i.operation ++ (bytes " ; " ++ slot_text j.guard (Alu j.operation))
