-- What the search for a broken rule finds, and when that is right.
use Rattle.std.specs.Prelude.{Bool, true, false, not, ◌||◌, ◌≡◌, refl, Option, Some, None}
use Rattle.std.specs.Option.{option_or}
use Rattle.std.proofs.lemmas.Bool.{false≢true, not-true}
use Rattle.std.proofs.Common.{sym}
use Rattle.isa.specs.declared.Operation.TheVariants.{Alu}
use Rattle.isa.specs.declared.Instruction.{Instruction}
use Rattle.isa.specs.declared.AluInstruction.{AluInstruction}
use Rattle.isa.specs.declared.Bundle.TheVariants as bundle
use Rattle.marking.specs.declared.Marking.{Marking}
use Rattle.marking_rules.specs.declared.Rule.{Rule}
use Rattle.marking_rules.specs.declared.Rule.TheVariants.{A, B, C, D, E}
use Rattle.marking.specs.Marking.{private_guard}
use Rattle.marking_rules.specs.Rules.{operation_breaks, instruction_breaks, breaks}

-- Of an instruction or a bundle: a rule found is broken; where nothing is found, none is.
unfoldable pub right : (Rule → Bool) → Option Rule → Bool
right broken None = not (broken A || (broken B || (broken C || (broken D || broken E))))
right broken (Some r) = broken r

abbrev pub slot_two_breaks : Marking → AluInstruction → Rule → Bool
slot_two_breaks m j = operation_breaks m (private_guard m j.guard) (Alu j.operation)

-- Of two slots: what is found in slot one, or, where that is nothing, in slot two.
pub right_pair : (m : Marking) (i : Instruction) (j : AluInstruction) (f h : Option Rule) → right (instruction_breaks m i) f ≡ true → right (slot_two_breaks m j) h ≡ true
    → right (breaks m (bundle.Two i j)) (option_or f h) ≡ true
unfolding right breaks
right_pair m i j (Some r) h e k = rw e
right_pair m i j None (Some r) e k = go (instruction_breaks m i r)
  where
    go : (t : Bool) → t || slot_two_breaks m j r ≡ true
    go true = refl
    go false = k
right_pair m i j None None e k = go (instruction_breaks m i A) (instruction_breaks m i B) (instruction_breaks m i C) (instruction_breaks m i D) (instruction_breaks m i E) (not-true _ e)
  where
    two : Rule → Bool
    two = slot_two_breaks m j

    go : (a b c d e : Bool) → a || (b || (c || (d || e))) ≡ false
        → not ((a || two A) || ((b || two B) || ((c || two C) || ((d || two D) || (e || two E))))) ≡ true
    go true b c d e h = absurd (false≢true (sym h))
    go false true c d e h = absurd (false≢true (sym h))
    go false false true d e h = absurd (false≢true (sym h))
    go false false false true e h = absurd (false≢true (sym h))
    go false false false false true h = absurd (false≢true (sym h))
    go false false false false false h = k
