use Rattle.disassembler.specs.Shown.{shown}
use Rattle.disassembler.proofs.showing.show_alu.Goals as goal

pub returns-in-Predicate : goal.returns-in-Predicate
unfolding shown
returns-in-Predicate c = rw (c.in-Predicate.is, ← c.predicate_code.ensures, ← c.plain.ensures, ← c.of_predicate.ensures, ← c.of_predicate-in-Predicate.ensures, ← c.plain-in-Predicate.ensures) c.four.ensures

pub returns-in-BitCopy : goal.returns-in-BitCopy
unfolding shown
returns-in-BitCopy c = rw (c.in-BitCopy.is, ← c.plain-in-BitCopy.ensures, ← c.plain-in-BitCopy-2.ensures, ← c.plain-in-BitCopy-3.ensures, ← c.of_predicate-in-BitCopy.ensures) c.four-in-BitCopy.ensures
