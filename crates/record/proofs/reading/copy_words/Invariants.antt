use Rattle.record.specs.CopyLaws.{copied, copy_next, copy_all}
use Rattle.sections.specs.WordLaws.{words_length}
use Rattle.sections.specs.Words.{words_in}
use Prim.Native.Nat.{◌-◌, ◌≤◌, ◌<◌}
use lib.ListN.{length, set, length-set}
use borrow.Author.Rules.{rules}
use native.Mathlib.Omega.{arith}
use mathlib.Core.Path.{◌≡◌, refl, ◌∙◌}
use Rattle.record.proofs.reading.copy_words.Given as goal

abbrev pub invariant-loop-i : goal.invariant-loop-i
invariant-loop-i l = (l.i ≤ l.n) × (length l.to ≡ length l.initial.to) × (l.to ≡ copied l.initial.to (words_in l.part) l.i)
