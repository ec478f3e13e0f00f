use Rattle.record.specs.CopyLaws.{over_all}
use Rattle.sections.specs.Words.{words_in}
use Prim.Native.Nat.{ℕ}
use lib.ListN.{replicate}
use mathlib.Core.Path.{◌∙◌}
use mathlib.Core.List.{List, append-nil}
use borrow.Author.Rules.{rules}
use Rattle.record.proofs.reading.registers_in.Goals as goal

pub returns : goal.returns
returns c =
    let ws = words_in c.args.part.now in
    let z : List ℕ = replicate 32 0 in
    append-nil c.copy_words.new.to ∙ c.copy_words.ensures ∙ over_all z ws c.requires
