use Rattle.record.specs.CopyLaws.{held_over}
use Rattle.sections.specs.WordLaws.{words_length}
use Rattle.sections.specs.Words.{words_in}
use native.Mathlib.Omega.{arith}
use mathlib.Core.Path.{sym, ◌∙◌}
use mathlib.Core.List.{◌∷◌, append-nil}
use borrow.Author.Rules.{rules}
use Rattle.record.proofs.reading.held_in.Goals as goal

pub overflow_cast-held : goal.overflow_cast-held
overflow_cast-held c = omega (arith, c.requires, words_length c.args.part.now)

pub returns : goal.returns
returns c =
    let part = c.args.part.now in
    (λ i. sym (words_length part) i ∷ (append-nil c.copy_words.new.to ∙ c.copy_words.ensures) i) ∙ held_over (words_in part) c.requires
