use Prim.Native.Nat.{ℕ}
use mathlib.Core.List.{List}
use mathlib.Core.Path.{ap, ◌∙◌}
use Rattle.sections.specs.Words.{words_in}
use Rattle.sections.specs.Sections.{words_of_first, section_at}
use Rattle.sections.specs.FoundLaws.{tail_part}
use Rattle.sections.proofs.section_at.Goals as goal

pub returns : goal.returns
unfolding section_at
returns c =
    let l = c.args.bytes.now in (
      c.first_words.ensures.0 ∙ ap (λ (m : List ℕ). words_of_first (words_in m)) (tail_part l c.end_of.result) ∙ ap words_of_first c.end_of.ensures.1,
      c.first_words.ensures.1,
    )
