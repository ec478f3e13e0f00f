use Prim.Native.Nat.{ℕ}
use mathlib.Core.Path.{refl, ap, ◌∙◌}
use Rattle.text.specs.Table.{table, is_row}
use Rattle.case_words.specs.Names.{words, are_rows, meaning_at, keywords}
use Rattle.case_words.specs.RowLaws.{look_up_row}
use Rattle.case_words.proofs.first_word.Goals as goal

pub returns : goal.returns
unfolding table is_row words are_rows keywords
returns c =
    c.keyword_at.ensures
    ∙ ap (λ (row : ℕ). meaning_at keywords row) c.row_of.ensures
    ∙ look_up_row keywords c.args.s.now refl
