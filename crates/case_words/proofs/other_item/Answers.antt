use Prim.Native.Nat.{ℕ}
use mathlib.Core.Path.{refl, ap, ◌∙◌}
use Rattle.text.specs.Table.{table, is_row}
use Rattle.case_words.specs.Names.{words, are_rows, meaning_at, other_items}
use Rattle.case_words.specs.RowLaws.{look_up_row}
use Rattle.case_words.proofs.other_item.Goals as goal

pub returns : goal.returns
unfolding table is_row words are_rows other_items
returns c =
    c.other_item_at.ensures
    ∙ ap (λ (row : ℕ). meaning_at other_items row) c.row_of.ensures
    ∙ look_up_row other_items c.args.s.now refl
