use Prim.Native.Nat.{ℕ}
use mathlib.Core.Path.{refl, ap, ◌∙◌}
use Rattle.text.specs.Table.{table, is_row}
use Rattle.case_words.specs.Names.{words, are_rows, meaning_at, special_names}
use Rattle.case_words.specs.RowLaws.{look_up_row}
use Rattle.case_words.proofs.special_name.Goals as goal

pub returns : goal.returns
unfolding table is_row words are_rows special_names
returns c =
    c.special_name_at.ensures
    ∙ ap (λ (row : ℕ). meaning_at special_names row) c.row_of.ensures
    ∙ look_up_row special_names c.args.s.now refl
