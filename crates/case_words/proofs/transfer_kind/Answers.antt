use Prim.Native.Nat.{ℕ}
use mathlib.Core.Path.{refl, ap, ◌∙◌}
use Rattle.text.specs.Table.{table, is_row}
use Rattle.case_words.specs.Names.{words, are_rows, meaning_at, transfer_kinds}
use Rattle.case_words.specs.RowLaws.{look_up_row}
use Rattle.case_words.proofs.transfer_kind.Goals as goal

pub returns : goal.returns
unfolding table is_row words are_rows transfer_kinds
returns c =
    c.transfer_kind_at.ensures
    ∙ ap (λ (row : ℕ). meaning_at transfer_kinds row) c.row_of.ensures
    ∙ look_up_row transfer_kinds c.args.s.now refl
