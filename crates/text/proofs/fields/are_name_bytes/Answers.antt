use Rattle.std.proofs.Common.{refl, ◌∙◌, ◌&&◌, rules, tests}
use Rattle.std.specs.List.{list_all}
use Rattle.std.proofs.lemmas.Iterator.{YieldsList-from_slice}
use Rattle.std.proofs.lemmas.Iterator.Search.{all_from_yields_List}
use Rattle.std.proofs.lemmas.List.Recursion.{same_from_clauses}
use Rattle.text.specs.Field.{is_name_byte, are_name_bytes}
use Rattle.text.proofs.fields.are_name_bytes.Goals as goal

pub returns : goal.returns
unfolding are_name_bytes
returns c =
    let s = c.args.s.now in
    all_from_yields_List is_name_byte _ _ _ c.all.ensures.ran (YieldsList-from_slice s cc) (λ x b q k. search (rules, tests))
    ∙ same_from_clauses (list_all is_name_byte) are_name_bytes (λ b r. is_name_byte b && r) refl (λ _ _. refl) (λ _ _. refl) s
