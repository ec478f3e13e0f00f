use Rattle.record_model.specs.PartLaws.{counts_twelve, replay_three}
use Rattle.record.specs.PutLaws.{put_then, put_end, held_part}
use Rattle.record.specs.Written.{Put}
use Prim.Native.Nat.{ℕ, ◌-◌, ◌+◌}
use lib.ListN.{length, take, drop, length-take}
use native.Mathlib.Omega.{arith}
use mathlib.Core.Path.{◌≡◌, ap, subst, ◌∙◌}
use mathlib.Core.List.{List, [], ◌∷◌}
use borrow.Author.Rules.{rules}
use Rattle.record.proofs.writing.put_last.Goals as goal

pub put_section-last-requires : goal.put_section-last-requires
put_section-last-requires c =
    let twelve = ap length c.count_words-numbers.ensures ∙ counts_twelve c.args.counts in
    let n = c.at_most_16-n.result in
    omega (arith, c.requires, put_end (c.count_words-numbers.result ∷ []) c.put_section-next.ensures, twelve, c.at_most_16-n.ensures, length-take (1 + n - 1) (drop 1 c.args.held))

pub put_section-requires : goal.put_section-requires
put_section-requires c =
    let first = c.count_words-numbers in
    let twelve = ap length first.ensures ∙ counts_twelve c.args.counts in
    let three = ap length c.replay_words-words.ensures ∙ replay_three c.args.replay in
    let n = c.at_most_16-n.result in
    let part = take (1 + n - 1) (drop 1 c.args.held) in
    omega (arith, c.requires, put_end (first.result ∷ []) c.put_section-next.ensures, put_end (part ∷ []) c.put_section-last.ensures, twelve, three, c.at_most_16-n.ensures, length-take (1 + n - 1) (drop 1 c.args.held))

pub returns : goal.returns
returns c =
    let a = c.args in
    let long : length a.held ≡ 17 = search rules in
    let n = c.at_most_16-n.result in
    let first = c.count_words-numbers in
    let last = c.replay_words-words in
    let held = held_part a.held n long c.at_most_16-n.ensures in
    let part = take (1 + n - 1) (drop 1 a.held) in
    let behind = put_then (part ∷ []) (last.result ∷ []) c.put_section-last.ensures c.put_section.ensures in
    let whole = put_then (first.result ∷ []) (part ∷ last.result ∷ []) c.put_section-next.ensures behind in
    subst (λ (ws : List (List ℕ)). Put a.out.now c.put_section.new.out a.at c.put_section.result ws) (λ i. first.ensures i ∷ held i ∷ last.ensures i ∷ []) whole
