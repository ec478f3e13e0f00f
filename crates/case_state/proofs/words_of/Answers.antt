use Rattle.std.proofs.Common.{◌≡◌, ◌+◌, ℕ, arith, length-set, take_all, ap, sym, ◌∙◌}
use Rattle.std.proofs.lemmas.List.{length-replicate}
use Rattle.case_kept.specs.Kept.{kept_word, kept_words}
use Rattle.case_kept.specs.KeptLaws.{up_to_none, up_to_more}
use Rattle.case_state.proofs.words_of.Goals as goal

pub loop-i-init : goal.loop-i-init
loop-i-init g c = (length-replicate g.row.N 0, up_to_none (λ i. kept_word c.args.kept.now (c.args.first + i)))

pub loop-i-preserved : goal.loop-i-preserved
loop-i-preserved g c = let l = c.loop-i in
    (length-set l.words l.i c.word.result ∙ l.invariant.0, up_to_more (λ i. kept_word c.args.kept.now (c.args.first + i)) l.words l.i c.word.result (omega (arith, l.invariant.0)) l.invariant.1 c.word.ensures)

pub returns : goal.returns
returns g c = let l = c.loop-i in
    let e : l.i ≡ g.row.N = omega arith in
    sym (take_all l.i l.words (omega (arith, l.invariant.0))) ∙ l.invariant.1 ∙ ap (λ (k : ℕ). kept_words k c.args.kept.now c.args.first) e
