use Rattle.std.proofs.Common.{arith, refl, sym, ap, ◌∙◌, ◌-◌, ◌+◌, ◌&&◌, Bool, ℕ, nat_lt, length, take, drop, length-drop}
use Rattle.sections.specs.Words.{words_in}
use Rattle.sections.specs.Sections.{behind, is_cut}
use Rattle.sections.specs.FoundLaws.{tail_length, further_on, cut_next, cut_end, first_part, past_whole, end_fits, end_whole, end_behind}
use Rattle.sections.proofs.is_cut.Goals as goal

pub returns-in_default : goal.returns-in_default
returns-in_default c =
    let l = c.loop in
    let d = drop l.at c.args.bytes.now in
    let rest = is_cut (c.args.k - (l.counter + 1)) (behind 1 (words_in d)) in
    ap (λ (t : Bool). t && rest) (sym (past_whole d (c.in_default.ensures ∙ first_part c.args.bytes.now l.at)))
    ∙ sym (cut_next c.args.k l.counter (words_in d) c.loop-test.true)
    ∙ l.invariant.1

pub overflow_add-at : goal.overflow_add-at
overflow_add-at c =
    let l = c.loop in
    let s = c.args.bytes.now in
    let part = take (length s - l.at) (drop l.at s) in
    omega (arith, (end_fits part c.in-Some.end c.in-Some.ensures).1, l.invariant.0, tail_length s l.at)

pub loop-preserved : goal.loop-preserved
loop-preserved c =
    let l = c.loop in
    let s = c.args.bytes.now in
    let d = drop l.at s in
    let part = take (length s - l.at) d in
    let on = further_on s l.at c.in-Some.end part refl (end_behind part c.in-Some.end c.in-Some.ensures) in
    let left = c.args.k - (l.counter + 1) in
    let whole = end_whole d c.in-Some.end (c.in-Some.ensures ∙ first_part s l.at) in (
      omega (arith, (end_fits part c.in-Some.end c.in-Some.ensures).1, l.invariant.0, tail_length s l.at),
      ap (is_cut left) on
          ∙ ap (λ (t : Bool). t && is_cut left (behind 1 (words_in d))) (sym whole)
          ∙ sym (cut_next c.args.k l.counter (words_in d) c.loop-test.true)
          ∙ l.invariant.1,
    )

pub returns : goal.returns
returns c =
    let l = c.loop in
    let s = c.args.bytes.now in
    ap (λ (n : ℕ). nat_lt n 4) (sym (length-drop l.at s)) ∙ sym (cut_end (c.args.k - l.counter) (drop l.at s) (omega (arith, c.loop-test.false))) ∙ l.invariant.1
