use Rattle.std.proofs.Common.{arith, refl, sym, ap, ◌∙◌, ◌-◌, ◌+◌, length, take, drop}
use Rattle.sections.specs.Words.{words_in}
use Rattle.sections.specs.Sections.{behind}
use Rattle.sections.specs.FoundLaws.{tail_length, further_on, behind_next, behind_end, first_part, past_all, nothing_left, end_fits, end_behind}
use Rattle.sections.proofs.end_of.Goals as goal

pub returns-in_default : goal.returns-in_default
returns-in_default c =
    let l = c.loop in
    let s = c.args.bytes.now in
    (omega arith, nothing_left s ∙ sym (past_all c.args.k l.counter (drop l.at s) c.loop-test.true (c.in_default.ensures ∙ first_part s l.at)) ∙ l.invariant.1)

pub overflow_add-at : goal.overflow_add-at
overflow_add-at c =
    let l = c.loop in
    let s = c.args.bytes.now in
    let part = take (length s - l.at) (drop l.at s) in
    omega (arith, (end_fits part c.in-Some.end c.in-Some.ensures).1, l.invariant.0, tail_length s l.at)

pub loop-preserved : goal.loop-preserved
loop-preserved c =
    let l = c.loop in
    let s = c.args.bytes.now in
    let part = take (length s - l.at) (drop l.at s) in
    let on = further_on s l.at c.in-Some.end part refl (end_behind part c.in-Some.end c.in-Some.ensures) in (
      omega (arith, (end_fits part c.in-Some.end c.in-Some.ensures).1, l.invariant.0, tail_length s l.at),
      ap (behind (c.args.k - (l.counter + 1))) on ∙ sym (behind_next c.args.k l.counter (words_in (drop l.at s)) c.loop-test.true) ∙ l.invariant.1,
    )

pub returns : goal.returns
returns c =
    let l = c.loop in
    let s = c.args.bytes.now in
    (l.invariant.0, sym (behind_end (c.args.k - l.counter) (words_in (drop l.at s)) (omega (arith, c.loop-test.false))) ∙ l.invariant.1)
