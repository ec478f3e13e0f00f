use Rattle.record.specs.CopyLaws.{copied, copy_next, copy_all}
use Rattle.sections.specs.WordLaws.{words_length}
use Rattle.sections.specs.Words.{words_in}
use Prim.Native.Nat.{◌-◌, ◌≤◌, ◌<◌}
use lib.ListN.{length, set, length-set}
use borrow.Author.Rules.{rules}
use native.Mathlib.Omega.{arith}
use mathlib.Core.Path.{◌≡◌, refl, ◌∙◌}
use Rattle.record.proofs.reading.copy_words.Goals as goal

pub loop-i-init : goal.loop-i-init
loop-i-init c = (omega arith, refl, refl)

pub bounds-to-i : goal.bounds-to-i
bounds-to-i c = omega (arith, c.loop-i-test.true, c.loop-i.invariant.1, c.requires, words_length c.args.part.now)

pub loop-i-preserved : goal.loop-i-preserved
loop-i-preserved c =
    let l = c.loop-i in
    let a = c.args in
    let ws = words_in a.part.now in
    let here : l.i < length ws = omega (arith, c.loop-i-test.true, words_length a.part.now) in (
      omega (arith, c.loop-i-test.true),
      length-set l.to l.i c.word_at.result ∙ l.invariant.1,
      (λ k. set (l.invariant.2 k) l.i (c.word_at.ensures k)) ∙ copy_next a.to.now ws l.i here (omega (arith, here, c.requires)),
    )

pub shape_of-to : goal.shape_of-to
shape_of-to c = c.loop-i.invariant.1

pub returns : goal.returns
returns c =
    let l = c.loop-i in
    let a = c.args in
    l.invariant.2 ∙ copy_all a.to.now (words_in a.part.now) l.i (omega (arith, l.invariant.0, c.loop-i-test.false, words_length a.part.now))
