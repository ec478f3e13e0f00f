use Rattle.big_endian.specs.BytesLaws.{length_put_number}
use Rattle.record.specs.PutLaws.{put_next, put_none, put_one}
use Rattle.sections.specs.Words.{put_words}
use lib.ListN.{length, get_or, drop}
use mathlib.Core.List.{List}
use Prim.Native.Nat.{ℕ, ◌+◌, ◌-◌, ◌*◌, ◌≤◌}
use borrow.Author.Rules.{rules}
use native.Mathlib.Omega.{arith}
use mathlib.Core.Path.{◌≡◌, refl, sym, ap, ◌∙◌}
use Rattle.record.proofs.putting.put_section.Goals as goal

pub overflow_cast-words : goal.overflow_cast-words
overflow_cast-words c = omega (arith, c.requires)

pub overflow_add-next : goal.overflow_add-next
overflow_add-next c = omega (arith, c.requires)

pub loop-word-init : goal.loop-word-init
loop-word-init c = (omega arith, omega arith, refl, refl)

pub overflow_add-next-in-loop-word : goal.overflow_add-next-in-loop-word
overflow_add-next-in-loop-word c = omega (arith, c.requires, c.loop-word.invariant.1, c.loop-word-test.true)

pub loop-word-preserved : goal.loop-word-preserved
loop-word-preserved c =
    let l = c.loop-word in
    let ws = c.args.words.now in
    let e = c.write_word-in-loop-word.ensures in (
      omega (arith, c.loop-word-test.true),
      omega (arith, l.invariant.1),
      ap length e ∙ length_put_number 4 l.out l.next (get_or ws l.word-index 0) ∙ l.invariant.2,
      ap (λ (o : List ℕ). put_words o (l.next + 4) (drop (l.word-index + 1) ws)) e ∙ put_next l.out l.next l.word-index ws c.loop-word-test.true ∙ l.invariant.3,
    )

pub shape_of-out : goal.shape_of-out
shape_of-out c =
    let l = c.loop-word in
    let a = c.args in
    l.invariant.2 ∙ ap length c.write_word.ensures ∙ length_put_number 4 a.out.now a.at (length a.words.now)

pub returns : goal.returns
returns c =
    let l = c.loop-word in
    let a = c.args in
    let ws = a.words.now in
    let n : l.word-index ≡ length ws = omega (arith, l.invariant.0, c.loop-word-test.false) in
    put_one a.out.now l.out a.at l.next ws
    (sym (put_none l.out l.next l.word-index ws (omega (arith, c.loop-word-test.false))) ∙ l.invariant.3 ∙ ap (λ (o : List ℕ). put_words o (a.at + 4) ws) c.write_word.ensures)
    (l.invariant.1 ∙ ap (λ (k : ℕ). a.at + 4 + 4 * k) n)
