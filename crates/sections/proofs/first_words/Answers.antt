use Rattle.std.proofs.Common.{rules, refl, arith, length, ◌/◌}
use Rattle.sections.specs.FoundLaws.{whole_part, none_words, past_words, past_fits, end_fits, end_words}
use Rattle.sections.proofs.first_words.Goals as goal

pub returns-then-bytes-lt4 : goal.returns-then-bytes-lt4
returns-then-bytes-lt4 c = (none_words c.args.bytes.now c.if-bytes-lt4.true 0, refl)

pub returns-in_default : goal.returns-in_default
returns-in_default c =
    let l = c.args.bytes.now in (
      past_words l _ c.if-bytes-lt4.false refl (past_fits l c.in_default.ensures c.if-bytes-lt4.false),
      whole_part l (length l / 4) (omega (arith, c.if-bytes-lt4.false)) (omega arith),
    )

pub slice_bounds-result-end-2 : goal.slice_bounds-result-end-2
slice_bounds-result-end-2 c = let f = end_fits c.args.bytes.now c.in-Some.end c.in-Some.ensures in search (rules, f)

pub returns : goal.returns
returns c = end_words c.args.bytes.now c.in-Some.end c.in-Some.ensures
