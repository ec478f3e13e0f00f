use native.Mathlib.Omega.{arith}
use Rattle.std.proofs.Common.{rules, ◌≡◌, ◌+◌, ◌-◌, length}
use Rattle.case_notes.specs.DescriptionLineLaws.{append_some, append_none}
use Rattle.case_notes.proofs.description_line.code_line.Goals as goal

pub loop-init : goal.loop-init
loop-init c =
    let e : length c.args.line.now - 0 ≡ length c.args.line.now = omega arith in
    rw e

pub returns-in_err-word : goal.returns-in_err-word
returns-in_err-word c = rw (← c.loop.invariant, append_some (length c.args.line.now - c.loop.counter) _ _ _ _ (omega arith), ← c.code_entry.ensures, c.in_err-word.was) (search rules)

pub returns-in_default : goal.returns-in_default
returns-in_default c = rw (← c.loop.invariant, append_some (length c.args.line.now - c.loop.counter) _ _ _ _ (omega arith), ← c.code_entry.ensures, c.in_ok-word.was, c.in_default.is)

pub returns-in_err-append_word : goal.returns-in_err-append_word
returns-in_err-append_word c =
    rw (← c.loop.invariant, append_some (length c.args.line.now - c.loop.counter) _ _ _ _ (omega arith), ← c.code_entry.ensures, c.in_ok-word.was, c.in-Some.is, ← c.append_word.ensures, c.in_err-append_word.was) (search rules)

pub loop-preserved : goal.loop-preserved
loop-preserved c =
    let left : length c.args.line.now - (c.loop.counter + 1) ≡ length c.args.line.now - c.loop.counter - 1 = omega arith in
    rw (← c.loop.invariant, left, append_some (length c.args.line.now - c.loop.counter) _ _ _ _ (omega arith), ← c.code_entry.ensures, c.in_ok-word.was, c.in-Some.is, ← c.append_word.ensures, c.in_ok-append_word.was)

pub returns : goal.returns
returns c = rw (← c.loop.invariant, append_none (length c.args.line.now - c.loop.counter) _ _ _ _ (omega arith))
