use native.Mathlib.Omega.{arith}
use Rattle.std.proofs.Common.{rules, ◌≡◌, ◌+◌, ◌-◌, length}
use Rattle.case_notes.specs.MarkingLaws.{mark_some, mark_none}
use Rattle.case_notes.proofs.marked.mark_items.Goals as goal

pub loop-init : goal.loop-init
loop-init c =
    let e : length c.args.line.now - 0 ≡ length c.args.line.now = omega arith in
    rw e

pub returns-in_err-item : goal.returns-in_err-item
returns-in_err-item c = rw (← c.loop.invariant, mark_some (length c.args.line.now - c.loop.counter) _ _ _ (omega arith), ← c.private_entry.ensures, c.in_err-item.was) (search rules)

pub returns-in_default : goal.returns-in_default
returns-in_default c = rw (← c.loop.invariant, mark_some (length c.args.line.now - c.loop.counter) _ _ _ (omega arith), ← c.private_entry.ensures, c.in_ok-item.was, c.in_default.is)

pub loop-preserved : goal.loop-preserved
loop-preserved c =
    let left : length c.args.line.now - (c.loop.counter + 1) ≡ length c.args.line.now - c.loop.counter - 1 = omega arith in
    rw (← c.loop.invariant, left, mark_some (length c.args.line.now - c.loop.counter) _ _ _ (omega arith), ← c.private_entry.ensures, c.in_ok-item.was, c.in-Some.is, c.mark.ensures)

pub returns : goal.returns
returns c = rw (← c.loop.invariant, mark_none (length c.args.line.now - c.loop.counter) _ _ _ (omega arith))
