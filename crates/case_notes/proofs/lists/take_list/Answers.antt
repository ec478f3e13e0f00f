use native.Mathlib.Omega.{arith}
use Rattle.std.proofs.Common.{rules, ◌≡◌, ◌+◌, ◌-◌, length}
use Rattle.case_notes.specs.ListsLaws.{take_some, take_none}
use Rattle.case_notes.proofs.lists.take_list.Goals as goal

pub loop-init : goal.loop-init
loop-init c =
    let e : length c.args.line.now - 0 ≡ length c.args.line.now = omega arith in
    rw e

pub returns-in_err-entry : goal.returns-in_err-entry
returns-in_err-entry c = rw (← c.loop.invariant, take_some _ (length c.args.line.now - c.loop.counter) _ _ _ (omega arith), ← c.next_entry.ensures, c.in_err-entry.was) (search rules)

pub returns-in_default : goal.returns-in_default
returns-in_default c = rw (← c.loop.invariant, take_some _ (length c.args.line.now - c.loop.counter) _ _ _ (omega arith), ← c.next_entry.ensures, c.in_ok-entry.was, c.in_default.is)

pub returns-in_err-take_one : goal.returns-in_err-take_one
returns-in_err-take_one c =
    rw (← c.loop.invariant, take_some _ (length c.args.line.now - c.loop.counter) _ _ _ (omega arith), ← c.next_entry.ensures, c.in_ok-entry.was, c.in-Some.is, ← c.take_one.ensures, c.in_err-take_one.was) (search rules)

pub loop-preserved : goal.loop-preserved
loop-preserved c =
    let left : length c.args.line.now - (c.loop.counter + 1) ≡ length c.args.line.now - c.loop.counter - 1 = omega arith in
    rw (← c.loop.invariant, left, take_some _ (length c.args.line.now - c.loop.counter) _ _ _ (omega arith), ← c.next_entry.ensures, c.in_ok-entry.was, c.in-Some.is, ← c.take_one.ensures, c.in_ok-take_one.was)

pub returns : goal.returns
returns c = rw (← c.loop.invariant, take_none _ (length c.args.line.now - c.loop.counter) _ _ _ (omega arith))
