use Rattle.check_entry.specs.BitLaws.{bit_next, bit_last}
use Rattle.core_state.specs.State.{predicates_of}
use lib.ListN.{length, take, length-set}
use borrow.Author.Rules.{rules}
use Prim.Native.Nat.{◌-◌, ◌≤◌}
use native.Mathlib.Omega.{arith}
use mathlib.Core.Path.{◌≡◌, refl, sym, ◌∙◌}
use mathlib.Core.List.{◌++◌}
use Rattle.check_entry.proofs.numbers.bits_of.Goals as goal

pub loop-i-init : goal.loop-i-init
loop-i-init c = (omega arith, refl, refl)

pub bounds-bits-i : goal.bounds-bits-i
bounds-bits-i c = omega (arith, c.loop-i-test.true, c.loop-i.invariant.1)

pub loop-i-preserved : goal.loop-i-preserved
loop-i-preserved c =
    let l = c.loop-i in
    (omega (arith, c.loop-i-test.true), length-set l.bits l.i _ ∙ l.invariant.1, bit_next l.bits l.i 32 l.rest (omega (arith, c.loop-i-test.true, l.invariant.1)) c.loop-i-test.true ∙ l.invariant.2)

pub returns : goal.returns
returns c =
    let l = c.loop-i in
    sym (bit_last l.bits l.i 32 l.rest l.invariant.1 (omega (arith, c.loop-i-test.false, l.invariant.0))) ∙ l.invariant.2
