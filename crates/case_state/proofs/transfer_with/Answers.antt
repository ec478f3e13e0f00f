use native.Mathlib.Omega.{arith}
use Rattle.case_state.specs.KeptState.{transfer_with}
use borrow.Author.Tests.{ne_eqb}
use Rattle.case_state.proofs.transfer_with.Goals as goal

pub returns-in-1 : goal.returns-in-1
unfolding transfer_with
returns-in-1 c = rw c.in-1.is

pub returns-in-2 : goal.returns-in-2
unfolding transfer_with
returns-in-2 c = rw c.in-2.is

pub returns-in-3 : goal.returns-in-3
unfolding transfer_with
returns-in-3 c = rw c.in-3.is

pub returns-in-4 : goal.returns-in-4
unfolding transfer_with
returns-in-4 c = rw c.in-4.is

pub returns-in_default : goal.returns-in_default
unfolding transfer_with
returns-in_default c = simp (ne_eqb c.args.kind 1 (omega arith), ne_eqb c.args.kind 2 (omega arith), ne_eqb c.args.kind 3 (omega arith), ne_eqb c.args.kind 4 (omega arith))
