use mathlib.Core.Bool.{true}
use mathlib.Core.Path.{ap}
use lib.ListN.{set}
use Rattle.core_state.specs.State.{State, state, specials, predicates_of, fresh, blank}
use Rattle.state.specs.Whole.{state_of}
use borrow.Author.Rules.{rules}
use Rattle.state.proofs.State.fresh.Goals as goal

pub returns : goal.returns
unfolding state_of blank fresh predicates_of
returns c =
    let a = c.args in
    let built : State → State = λ s.
    state s.registers (set s.predicates 0 true) (specials s.specials.sl s.specials.sh a.hi a.hi s.specials.srb a.code s.specials.sxb s.specials.sxo) a.entry a.entry s.transfer s.load s.further in
    (ap built c.blank-s.ensures.0, c.blank-s.ensures.1)
