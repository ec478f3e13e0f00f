use mathlib.Core.Path.{sym, ap, subst, ◌∙◌}
use Rattle.method_cache.specs.Words.{held_in, FixedHeld}
use Rattle.settings.specs.Setup.{given_setup, buffers}
use Rattle.core_state.specs.declared.Core.{Core}
use Rattle.core_state.specs.State.{State, with_held}
use Rattle.core_state.specs.Core.{joined}
use Rattle.run_model.specs.Loop.{advanced}
use Rattle.run_model.specs.LoopLaws.{step_advanced}
use Rattle.state.specs.Whole.{state_of, tidied}
use borrow.Author.Rules.{rules}
use Rattle.state.proofs.State.step.Goals as goal

pub returns : goal.returns
returns c =
    let a = c.args in
    let x = given_setup a.given.now in
    let b = buffers a.main.now a.local.now a.cache.now in
    let t = tidied a.self c.tidy.new.held c.tidy.ensures.1 c.tidy.ensures.0 in
    let start = ap (λ (y : Core). with_held (joined a.self.registers a.self.predicates y) (held_in c.tidy.new.held)) c.core.ensures ∙ t.0 in
    record {
      stepped = rw c.join.ensures.0 (c.advance-r.ensures.given ∙ ap (λ (s : State). advanced x 1 s b) start ∙ sym (step_advanced x (state_of a.self) b));
      fixed = subst FixedHeld (sym c.join.ensures.1) (c.advance-r.ensures.held t.1);
    }
