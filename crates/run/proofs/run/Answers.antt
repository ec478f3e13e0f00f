use mathlib.Core.Path.{◌≡◌, sym, ap, subst, ◌∙◌}
use lib.ListN.{length}
use mathlib.Core.List.{[]}
use Rattle.method_cache.specs.Words.{held_in, FixedHeld}
use Rattle.settings.specs.Setup.{given_setup, buffers}
use Rattle.core_state.specs.declared.Core.{Core}
use Rattle.core_state.specs.State.{State, with_held, ended}
use Rattle.core_state.specs.Core.{joined}
use Rattle.state.specs.Whole.{state_of, tidied}
use Rattle.run_model.specs.Loop.{advanced, ending}
use Rattle.run_model.specs.LoopLaws.{run_advanced}
use Rattle.run.specs.Ran.{ends_as}
use borrow.Author.Rules.{rules}
use Rattle.run.proofs.run.Goals as goal

pub returns : goal.returns
unfolding state_of ended
returns c =
    let a = c.args in
    let x = given_setup a.given.now in
    let b = buffers a.main.now a.local.now a.cache.now in
    let regs : length a.start.registers ≡ 32 = search (rules, c.well_formed.0) in
    let preds : length a.start.predicates ≡ 8 = search (rules, c.well_formed.0) in
    let r = c.advance-r in
    let w = c.tidy.new.held in
    let t = tidied a.start w c.tidy.ensures.1 c.tidy.ensures.0 in
    let start = ap (λ (y : Core). with_held (joined a.start.registers a.start.predicates y) (held_in w)) c.core.ensures ∙ t.0 in
    record {
      ran =
          ends_as x r.result.answer _ c.at_end.result _ _ _ _ c.at_end.ensures (c.has_ended-ended.ensures [] []) c.join-state.ensures.0
          ∙ ap (ending x) (r.ensures.given ∙ ap (λ (s : State). advanced x a.budget s b) start)
          ∙ sym (run_advanced x (state_of a.start) b a.budget);
      shaped = record { registers = regs; predicates = preds };
      fixed = subst FixedHeld (sym c.join-state.ensures.1) (r.ensures.held t.1);
    }
