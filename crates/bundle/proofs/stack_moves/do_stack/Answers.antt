use mathlib.Core.Path.{refl, sym, ap, ◌∙◌}
use mathlib.Core.Bool.{false≢true, not}
use Rattle.std.proofs.lemmas.Result.{err_from_is_err_and}
use Prim.Native.Nat.{ℕ}
use borrow.Author.Rules.{rules}
use Rattle.settings.specs.Setup.{setup_of}
use Rattle.core_state.specs.State.{with_held}
use Rattle.core_state.specs.Core.{joined}
use Rattle.settings.specs.SettingsLaws.{size_ok, size_refused, size_words, area_ordered, area_inside}
use Rattle.stack_cache.specs.Stack.{planned}
use Rattle.stack_control.specs.PlanLaws.{planned_told}
use Rattle.effects.specs.declared.Effect.TheVariants as effect
use Rattle.bundle_model.specs.Counts.{plus, plus_none, counts_in}
use Rattle.bundle_model.specs.Execute.{carried_out}
use Rattle.bundle_model.proofs.ExecuteLaws.{slot_plain, stack_tests_lem, one_way, stack_carried, stack_counted}
use Rattle.bundle.proofs.stack_moves.do_stack.Goals as goal

pub returns-then-not-aligned : goal.returns-then-not-aligned
unfolding carried_out
returns-then-not-aligned c =
    let a = c.args in
    λ code rs hs l ps.
    let s = with_held (joined rs ps a.core) hs in
    (rw (slot_plain a.g (setup_of code a.g) s (effect.Stack a.control a.words a.aligned) refl, stack_tests_lem a.g (setup_of code a.g) s a.control a.words a.aligned, c.if-not-aligned.true) refl, sym (plus_none (counts_in a.counts.now)))

pub returns-in_err-stack : goal.returns-in_err-stack
returns-in_err-stack c = λ code rs hs l ps. absurd (false≢true (sym (size_refused _ (sym c.new.ensures ∙ c.in_err-stack.was)) ∙ size_ok c.args.g c.requires.0))

pub move_words-requires : goal.move_words-requires
move_words-requires c =
    let a = c.args in
    let h = c.requires in
    let w = size_words _ (sym c.new.ensures ∙ c.in_ok-stack.was) in
    let p = ap (λ (n : ℕ). planned a.control n a.g.lo a.g.hi a.core.specials.st a.core.specials.ss a.words) (sym w) ∙ sym c.plan.ensures ∙ c.in_ok-st.was in
    let t = planned_told _ _ _ _ _ _ _ _ _ _ _ p in
    (area_ordered a.g h.0, rw (← h.1) (area_inside a.g h.0), λ r. one_way _ _ _ _ _ _ _ t.spilled t.filled r)

pub returns-in_err-st : goal.returns-in_err-st
unfolding carried_out
returns-in_err-st c =
    let a = c.args in
    let w = size_words _ (sym c.new.ensures ∙ c.in_ok-stack.was) in
    let p = ap (λ (n : ℕ). planned a.control n a.g.lo a.g.hi a.core.specials.st a.core.specials.ss a.words) (sym w) ∙ sym c.plan.ensures ∙ c.in_err-st.was in
    let e = err_from_is_err_and c.from_residual-in_err-st.result c.from_residual-in_err-st.ensures.1 in
    rw (e.1, e.2)
    (λ code rs hs l ps.
    let s = with_held (joined rs ps a.core) hs in
    (rw (slot_plain a.g (setup_of code a.g) s (effect.Stack a.control a.words a.aligned) refl, stack_tests_lem a.g (setup_of code a.g) s a.control a.words a.aligned, c.if-not-aligned.false, p) refl, sym (plus_none (counts_in a.counts.now))))

pub returns : goal.returns
returns c =
    let a = c.args in
    let w = size_words _ (sym c.new.ensures ∙ c.in_ok-stack.was) in
    let p = ap (λ (n : ℕ). planned a.control n a.g.lo a.g.hi a.core.specials.st a.core.specials.ss a.words) (sym w) ∙ sym c.plan.ensures ∙ c.in_ok-st.was in
    λ code rs hs l ps.
    let s = with_held (joined rs ps a.core) hs in (
      stack_carried a.g (setup_of code a.g) s a.control a.words a.aligned _ l _ _ _ _ _ _ _ (ap not c.if-not-aligned.false) p c.move_words.ensures,
      c.add.ensures ∙ ap (plus (counts_in a.counts.now)) (stack_counted a.g (setup_of code a.g) s a.control a.words a.aligned _ _ _ _ p),
    )
