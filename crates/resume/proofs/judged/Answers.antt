use mathlib.Core.Bool.{true, false, not, ◌&&◌}
use Rattle.resume.specs.GoingLaws.{judged_as_lem}
use Rattle.resume.specs.Resumed.{judged_by}
use Rattle.method_cache.specs.Words.{held_in}
use Rattle.core_state.specs.declared.Core.{Core}
use Rattle.core_state.specs.Core.{joined}
use Rattle.core_state.specs.State.{with_held}
use Rattle.state.specs.Whole.{core_joined}
use Rattle.settings.specs.Setup.{given_setup}
use mathlib.Core.Path.{◌≡◌, refl, ap, ◌∙◌}
use borrow.Author.Rules.{rules}
use Rattle.resume.proofs.judged.Goals as goal

pub returns-then-not-parts-held_ok : goal.returns-then-not-parts-held_ok
returns-then-not-parts-held_ok c =
    let a = c.args in
    let s = a.state in
    let x = given_setup a.given.now in
    let core = ap (λ (k : Core). with_held (joined s.registers s.predicates k) (held_in s.held)) c.core.ensures ∙ core_joined s in
    let bad : not (c.parts_ok-parts.result && c.held_ok.result) ≡ true = ap not c.if-not-parts-held_ok.true in
    rw bad at (judged_as_lem x (joined s.registers s.predicates c.core.result) (held_in s.held) c.parts_ok-parts.result c.held_ok.result _ c.parts_ok-parts.ensures c.held_ok.ensures refl)
    ∙ ap (judged_by x) core

pub returns-then-not-replay_ok : goal.returns-then-not-replay_ok
returns-then-not-replay_ok c =
    let a = c.args in
    let s = a.state in
    let x = given_setup a.given.now in
    let core = ap (λ (k : Core). with_held (joined s.registers s.predicates k) (held_in s.held)) c.core.ensures ∙ core_joined s in
    let fine : not (c.parts_ok-parts.result && c.held_ok.result) ≡ false = ap not c.if-not-parts-held_ok.false in
    rw (fine, ap not c.if-not-replay_ok.true) at (judged_as_lem x (joined s.registers s.predicates c.core.result) (held_in s.held) c.parts_ok-parts.result c.held_ok.result c.replay_ok.result c.parts_ok-parts.ensures c.held_ok.ensures c.replay_ok.ensures)
    ∙ ap (judged_by x) core

pub returns : goal.returns
returns c =
    let a = c.args in
    let s = a.state in
    let x = given_setup a.given.now in
    let core = ap (λ (k : Core). with_held (joined s.registers s.predicates k) (held_in s.held)) c.core.ensures ∙ core_joined s in
    let fine : not (c.parts_ok-parts.result && c.held_ok.result) ≡ false = ap not c.if-not-parts-held_ok.false in
    rw (fine, ap not c.if-not-replay_ok.false) at (judged_as_lem x (joined s.registers s.predicates c.core.result) (held_in s.held) c.parts_ok-parts.result c.held_ok.result c.replay_ok.result c.parts_ok-parts.ensures c.held_ok.ensures c.replay_ok.ensures)
    ∙ ap (judged_by x) core
