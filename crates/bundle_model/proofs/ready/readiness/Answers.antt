use mathlib.Core.Path.{refl}
use Rattle.method_cache.specs.Words.{held_in}
use Rattle.settings.specs.Setup.{given_setup_of}
use Rattle.core_state.specs.Core.{joined}
use Rattle.bundle_model.proofs.BundleLaws.{ready_as}
use Rattle.bundle_model.proofs.ready.readiness.Goals as goal

pub returns-then-not-admits : goal.returns-then-not-admits
returns-then-not-admits c =
    let a = c.args in
    let s = joined a.registers.now a.predicates.now a.core in
    let x = given_setup_of a.given.now a.g in
    rw c.if-not-admits.true at
    (ready_as a.g x s (held_in a.held.now) c.admits.result _ _ _ _
    c.admits.ensures refl refl refl refl)

pub returns-then-not-parts_ok-held_ok : goal.returns-then-not-parts_ok-held_ok
returns-then-not-parts_ok-held_ok c =
    let a = c.args in
    let s = joined a.registers.now a.predicates.now a.core in
    let x = given_setup_of a.given.now a.g in
    rw (c.if-not-admits.false, c.if-not-parts_ok-held_ok.true) at
    (ready_as a.g x s (held_in a.held.now) c.admits.result c.parts_ok.result c.held_ok.result _ _
    c.admits.ensures c.parts_ok.ensures c.held_ok.ensures refl refl)

pub returns-then-not-replay_ok : goal.returns-then-not-replay_ok
returns-then-not-replay_ok c =
    let a = c.args in
    let s = joined a.registers.now a.predicates.now a.core in
    let x = given_setup_of a.given.now a.g in
    rw (c.if-not-admits.false, c.if-not-parts_ok-held_ok.false, c.if-not-replay_ok.true) at
    (ready_as a.g x s (held_in a.held.now) c.admits.result c.parts_ok.result c.held_ok.result c.replay_ok.result _
    c.admits.ensures c.parts_ok.ensures c.held_ok.ensures c.replay_ok.ensures refl)

pub returns-then-has_ended : goal.returns-then-has_ended
returns-then-has_ended c =
    let a = c.args in
    let s = joined a.registers.now a.predicates.now a.core in
    let x = given_setup_of a.given.now a.g in
    rw (c.if-not-admits.false, c.if-not-parts_ok-held_ok.false, c.if-not-replay_ok.false, c.if-has_ended.true) at
    (ready_as a.g x s (held_in a.held.now) c.admits.result c.parts_ok.result c.held_ok.result c.replay_ok.result c.has_ended.result
    c.admits.ensures c.parts_ok.ensures c.held_ok.ensures c.replay_ok.ensures (c.has_ended.ensures _ _))

pub returns : goal.returns
returns c =
    let a = c.args in
    let s = joined a.registers.now a.predicates.now a.core in
    let x = given_setup_of a.given.now a.g in
    rw (c.if-not-admits.false, c.if-not-parts_ok-held_ok.false, c.if-not-replay_ok.false, c.if-has_ended.false) at
    (ready_as a.g x s (held_in a.held.now) c.admits.result c.parts_ok.result c.held_ok.result c.replay_ok.result c.has_ended.result
    c.admits.ensures c.parts_ok.ensures c.held_ok.ensures c.replay_ok.ensures (c.has_ended.ensures _ _))
