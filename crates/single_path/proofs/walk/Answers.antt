use Prim.Native.Nat.{◌/◌, ◌+◌, ◌-◌}
use mathlib.Core.Path.{◌≡◌, refl, sym, ◌∙◌}
use native.Mathlib.Omega.{arith}
use borrow.Author.Tests.{ne_eqb}
use lib.ListN.{length}
use Rattle.answers.specs.Refusal.{number}
use Rattle.fetch.specs.FetchLaws.{found_bundle, found_inside, refused_small}
use Rattle.single_path.specs.LoopLaws.{walk_none, walk_end, walk_refused, walk_broken, walk_next}
use Rattle.single_path.specs.FoundLaws.{found_keeps, found_breaks, breaks_keeps}
use Rattle.single_path.proofs.walk.Goals as goal

pub returns-then-code-address : goal.returns-then-code-address
returns-then-code-address c =
    let l = c.loop in
    let k = c.args.code.now in
    let left = length k / 4 + 1 - l.counter in
    let m = c.args.marking in
    (sym (walk_end m k left l.address c.if-code-address.true) ∙ l.invariant.1, refl)

pub returns-in-Err : goal.returns-in-Err
returns-in-Err c =
    let l = c.loop in
    let k = c.args.code.now in
    let left = length k / 4 + 1 - l.counter in
    let m = c.args.marking in
    let n = c.in-Err.refusal in
    let e = sym c.fetch.ensures ∙ c.in-Err.is in
    (sym (walk_refused m k left l.address n (omega (arith, c.loop-test.true)) c.if-code-address.false e) ∙ l.invariant.1, rw (ne_eqb (number n) 9 (λ (z : number n ≡ 9). omega (arith, refused_small k l.address n e, z))))

pub overflow_cast-next : goal.overflow_cast-next
overflow_cast-next c =
    let k = c.args.code.now in
    let l = c.loop in
    omega (arith, found_inside k l.address _ (sym c.fetch.ensures ∙ c.in-Ok.is), c.requires)

pub returns-in-Some : goal.returns-in-Some
returns-in-Some c =
    let l = c.loop in
    let k = c.args.code.now in
    let left = length k / 4 + 1 - l.counter in
    let m = c.args.marking in
    let e = sym c.fetch.ensures ∙ c.in-Ok.is in
    let h = found_breaks m c.in-Ok.field-0.bundle _ (rw c.in-Some.is at c.judge.ensures) in
    let t = breaks_keeps m c.in-Ok.field-0.bundle _ h in
    (sym (walk_broken m k left l.address _ e (omega (arith, c.loop-test.true)) c.if-code-address.false t) ∙ l.invariant.1, rw (found_bundle k l.address _ e).0 h)

pub loop-preserved : goal.loop-preserved
loop-preserved c =
    let l = c.loop in
    let k = c.args.code.now in
    let left = length k / 4 + 1 - l.counter in
    let m = c.args.marking in
    let e = sym c.fetch.ensures ∙ c.in-Ok.is in
    let t = found_keeps m c.in-Ok.field-0.bundle (rw c.in_default.is at c.judge.ensures) in
    let n = walk_next m k left l.address _ e (omega (arith, c.loop-test.true)) c.if-code-address.false t in
    let one_less : length k / 4 + 1 - (l.counter + 1) ≡ left - 1 = omega arith in
    (found_inside k l.address _ e, rw one_less (sym n) ∙ l.invariant.1)

pub returns : goal.returns
returns c =
    let l = c.loop in
    let k = c.args.code.now in
    let left = length k / 4 + 1 - l.counter in
    let m = c.args.marking in
    (sym (walk_none m k left l.address (omega (arith, c.loop-test.false))) ∙ l.invariant.1, refl)
