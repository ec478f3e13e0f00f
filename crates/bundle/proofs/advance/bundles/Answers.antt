use borrow.Enum.Refused.{opened}
use Prim.Native.Nat.{ℕ, ◌+◌, ◌-◌, ◌≤◌, ◌<◌}
use mathlib.Core.Path.{◌≡◌, refl, sym, ap, subst, ◌∙◌}
use native.Mathlib.Omega.{arith}
use borrow.Author.Rules.{rules}
use lib.ListN.{length}
use Rattle.method_cache.specs.Words.{held_in, FixedHeld}
use Rattle.settings.specs.declared.Settings.{Settings}
use Rattle.settings.specs.Setup.{Buffers, buffers, lent, given_setup_of}
use Rattle.answers.specs.Answer.{Returned}
use Rattle.core_state.specs.State.{State, with_held, ended}
use Rattle.core_state.specs.Core.{joined, Canonical}
use Rattle.bundle_model.specs.declared.Counts.{Counts}
use Rattle.bundle_model.specs.Counts.{no_counts, counts_in, plus_none, Few, few_none, few_more}
use Rattle.bundle_model.specs.Bundle.{returned, outcome, counted}
use Rattle.step_laws.proofs.StackKept.{lent_same}
use Rattle.run_model.specs.RunLaws.{counted_none}
use Rattle.run_model.specs.Loop.{goes_on}
use Rattle.run_model.specs.LoopLaws.{goes_none, goes_ended, turn_stops, turn_goes_on, turn_few}
use Rattle.bundle.specs.AttemptLaws.{not_done}
use Rattle.bundle.proofs.advance.bundles.Goals as goal

stopped-here : (c : Counts) (a : Returned) (s : State) (b : Buffers) → outcome a s c b ≡ counted c (outcome a s no_counts b)
stopped-here c a s b = ap (λ (d : Counts). outcome a s d b) (sym (plus_none c))

all : (k : ℕ) → k - 0 ≡ k
all k = omega arith

pub loop-init : goal.loop-init
loop-init c = (
  search rules,
  subst (Few _) (sym c.requires.2) (few_none _),
  refl,
  refl,
  refl,
  rw (all c.args.budget) (ap (λ (n : Counts). counted n (goes_on (given_setup_of c.args.given c.args.g) c.args.budget (with_held (joined c.args.registers.now c.args.predicates.now c.args.start) (held_in c.args.held.now)) (buffers c.args.main.now c.args.local.now c.args.cache.now))) c.requires.2 ∙ counted_none _),
  λ k. k,
  λ f. f,
)

pub shape_of-main-then-has_ended : goal.shape_of-main-then-has_ended
shape_of-main-then-has_ended c = c.loop.invariant.2

pub shape_of-local-then-has_ended : goal.shape_of-local-then-has_ended
shape_of-local-then-has_ended c = c.loop.invariant.3

pub shape_of-cache-then-has_ended : goal.shape_of-cache-then-has_ended
shape_of-cache-then-has_ended c = c.loop.invariant.4

pub returns-then-has_ended : goal.returns-then-has_ended
unfolding ended
returns-then-has_ended c =
    let l = c.loop in
    let left = c.args.budget - l.counter in
    let going = rw (ap (λ (y : Settings). y.code) c.requires.1) at (sym (c.has_ended.ensures l.registers l.predicates) ∙ c.if-has_ended.true) in
    record {
      given = stopped-here (counts_in l.counts) _ _ _ ∙ sym (ap (counted (counts_in l.counts)) (goes_ended (given_setup_of c.args.given c.args.g) left (with_held (joined l.registers l.predicates l.core) (held_in l.held)) _ (omega (arith, c.loop-test.true)) going)) ∙ l.invariant.5;
      canonical = l.invariant.6;
      held = l.invariant.7;
    }

pub attempt-r-requires : goal.attempt-r-requires
attempt-r-requires c =
    let l = c.loop in
    (c.requires.0, ap (λ (y : Settings). y.main) c.requires.1 ∙ sym l.invariant.2, ap (λ (y : Settings). y.code) c.requires.1, few_more _ 4294967294 _ (omega (arith, c.ranges.budget.fits, c.loop-test.true)) l.invariant.1)

pub returns-in_default : goal.returns-in_default
unfolding ended
returns-in_default c =
    let l = c.loop in
    let left = c.args.budget - l.counter in
    let r = c.attempt-r in
    let same : c.args.g ≡ lent (given_setup_of c.args.given c.args.g) (buffers l.main l.local l.cache)
    = c.requires.1 ∙ sym (lent_same (given_setup_of c.args.given c.args.g) (buffers c.args.main.now c.args.local.now c.args.cache.now) (buffers l.main l.local l.cache) (record { main = l.invariant.2; local = l.invariant.3; cache = l.invariant.4 })) in
    let going = rw (ap (λ (y : Settings). y.code) c.requires.1) at (sym (c.has_ended.ensures l.registers l.predicates) ∙ c.if-has_ended.false) in
    let more : 0 < left = omega (arith, c.loop-test.true) in
    record {
      given = turn_stops _ _ _ _ (counts_in l.counts) _ r.ensures.given same left more going (not_done r.result.answer (opened c.in_default.in_default-own.keys2)) ∙ l.invariant.5;
      canonical = λ k. r.ensures.canonical (l.invariant.6 k);
      held = λ f. r.ensures.held (l.invariant.7 f);
    }

pub loop-preserved : goal.loop-preserved
unfolding ended
loop-preserved c =
    let l = c.loop in
    let left = c.args.budget - l.counter in
    let before : l.counter ≡ c.args.budget - left = omega (arith, c.loop-test.true) in
    let after : c.args.budget - (left - 1) ≡ l.counter + 1 = omega (arith, c.loop-test.true) in
    let one_less : c.args.budget - (l.counter + 1) ≡ left - 1 = omega arith in
    let r = c.attempt-r in
    let same : c.args.g ≡ lent (given_setup_of c.args.given c.args.g) (buffers l.main l.local l.cache)
    = c.requires.1 ∙ sym (lent_same (given_setup_of c.args.given c.args.g) (buffers c.args.main.now c.args.local.now c.args.cache.now) (buffers l.main l.local l.cache) (record { main = l.invariant.2; local = l.invariant.3; cache = l.invariant.4 })) in
    let going = rw (ap (λ (y : Settings). y.code) c.requires.1) at (sym (c.has_ended.ensures l.registers l.predicates) ∙ c.if-has_ended.false) in
    let more : 0 < left = omega (arith, c.loop-test.true) in (
      omega (arith, c.loop-test.true),
      subst (λ (n : ℕ). Few n (counts_in r.new.counts)) after (turn_few _ _ _ _ (counts_in l.counts) _ r.ensures.given same left more going c.args.budget (omega arith) c.requires.0 (subst (λ (n : ℕ). Few n (counts_in l.counts)) before l.invariant.1)),
      r.auto.main ∙ l.invariant.2,
      r.auto.local ∙ l.invariant.3,
      r.auto.cache ∙ l.invariant.4,
      rw one_less (turn_goes_on _ _ _ _ (counts_in l.counts) _ r.ensures.given same left more going (ap returned c.in-Done.is)) ∙ l.invariant.5,
      λ k. r.ensures.canonical (l.invariant.6 k),
      λ f. r.ensures.held (l.invariant.7 f),
    )

pub shape_of-main : goal.shape_of-main
shape_of-main c = c.loop.invariant.2

pub shape_of-local : goal.shape_of-local
shape_of-local c = c.loop.invariant.3

pub shape_of-cache : goal.shape_of-cache
shape_of-cache c = c.loop.invariant.4

pub returns : goal.returns
returns c =
    let l = c.loop in
    let left = c.args.budget - l.counter in
    record {
      given = stopped-here (counts_in l.counts) _ _ _ ∙ sym (ap (counted (counts_in l.counts)) (goes_none (given_setup_of c.args.given c.args.g) left (with_held (joined l.registers l.predicates l.core) (held_in l.held)) _ (omega (arith, c.loop-test.false)))) ∙ l.invariant.5;
      canonical = l.invariant.6;
      held = l.invariant.7;
    }
