use Prim.Native.Nat.{◌-◌, ◌≤◌, ◌<◌}
use mathlib.Core.Path.{◌≡◌, refl, sym, ap, subst, ◌∙◌}
use native.Mathlib.Omega.{arith}
use borrow.Author.Rules.{rules}
use lib.ListN.{length}
use Rattle.method_cache.specs.Words.{held_in, FixedHeld}
use Rattle.settings.specs.declared.Settings.{Settings}
use Rattle.settings.specs.Setup.{Buffers, buffers, lent, given_setup_of}
use Rattle.answers.specs.Answer.{Returned}
use Rattle.core_state.specs.State.{State, with_held, ended}
use Rattle.core_state.specs.Core.{joined, Canonical}
use Rattle.bundle_model.specs.declared.Counts.{Counts}
use Rattle.bundle_model.specs.Counts.{no_counts, counts_in, plus_none, Few, few_none, few_more}
use Rattle.bundle_model.specs.Bundle.{returned, outcome, counted}
use Rattle.step_laws.proofs.StackKept.{lent_same}
use Rattle.run_model.specs.RunLaws.{counted_none}
use Rattle.run_model.specs.Loop.{goes_on}
use Rattle.run_model.specs.LoopLaws.{goes_none, goes_ended, turn_stops, turn_goes_on, turn_few}
use Rattle.bundle.specs.AttemptLaws.{not_done}
use Rattle.bundle.proofs.advance.bundles.Given as goal

abbrev pub invariant-loop : goal.invariant-loop
invariant-loop l =
    (l.counter ≤ l.budget) × Few l.counter (counts_in l.counts) × (length l.main ≡ length l.initial.main) × (length l.local ≡ length l.initial.local) × (length l.cache ≡ length l.initial.cache)
    × (counted (counts_in l.counts) (goes_on (given_setup_of l.given l.g) (l.budget - l.counter) (with_held (joined l.registers l.predicates l.core) (held_in l.held)) (buffers l.main l.local l.cache))
    ≡ goes_on (given_setup_of l.given l.g) l.budget (with_held (joined l.initial.registers l.initial.predicates l.initial.core) (held_in l.initial.held)) (buffers l.initial.main l.initial.local l.initial.cache))
    × (Canonical l.initial.core → Canonical l.core) × (FixedHeld l.initial.held → FixedHeld l.held)
