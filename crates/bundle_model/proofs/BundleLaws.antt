-- A bundle by what is fetched: refused, or executed.
use Rattle.std.specs.Prelude.{ℕ, Bool, not, ◌&&◌, List, ◌≡◌, Ok, Err}
use Rattle.std.proofs.Math.Bool.{true, false, cond}
use Rattle.std.proofs.Math.Path.{refl, ap}
use Rattle.std.proofs.Common.{◌∙◌}
use Rattle.answers.specs.declared.Refusal.{Refusal}
use Rattle.answers.specs.declared.Refusal.TheVariants as refusal
use Rattle.answers.specs.Refusal.{number}
use Rattle.answers.specs.Answer.{refused}
use Rattle.answers.specs.TestLaws.{verdict_append}
use Rattle.isa.specs.declared.Bundle.{Bundle}
use Rattle.method_cache.specs.MethodCache.{held_ok}
use Rattle.settings.specs.declared.Settings.{Settings}
use Rattle.settings.specs.Setup.{Setup, Buffers}
use Rattle.settings.specs.Settings.{admits}
use Rattle.replay.specs.Replay.{replay_ok}
use Rattle.fetch.specs.declared.Fetched.{Fetched}
use Rattle.fetch.specs.Fetch.{bundle_at, following_at, fetch_tests, fetched}
use Rattle.fetch.specs.FetchLaws.{refused_verdict, found_verdict, found_bundle}
use Rattle.effects.specs.Effect.{slot_one, slot_two}
use Rattle.core_state.specs.State.{State, start_of, with_held, parts_ok, ended}
use Rattle.bundle_model.specs.declared.Readiness.TheVariants as ready
use Rattle.bundle_model.specs.Counts.{no_counts}
use Rattle.bundle_model.specs.Refusal.{slot_tests}
use Rattle.bundle_model.specs.Bundle.{outcome, bundle, well_formed, readiness}
use Rattle.bundle_model.specs.Execute.{executed}

module _ (g : Settings) (x : Setup) (s : State) (b : Buffers) where
  pub bundle_refused : (r : Refusal) → fetched x.code s.fetch ≡ Err r → bundle g x s b ≡ outcome (refused (number r)) s no_counts b
  unfolding bundle
  bundle_refused r e =
      rw (verdict_append (fetch_tests x.code s.fetch) (slot_tests g x s (slot_one (start_of x.table s) (bundle_at x.code s.fetch))), refused_verdict x.code s.fetch r e)

  pub bundle_found : (f : Fetched) → fetched x.code s.fetch ≡ Ok f
      → bundle g x s b ≡ executed g x s (slot_one (start_of x.table s) f.bundle) (slot_two (start_of x.table s) f.bundle) f.following b
  unfolding bundle executed
  bundle_found f e =
      let there = bundle_at x.code s.fetch in
      let after = following_at x.code s.fetch in
      let told = found_bundle x.code s.fetch f e in
      let here : bundle g x s b ≡ executed g x s (slot_one (start_of x.table s) there) (slot_two (start_of x.table s) there) after b
      = rw (verdict_append (fetch_tests x.code s.fetch) (slot_tests g x s (slot_one (start_of x.table s) there)), found_verdict x.code s.fetch f e) in
      here
      ∙ ap (λ (j : Bundle). executed g x s (slot_one (start_of x.table s) j) (slot_two (start_of x.table s) j) after b) told.0
      ∙ ap (λ (n : ℕ). executed g x s (slot_one (start_of x.table s) f.bundle) (slot_two (start_of x.table s) f.bundle) n b) told.1

-- A bundle is tried under settings inside the limits, from a well-formed state that has not ended.
module _ (g : Settings) (x : Setup) (s : State) where
  ready_all : readiness g x s ≡ ready.Ready → (admits g ≡ true) × (well_formed x s ≡ true) × (replay_ok x.list x.table ≡ true) × (ended s g.code ≡ false)
  unfolding readiness
  ready_all = go (admits g) (well_formed x s) (replay_ok x.list x.table) (ended s g.code) refl refl refl refl
    where
      go : (u y w z : Bool) → admits g ≡ u → well_formed x s ≡ y → replay_ok x.list x.table ≡ w → ended s g.code ≡ z
          → cond (not u) (ready.Refused refusal.Limits) (cond (not y) (ready.Refused refusal.IllFormed) (cond (not w) (ready.Refused refusal.Replay) (cond z ready.Ended ready.Ready))) ≡ ready.Ready → (admits g ≡ true) × (well_formed x s ≡ true) × (replay_ok x.list x.table ≡ true) × (ended s g.code ≡ false)
      go true true true false p q v r e = (p, q, v, r)
      go true true true true p q v r e = (cc, cc, cc, cc)
      go true true false z p q v r e = (cc, cc, cc, cc)
      go true false w z p q v r e = (cc, cc, cc, cc)
      go false y w z p q v r e = (cc, cc, cc, cc)

  pub ready_admits : readiness g x s ≡ ready.Ready → admits g ≡ true
  ready_admits e = (ready_all e).0

  pub ready_well_formed : readiness g x s ≡ ready.Ready → well_formed x s ≡ true
  ready_well_formed e = (ready_all e).1

  pub ready_not_ended : readiness g x s ≡ ready.Ready → ended s g.code ≡ false
  ready_not_ended e = (ready_all e).3

  pub ready_replay : readiness g x s ≡ ready.Ready → replay_ok x.list x.table ≡ true
  ready_replay e = (ready_all e).2

-- What is judged of a state whose blocks held are lent beside it, of what its parts were judged.
pub ready_as : (g : Settings) (x : Setup) (s : State) (h : List ℕ) (a p q r e : Bool) → a ≡ admits g → p ≡ parts_ok s → q ≡ held_ok x.method x.code h → r ≡ replay_ok x.list x.table
    → e ≡ ended s g.code
    → cond (not a) (ready.Refused refusal.Limits) (cond (not (p && q)) (ready.Refused refusal.IllFormed) (cond (not r) (ready.Refused refusal.Replay) (cond e ready.Ended ready.Ready))) ≡ readiness g x (with_held s h)
unfolding readiness well_formed parts_ok ended
ready_as g x s h a p q r e pa pp pq pr pe =
    λ i. cond (not (pa i)) (ready.Refused refusal.Limits) (cond (not (pp i && pq i)) (ready.Refused refusal.IllFormed) (cond (not (pr i)) (ready.Refused refusal.Replay) (cond (pe i) ready.Ended ready.Ready)))
