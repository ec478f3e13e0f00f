-- A transfer and a trap carried out: judged, looked up, and counted.
use Rattle.std.specs.Prelude.{ℕ, Bool, true, false, not, List, [], ◌∷◌, ◌≡◌, refl, Ok, Err, Result}
use Rattle.std.proofs.Math.Path.{sym, ap}
use Rattle.std.proofs.Common.{subst, ◌∙◌}
use Rattle.answers.specs.declared.Refusal.{Refusal}
use Rattle.answers.specs.declared.Refusal.TheVariants as refusal
use Rattle.answers.specs.Test.{Verdict, Test, test, verdict}
use Rattle.answers.specs.TestLaws.{and_then, verdict_append}
use Rattle.method_cache.specs.declared.Looked.{Looked}
use Rattle.method_cache.specs.MethodCache.{capacity_ok}
use Rattle.method_cache.specs.Words.{held_in}
use Rattle.settings.specs.declared.Settings.{Settings}
use Rattle.settings.specs.Setup.{Setup, Buffers, setup_of}
use Rattle.effects.specs.declared.Transfer.{Transfer}
use Rattle.effects.specs.declared.Transfer.TheVariants.{Call}
use Rattle.effects.specs.declared.Effect.{Effect}
use Rattle.effects.specs.declared.Effect.TheVariants as effect
use Rattle.core_state.specs.State.{State, with_held, none_waits}
use Rattle.bundle_model.specs.declared.Carried.{Carried}
use Rattle.bundle_model.specs.declared.Counts.{Counts}
use Rattle.bundle_model.specs.Lookup.{bases_of, lookup_tests}
use Rattle.bundle_model.specs.Refusal.{no_handler, slot_tests}
use Rattle.bundle_model.specs.Counts.{plus, counts_in}
use Rattle.bundle_model.specs.Bundle.{buffers_after}
use Rattle.bundle_model.specs.Execute.{plainly, carried_as, unless_refused, carried_out, extra_cycles, Tallied}
use Rattle.bundle_writes.specs.Lookup.{LookedUp}

-- It writes no store: what it is carried out as is its verdict, with nothing to tell.
abbrev pub judged_as : Verdict → Result Carried Refusal
judged_as (Ok u) = plainly
judged_as (Err r) = Err r

pub judged_done : (v : Verdict) (c : Carried) → Ok c ≡ judged_as v → plainly ≡ judged_as v
judged_done (Ok u) c e = refl
judged_done (Err r) c e = cc

pub transfer_carried : (g : Settings) (x : Setup) (s : State) (delayed : Bool) (t : Transfer) (b : Buffers) (v : Verdict)
    → v ≡ verdict (test refusal.TransferWaits (not (none_waits s.transfer)) ∷ lookup_tests x.method x.code (bases_of x t))
    → carried_as (judged_as v) b ≡ carried_out g x s (effect.Transfer delayed t) b
unfolding carried_out buffers_after slot_tests
transfer_carried g x s delayed t b v e = go v ∙ ap (λ (y : Verdict). unless_refused y b (carried_as plainly b)) e
  where
    go : (v : Verdict) → carried_as (judged_as v) b ≡ unless_refused v b (carried_as plainly b)
    go (Ok u) = refl
    go (Err r) = refl

-- What it counts: its cycles beside the one of its bundle, and what the lookup counts.
abbrev looked_counts : ℕ → Looked → Counts
looked_counts cycles looked = record { bundles = 0; cycles = cycles; spilled = 0; filled = 0; misses = looked.misses; fetched = looked.fetched }

pub transfer_tallied : (g : Settings) (code : List ℕ) (s : State) (delayed : Bool) (t : Transfer) (w v c d : List ℕ) (r : Result Carried Refusal) (cycles : ℕ) (looked : Looked) → r ≡ plainly
    → capacity_ok g.method ≡ true → LookedUp g code t w v looked → cycles ≡ extra_cycles (effect.Transfer delayed t) → counts_in d ≡ plus (counts_in c) (looked_counts cycles looked)
    → Tallied r g (setup_of code g) (with_held s (held_in w)) (effect.Transfer delayed t) w v c d
transfer_tallied g code s delayed t w v c d r cycles looked e ok l p q =
    subst (λ (y : Result Carried Refusal). Tallied y g (setup_of code g) (with_held s (held_in w)) (effect.Transfer delayed t) w v c d) (sym e)
    (record {
      held = l.said ok;
      counts = q ∙ (λ i. plus (counts_in c) (record { bundles = 0; cycles = p i; spilled = 0; filled = 0; misses = l.misses i; fetched = l.fetched i }));
      fixed = l.fixed ok;
    })

-- A trap: refused by 16 or 17, or carried out as a call of its handler, whose tests come behind those two.
module _ (g : Settings) (x : Setup) (s : State) (vector handler : ℕ) (b : Buffers) where
  abbrev own : List Test
  own = test refusal.HandlerActive s.further.replay.active ∷ test refusal.NoHandler (no_handler vector handler) ∷ []

  abbrev call : Effect
  call = effect.Transfer false (Call handler)

  pub trap_refused : (n : Refusal) → verdict own ≡ Err n → carried_as (Err n) b ≡ carried_out g x s (effect.Trap vector handler) b
  unfolding carried_out buffers_after slot_tests
  trap_refused n e =
      let judged : verdict (slot_tests g x s (effect.Trap vector handler)) ≡ and_then (verdict own) (verdict (slot_tests g x s call)) = verdict_append own (slot_tests g x s call) in
      sym (ap (λ (v : Verdict). unless_refused v b (carried_as plainly b)) (judged ∙ ap (λ (v : Verdict). and_then v (verdict (slot_tests g x s call))) e))

  pub trap_carried : verdict own ≡ Ok tt → carried_out g x s call b ≡ carried_out g x s (effect.Trap vector handler) b
  unfolding carried_out buffers_after slot_tests
  trap_carried e =
      let judged : verdict (slot_tests g x s (effect.Trap vector handler)) ≡ and_then (verdict own) (verdict (slot_tests g x s call)) = verdict_append own (slot_tests g x s call) in
      sym (ap (λ (v : Verdict). unless_refused v b (carried_as plainly b)) (judged ∙ ap (λ (v : Verdict). and_then v (verdict (slot_tests g x s call))) e))
