-- Laws of a decoded bundle: slot one carried out, and the bundle as a whole.
use Rattle.std.specs.Prelude.{ℕ, ◌+◌, ◌-◌, ◌^◌, ◌≤◌, Bool, true, false, not, cond, ◌||◌, length, List, [], ◌++◌, ◌≡◌, Ok, Err, Result}
use Rattle.std.proofs.Common.{append-nil, ◌∙◌, arith, add-zero}
use Rattle.std.proofs.Math.Path.{refl, sym, ap}
use Rattle.answers.specs.declared.Refusal.{Refusal}
use Rattle.answers.specs.Refusal.{number}
use Rattle.stack_cache.specs.declared.StackControl.{StackControl}
use Rattle.stack_cache.specs.declared.StackControl.TheVariants.{Sres, Sens, Sfree, Sspill}
use Rattle.stack_cache.specs.declared.Plan.{Plan}
use Rattle.stack_control.specs.PlanLaws.{planned_told}
use Rattle.stack_cache.specs.Stack.{bad_window, bad_amount, moved_outside, planned, top_after, spill_after, spills, fills, moves}
use Rattle.method_cache.specs.MethodCache.{misses, words_fetched}
use Rattle.settings.specs.declared.Settings.{Settings}
use Rattle.isa.specs.declared.AccessKind.{AccessKind}
use Rattle.isa.specs.declared.LoadWidth.{LoadWidth}
use Rattle.isa.specs.declared.StoreWidth.{StoreWidth}
use Rattle.memory.specs.Access.{store_scale, loaded_value, stored, main_open, load_tests, store_tests}
use Rattle.core_state.specs.State.{State, with_held, landed, arrived}
use Rattle.alu_effects.specs.declared.AluEffect.{AluEffect}
use Rattle.effects.specs.declared.Transfer.{Transfer}
use Rattle.effects.specs.declared.Transfer.TheVariants.{Br, Call, Block, Xret}
use Rattle.effects.specs.declared.Effect.{Effect}
use Rattle.effects.specs.declared.Effect.TheVariants as effect
use Rattle.answers.specs.declared.Refusal.TheVariants as refusal
use Rattle.answers.specs.Answer.{done, refused}
use Rattle.answers.specs.Test.{Verdict, Test, verdict}
use Rattle.settings.specs.Setup.{Setup, replaying, Buffers, buffers}
use Rattle.bundle_model.specs.declared.Carried.{Carried}
use Rattle.bundle_model.specs.declared.Counts.{Counts}
use Rattle.bundle_model.specs.Lookup.{bases_of, lookups, lookup_tests, held_by}
use Rattle.bundle_model.specs.Refusal.{effect_tests, slot_tests}
use Rattle.bundle_model.specs.Counts.{no_counts, plus, plus_plus}
use Rattle.core_state.specs.Writes.{write_alu}
use Rattle.bundle_model.specs.Bundle.{Outcome, outcome, counted, written, state_done, write_one, onward, undelayed_cycles, cycles_of, counts_of, buffers_after, refused_or, stack_moved}
use Rattle.bundle_model.proofs.HeldLaws.{written_held}
use Rattle.bundle_model.specs.Execute.{executed, CarriedOut, plainly, loading, carried_as, unless_refused, loaded_by, top_by, spill_by, carried_out, extra_cycles, extra_of, one_cycle, write_done, Moved, carrying}

-- An effect that looks nothing up is refused as its own tests say.
pub slot_plain : (g : Settings) (x : Setup) (s : State) (e : Effect) → lookups x e ≡ [] → slot_tests g x s e ≡ effect_tests g x s e
unfolding slot_tests lookup_tests
slot_plain g x s e p = ap (λ (l : List ℕ). effect_tests g x s e ++ lookup_tests x.method x.code l) p ∙ append-nil (effect_tests g x s e)

-- a stack instruction is refused as its plan is
abbrev pub plan_verdict : Result Plan Refusal → Verdict
plan_verdict (Err r) = Err r
plan_verdict (Ok p) = Ok tt

pub stack_tests_lem : (g : Settings) (x : Setup) (s : State) (c : StackControl) (n : ℕ) (m : Bool)
    → verdict (effect_tests g x s (effect.Stack c n m)) ≡ cond (not m) (Err refusal.Misaligned) (plan_verdict (planned c g.words x.lo x.hi s.specials.st s.specials.ss n))
unfolding verdict planned
stack_tests_lem g x s c n m =
    ap (λ (v : Verdict). cond (not m) (Err refusal.Misaligned) v)
    (go (bad_window g.words s.specials.st s.specials.ss || bad_amount c g.words s.specials.st n) (moved_outside c g.words x.lo x.hi s.specials.st s.specials.ss n))
  where
    go : (x y : Bool) → cond x (Err refusal.Window) (cond y (Err refusal.MoveOutside) (Ok tt)) ≡ plan_verdict (cond x (Err refusal.Window) (cond y (Err refusal.MoveOutside)
        (Ok (moves (top_after c s.specials.st n) (spill_after c g.words s.specials.st s.specials.ss n) (length (spills c g.words s.specials.st s.specials.ss n)) (length (fills c s.specials.st s.specials.ss n))))))
    go true y = refl
    go false true = refl
    go false false = refl

-- no stack instruction spills and fills
pub one_way : (c : StackControl) (w st ss n j k : ℕ) → j ≡ length (spills c w st ss n) → k ≡ length (fills c st ss n) → (k ≡ 0 → ⊥) → j ≡ 0
unfolding spills fills
one_way Sres w st ss n j k p q r = absurd (r q)
one_way Sens w st ss n j k p q r = p
one_way Sfree w st ss n j k p q r = p
one_way Sspill w st ss n j k p q r = absurd (r q)

-- a stack instruction that its plan lets pass, carried out
pub stack_carried : (g : Settings) (x : Setup) (s : State) (c : StackControl) (n : ℕ) (m : Bool)
    (main local cache main' cache' : List ℕ) (st' ss' j k : ℕ) → not m ≡ false
    → planned c g.words x.lo x.hi s.specials.st s.specials.ss n ≡ Ok (moves st' ss' j k)
    → Moved x.lo x.hi s.specials.ss j k main cache main' cache'
    → carried_as (Ok (carrying 0 st' ss')) (buffers main' local cache') ≡ carried_out g x s (effect.Stack c n m) (buffers main local cache)
unfolding carried_out buffers_after stack_moved
stack_carried g x s c n m main local cache main' cache' st' ss' j k p e v =
    let t = planned_told c g.words x.lo x.hi s.specials.st s.specials.ss n st' ss' j k e in
    rw (slot_plain g x s (effect.Stack c n m) refl, stack_tests_lem g x s c n m, p, e, ← t.top, ← t.spill, t.words_below, t.words_above, ← v.memory, ← v.words)

-- loads and stores, which look nothing up
pub load_carried : (g : Settings) (x : Setup) (s : State) (k : AccessKind) (w : LoadWidth) (r a : ℕ) (b : Buffers) (o : CarriedOut)
    → o ≡ unless_refused (verdict (load_tests g x s.specials.st s.specials.ss k w a)) b (carried_as (loading (loaded_value b k w a)) b) → o ≡ carried_out g x s (effect.Load k w r a) b
unfolding carried_out buffers_after
load_carried g x s k w r a b o e =
    e ∙ sym (ap (λ (ts : List Test). unless_refused (verdict ts) b (carried_as (loading (loaded_value b k w a)) b)) (slot_plain g x s (effect.Load k w r a) refl))

pub store_carried : (g : Settings) (x : Setup) (s : State) (k : AccessKind) (w : StoreWidth) (a v : ℕ) (b : Buffers) (o : CarriedOut)
    → o ≡ unless_refused (verdict (store_tests g x s.specials.st s.specials.ss k w a)) b (carried_as plainly (stored b k (2 ^ store_scale w) a v)) → o ≡ carried_out g x s (effect.Store k w a v) b
unfolding carried_out buffers_after
store_carried g x s k w a v b o e =
    e ∙ sym (ap (λ (ts : List Test). unless_refused (verdict ts) b (carried_as plainly (stored b k (2 ^ store_scale w) a v))) (slot_plain g x s (effect.Store k w a v) refl))

-- what slot one writes is what its effect writes
pub write_done_lem : (g : Settings) (b : Buffers) (s onto : State) (one : Effect)
    → write_done one (loaded_by b one) (top_by s one) (spill_by g s one) onto ≡ write_one g b s one onto
unfolding write_done write_one
write_done_lem g b s onto (effect.Alu a) = refl
write_done_lem g b s onto (effect.Special d v) = refl
write_done_lem g b s onto (effect.Product l h) = refl
write_done_lem g b s onto (effect.Load k w r a) = refl
write_done_lem g b s onto (effect.Store k w a v) = refl
write_done_lem g b s onto (effect.Stack c n m) = refl
write_done_lem g b s onto (effect.Transfer d t) = refl
write_done_lem g b s onto (effect.Trap n handler) = refl

-- What slot one counts, with the one cycle of every bundle, is what the bundle counts.
extra_one : (g : Settings) (x : Setup) (s : State) (e : Effect) → plus (extra_of g x s e) one_cycle ≡ counts_of g x s e
extra_one g x s e =
    λ i. record {
      bundles = 1;
      cycles = cycles e i;
      spilled = add-zero (counts_of g x s e).spilled i;
      filled = add-zero (counts_of g x s e).filled i;
      misses = add-zero (counts_of g x s e).misses i;
      fetched = add-zero (counts_of g x s e).fetched i;
    }
  where
    undelayed : (t : Transfer) → undelayed_cycles t - 1 + 1 ≡ undelayed_cycles t
    undelayed (Br target) = refl
    undelayed (Call target) = refl
    undelayed (Block target base) = refl
    undelayed (Xret target base) = refl

    transferring : (d : Bool) (t : Transfer) → cond d 0 (undelayed_cycles t - 1) + 1 ≡ cond d 1 (undelayed_cycles t)
    transferring true t = refl
    transferring false t = undelayed t

    cycles : (e : Effect) → extra_cycles e + 1 ≡ cycles_of e
    cycles (effect.Alu a) = refl
    cycles (effect.Special d v) = refl
    cycles (effect.Product l h) = refl
    cycles (effect.Load k w r a) = refl
    cycles (effect.Store k w a v) = refl
    cycles (effect.Stack c n m) = refl
    cycles (effect.Transfer d t) = transferring d t
    cycles (effect.Trap n handler) = refl

pub counted_one : (g : Settings) (x : Setup) (s : State) (e : Effect) (c m : Counts) → m ≡ plus c (extra_of g x s e) → plus m one_cycle ≡ plus c (counts_of g x s e)
counted_one g x s e c m p = ap (λ (y : Counts). plus y one_cycle) p ∙ plus_plus c (extra_of g x s e) one_cycle ∙ ap (plus c) (extra_one g x s e)

pub extra_few : (d : Bool) (t : Transfer) → extra_cycles (effect.Transfer d t) ≤ 3
extra_few true t = omega arith
extra_few false (Br target) = omega arith
extra_few false (Call target) = omega arith
extra_few false (Block target base) = omega arith
extra_few false (Xret target base) = omega arith

-- a bundle by what its slot one was carried out as: refused, or done. The blocks that it finds held are put into a state s.
module _ (g : Settings) (x : Setup) (t : State) (h : List ℕ) (one : Effect) (two : AluEffect) (following : ℕ) (b b' : Buffers) where
  s : State
  s = with_held t h

  abbrev done_as : Result Carried Refusal
  done_as = Ok (carrying (loaded_by b one) (top_by s one) (spill_by g s one))

  -- The carried-out slot tells how the bundle was judged.
  refused_verdict : (n : Refusal) (v : Verdict) → carried_as (Err n) b' ≡ unless_refused v b (carried_as done_as (buffers_after g x s one b)) → (v ≡ Err n) × (b ≡ b')
  refused_verdict n (Ok u) e =
      let p : Err n ≡ done_as = ap (λ (c : CarriedOut). c.carried) e in
      (cc, cc)
  refused_verdict n (Err m) e =
      let p : ◌≡◌ {A = Result Carried Refusal} (Err n) (Err m) = ap (λ (c : CarriedOut). c.carried) e in
      let k : n ≡ m = cc in
      (ap Err (sym k), sym (ap (λ (c : CarriedOut). c.buffers) e))

  pub executed_refused : (n : Refusal) (o : Outcome) (c d : Counts) (v : List ℕ) → carried_as (Err n) b' ≡ carried_out g x (with_held t h) one b
      → o ≡ outcome (refused (number n)) (with_held t v) d b' → v ≡ h → d ≡ plus c no_counts → o ≡ counted c (executed g x (with_held t h) one two following b)
  unfolding carried_out executed s
  executed_refused n o c d v e p q r =
      let f = refused_verdict n (verdict (slot_tests g x s one)) e in
      p
      ∙ (λ i. outcome (refused (number n)) (with_held t (q i)) (r i) (sym f.1 i))
      ∙ sym (ap (λ (w : Verdict). counted c (refused_or w s b (outcome done (state_done g x b s one two following) (counts_of g x s one) (buffers_after g x s one b)))) f.0)

  done_verdict : (l st ss : ℕ) (v : Verdict) → carried_as (Ok (carrying l st ss)) b' ≡ unless_refused v b (carried_as done_as (buffers_after g x s one b))
      → (v ≡ Ok tt) × (l ≡ loaded_by b one) × (st ≡ top_by s one) × (ss ≡ spill_by g s one) × (b' ≡ buffers_after g x s one b)
  done_verdict l st ss (Ok u) e =
      let p : Ok (carrying l st ss) ≡ done_as = ap (λ (c : CarriedOut). c.carried) e in
      let q : carrying l st ss ≡ carrying (loaded_by b one) (top_by s one) (spill_by g s one) = cc in
      (refl, ap (λ (c : Carried). c.value) q, ap (λ (c : Carried). c.st) q, ap (λ (c : Carried). c.ss) q, ap (λ (c : CarriedOut). c.buffers) e)
  done_verdict l st ss (Err m) e =
      let p : ◌≡◌ {A = Result Carried Refusal} (Ok (carrying l st ss)) (Err m) = ap (λ (c : CarriedOut). c.carried) e in
      (cc, cc, cc, cc, cc)

  -- No test refuses a slot one that was done.
  pub done_fine : (l st ss : ℕ) → carried_as (Ok (carrying l st ss)) b' ≡ carried_out g x (with_held t h) one b → verdict (slot_tests g x (with_held t h) one) ≡ Ok tt
  unfolding carried_out s
  done_fine l st ss e = (done_verdict l st ss (verdict (slot_tests g x s one)) e).0

  -- What is written of what slot one was carried out as.
  as_written : (l st ss : ℕ) → l ≡ loaded_by b one → st ≡ top_by t one → ss ≡ spill_by g t one
      → onward one t.transfer following (write_alu two (write_done one l st ss (arrived (landed t)))) ≡ written g b t one two following
  unfolding written
  as_written l st ss pl pt ps = rw (pl, pt, ps, write_done_lem g b t (arrived (landed t)) one) refl

  pub executed_done : (l st ss : ℕ) (o : Outcome) (c d : Counts) (u : State) (v : List ℕ) → carried_as (Ok (carrying l st ss)) b' ≡ carried_out g x (with_held t h) one b
      → o ≡ outcome done (with_held u v) d b' → u ≡ onward one t.transfer following (write_alu two (write_done one l st ss (arrived (landed t))))
      → v ≡ held_by x (with_held t h) one → d ≡ plus (plus c (extra_of g x (with_held t h) one)) one_cycle
      → o ≡ counted c (executed g x (with_held t h) one two following b)
  unfolding carried_out executed s
  executed_done l st ss o c d u v e p q r z =
      let f = done_verdict l st ss (verdict (slot_tests g x s one)) e in
      let w : u ≡ written g b t one two following = q ∙ as_written l st ss f.1 f.2 f.3 in
      let k : d ≡ plus c (counts_of g x s one) = z ∙ plus_plus c (extra_of g x s one) one_cycle ∙ ap (plus c) (extra_one g x s one) in
      p
      ∙ (λ i. outcome done (with_held (w i) (r i)) (k i) (f.4 i))
      ∙ ap (λ (y : State). outcome done (with_held y (held_by x s one)) (plus c (counts_of g x s one)) (buffers_after g x s one b)) (sym (written_held h g b t one two following))
      ∙ sym (ap (λ (w : Verdict). counted c (refused_or w s b (outcome done (state_done g x b s one two following) (counts_of g x s one) (buffers_after g x s one b)))) f.0)

-- What is replayed is read before: of a decoded bundle nothing depends on it.
pub executed_replay : (list table : List ℕ) (g : Settings) (x : Setup) (s : State) (one : Effect) (two : AluEffect) (following : ℕ) (b : Buffers)
    → executed g x s one two following b ≡ executed g (replaying list table x) s one two following b
unfolding executed slot_tests bases_of buffers_after stack_moved main_open
executed_replay list table g x s (effect.Alu a) two following b = refl
executed_replay list table g x s (effect.Special d v) two following b = refl
executed_replay list table g x s (effect.Product l h) two following b = refl
executed_replay list table g x s (effect.Load k w r a) two following b = refl
executed_replay list table g x s (effect.Store k w a v) two following b = refl
executed_replay list table g x s (effect.Stack c n m) two following b = refl
executed_replay list table g x s (effect.Transfer d (Br target)) two following b = refl
executed_replay list table g x s (effect.Transfer d (Call target)) two following b = refl
executed_replay list table g x s (effect.Transfer d (Block target base)) two following b = refl
executed_replay list table g x s (effect.Transfer d (Xret target base)) two following b = refl
executed_replay list table g x s (effect.Trap n handler) two following b = refl

-- What a stack instruction counts, of its plan.
pub stack_counted : (g : Settings) (x : Setup) (s : State) (c : StackControl) (n : ℕ) (m : Bool) (st' ss' j k : ℕ)
    → planned c g.words x.lo x.hi s.specials.st s.specials.ss n ≡ Ok (moves st' ss' j k)
    → record { bundles = 0; cycles = 0; spilled = j; filled = k; misses = 0; fetched = 0 } ≡ extra_of g x s (effect.Stack c n m)
unfolding misses words_fetched
stack_counted g x s c n m st' ss' j k e =
    let t = planned_told c g.words x.lo x.hi s.specials.st s.specials.ss n st' ss' j k e in
    λ i. record { bundles = 0; cycles = 0; spilled = t.spilled i; filled = t.filled i; misses = 0; fetched = 0 }
