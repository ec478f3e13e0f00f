-- A run continued from the record of a stopped one, over the same memories, goes on as if it had never stopped, its own counts from 0.
use Rattle.std.specs.Prelude.{ℕ, ◌+◌, ◌≤◌, true, false, ◌||◌, List, ◌≡◌, ltb, length, take, drop}
use Rattle.std.proofs.Math.Bool.{Bool, not, cond}
use Rattle.std.proofs.Math.Path.{refl}
use Rattle.std.proofs.Common.{sym, ap, subst, ◌∙◌, le-ltb}
use Rattle.std.proofs.Math.Seq.{take-append_seam, drop-append_seam}
use Rattle.answers.specs.Answer.{Returned, spent}
use Rattle.settings.specs.Setup.{Setup, Buffers, buffers, settings, lent}
use Rattle.settings.specs.Settings.{admits}
use Rattle.settings.specs.SettingsLaws.{capacity_ok_lem}
use Rattle.sections.specs.Words.{AreBytes}
use Rattle.core_state.specs.State.{State, Shaped}
use Rattle.replay.specs.Replay.{replay_ok}
use Rattle.bundle_model.specs.declared.Counts.{Counts}
use Rattle.bundle_model.specs.declared.Readiness.{Readiness}
use Rattle.bundle_model.specs.declared.Readiness.TheVariants.{Ready, Ended, Refused}
use Rattle.bundle_model.specs.Counts.{plus}
use Rattle.bundle_model.specs.Bundle.{Outcome, counted, well_formed, readiness, ready_or}
use Rattle.bundle_model.proofs.BundleLaws.{ready_admits, ready_well_formed, ready_replay}
use Rattle.step_laws.proofs.StackKept.{lent_same}
use Rattle.run_model.specs.Run.{run}
use Rattle.run_model.specs.RunLaws.{run_shaped, run_well_formed}
use Rattle.run_model.specs.SplitLaws.{if_spent, run_split, run_lengths}
use Rattle.run_model.specs.Loop.{goes_on, ending}
use Rattle.run_model.specs.LoopLaws.{run_advanced}
use Rattle.record_model.specs.Record.{Box, box, record_of, read_record, accepts, longest, InWords}
use Rattle.record_model.proofs.RecordLaws.{record_read, record_accepted, accepted_record}
use Rattle.resume_model.specs.Resume.{Resumed, as_found, box_of, handed_out, from_record, resumed}

-- What goes on from the record of a box goes on from the box.
pub from_box : (go : State → Buffers → Outcome) (x : Setup) (p : Box) (main local out : List ℕ) → InWords p → Shaped p.state → well_formed x p.state ≡ true
    → admits (settings x (length main) (length local) (length p.cache)) ≡ true → longest (length p.cache) ≤ length out → replay_ok x.list x.table ≡ true
    → from_record go x (length p.cache) (record_of p) main local out ≡ handed_out (go p.state (buffers main local p.cache)) out
unfolding from_record
from_box go x p main local out words shaped well admitted room replayed =
    let g = settings x (length main) (length local) (length p.cache) in
    let capacity = capacity_ok_lem g admitted in
    rw (admitted, le-ltb (length out) (longest (length p.cache)) room, record_accepted x p words shaped capacity well, replayed)
    (ap (λ (q : Box). handed_out (go q.state (buffers main local q.cache)) out) (record_read x p words shaped capacity well))

-- From the record of a run, whatever it answered but 15, a run with a budget does what it does from the state and buffers that the first one left.
module _ (x : Setup) (m n : ℕ) (s : State) (b : Buffers) (out : List ℕ) (shaped : Shaped s) (words : InWords (box_of (run x m s b))) (room : longest (length b.cache) ≤ length out) where
  abbrev first : Outcome
  first = run x m s b

  abbrev again : Resumed
  again = resumed x n (length b.cache) (record_of (box_of (run x m s b))) (run x m s b).buffers.main (run x m s b).buffers.local out

  pub resume_goes_on : admits (lent x b) ≡ true → well_formed x s ≡ true → replay_ok x.list x.table ≡ true → again ≡ handed_out (run x n first.state first.buffers) out
  resume_goes_on admitted well replayed =
      let kept = run_lengths x m s b in
      let w : length first.buffers.cache ≡ length b.cache = kept.cache in
      let same = ap admits (lent_same x b first.buffers kept) ∙ admitted in
      let fits : longest (length first.buffers.cache) ≤ length out = subst (λ (k : ℕ). longest k ≤ length out) (sym w) room in
      ap (λ (k : ℕ). resumed x n k (record_of (box_of first)) first.buffers.main first.buffers.local out) (sym w)
      ∙ from_box (run x n) x (box_of first) first.buffers.main first.buffers.local out words (run_shaped x m s b shaped) (run_well_formed x m s b well) same fits replayed

-- A run that is spent went past 1, 11 and 15.
spent_ready : (x : Setup) (m : ℕ) (s : State) (b : Buffers) → (run x m s b).answer ≡ spent → readiness (lent x b) x s ≡ Ready
spent_ready x m s b e = go (readiness (lent x b) x s) refl (sym (ap (λ (o : Outcome). o.answer) (run_advanced x s b m)) ∙ e)
  where
    go : (r : Readiness) → readiness (lent x b) x s ≡ r → (ending x (ready_or r s b (goes_on x m s b))).answer ≡ spent → readiness (lent x b) x s ≡ Ready
    go Ready f h = f
    go Ended f h = cc
    go (Refused k) f h = cc

-- A stopped box carried on: what comes of it is what the run would have given, had it not stopped; the counts of both parts are its counts,
-- and the record stands where the output buffer begins, its length told, with the buffer's rest behind it.
pub record CarriedOn (whole : Outcome) (before : Counts) (out : List ℕ) (r : Resumed) : Type 0 where
  pub answer : r.answer ≡ whole.answer
  pub main : r.main ≡ whole.buffers.main
  pub local : r.local ≡ whole.buffers.local
  pub counts : plus before r.counts ≡ whole.counts
  pub record_there : take r.written r.out ≡ record_of (box whole.state whole.buffers.cache r.counts)
  pub rest_kept : drop r.written r.out ≡ drop r.written out

-- What is handed out of an outcome: its record, and behind it what was there.
handed_record : (o : Outcome) (out : List ℕ) → take (handed_out o out).written (handed_out o out).out ≡ record_of (box_of o)
handed_record o out = take-append_seam (record_of (box_of o)) (drop (length (record_of (box_of o))) out)

handed_rest : (o : Outcome) (out : List ℕ) → drop (handed_out o out).written (handed_out o out).out ≡ drop (handed_out o out).written out
handed_rest o out = drop-append_seam (record_of (box_of o)) (drop (length (record_of (box_of o))) out)

-- For every state, setting, list and table: that the first run was spent tells that 1, 11 and 15 let them pass. Of the state is asked that it has 32
-- registers and 8 predicates, and of what the first run left that its numbers are words, as all that a function is given or gives has it by
-- its type.
pub never_stopped : (x : Setup) (m n : ℕ) (s : State) (b : Buffers) (out : List ℕ) → Shaped s → InWords (box_of (run x m s b)) → longest (length b.cache) ≤ length out
    → (run x m s b).answer ≡ spent
    → CarriedOn (run x (m + n) s b) (run x m s b).counts out (resumed x n (length b.cache) (record_of (box_of (run x m s b))) (run x m s b).buffers.main (run x m s b).buffers.local out)
never_stopped x m n s b out shaped words room e =
    let o = run x m s b in
    let ready = spent_ready x m s b e in
    let next = resume_goes_on x m n s b out shaped words room (ready_admits (lent x b) x s ready) (ready_well_formed (lent x b) x s ready) (ready_replay (lent x b) x s ready) in
    let rest = run x n o.state o.buffers in
    let split : run x (m + n) s b ≡ counted o.counts rest = run_split x m n s b ∙ ap (λ (a : Returned). if_spent a (counted o.counts rest) o) e in
    subst (λ (r : Resumed). CarriedOn (run x (m + n) s b) o.counts out r) (sym next)
    (subst (λ (whole : Outcome). CarriedOn whole o.counts out (handed_out rest out)) (sym split)
    (record { answer = refl; main = refl; local = refl; counts = refl; record_there = handed_record rest out; rest_kept = handed_rest rest out }))

-- What a call that is spent tells of its record, and what it hands out.
module _ (x : Setup) (m w : ℕ) (bytes main local out : List ℕ) where
  abbrev there : Outcome
  there = run x m (read_record bytes).state (buffers main local (read_record bytes).cache)

  spent_handed : (resumed x m w bytes main local out).answer ≡ spent → (accepts x w bytes ≡ true) × (resumed x m w bytes main local out ≡ handed_out there out)
  unfolding from_record
  spent_handed = go (not (admits (settings x (length main) (length local) w))) (ltb (length out) (longest w)) (accepts x w bytes) (not (replay_ok x.list x.table)) refl
    where
      given : Bool → Bool → Bool → Bool → Resumed
      given t u a r = cond t (as_found 1 main local out) (cond (u || not a) (as_found 14 main local out) (cond r (as_found 15 main local out) (handed_out there out)))

      go : (t u a r : Bool) → accepts x w bytes ≡ a → (given t u a r).answer ≡ spent → (accepts x w bytes ≡ true) × (given t u a r ≡ handed_out there out)
      go true u a r f e = (cc, cc)
      go false true a r f e = (cc, cc)
      go false false false r f e = (cc, cc)
      go false false true true f e = (cc, cc)
      go false false true false f e = (f, refl)

  -- Two calls, the second with the record that stands where the first one's output begins: what one run from the first record with both
  -- budgets gives.
  pub called_twice : (n : ℕ) (next : List ℕ) → AreBytes bytes → InWords (box_of there) → longest w ≤ length next → (resumed x m w bytes main local out).answer ≡ spent
      → let r = resumed x m w bytes main local out in
      CarriedOn (run x (m + n) (read_record bytes).state (buffers main local (read_record bytes).cache)) r.counts next
      (resumed x n w (take r.written r.out) r.main r.local next)
  called_twice n next are words room e =
      let s = (read_record bytes).state in
      let b = buffers main local (read_record bytes).cache in
      let h = spent_handed e in
      let r = accepted_record x w bytes are h.0 in
      let fits : longest (length b.cache) ≤ length next = subst (λ (k : ℕ). longest k ≤ length next) (sym r.cache) room in
      let first : there.answer ≡ spent = sym (ap (λ (y : Resumed). y.answer) h.1) ∙ e in
      let on = never_stopped x m n s b next r.shaped words fits first in
      let found : take (handed_out there out).written (handed_out there out).out ≡ record_of (box_of there) = handed_record there out in
      subst (λ (y : Resumed). CarriedOn (run x (m + n) s b) y.counts next (resumed x n w (take y.written y.out) y.main y.local next)) (sym h.1)
      (subst (λ (l : List ℕ). CarriedOn (run x (m + n) s b) there.counts next (resumed x n w l there.buffers.main there.buffers.local next)) (sym found)
      (subst (λ (k : ℕ). CarriedOn (run x (m + n) s b) there.counts next (resumed x n k (record_of (box_of there)) there.buffers.main there.buffers.local next)) r.cache on))
