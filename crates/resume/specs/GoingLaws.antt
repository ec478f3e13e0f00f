-- What is judged before a run from a record, and what is handed out after it.
use Prim.Native.Nat.{ℕ, ◌-◌, ◌<◌, ◌≤◌}
use Rattle.std.proofs.Math.Bool.{Bool, true, false, cond}
use Rattle.std.proofs.lemmas.Bool.{false≢true}
use Rattle.std.specs.Prelude.{not, ◌&&◌, List, ◌≡◌, length, take, drop, Ok, Err}
use Rattle.std.proofs.Math.Path.{refl, ap}
use Rattle.std.proofs.Common.{sym, ◌∙◌, arith, length-take-le}
use borrow.Author.Tests.{lt-ltb, le-ltb, le-leb}
use Rattle.std.proofs.Math.Dec.{leb}
use Rattle.answers.specs.declared.Refusal.{Refusal}
use Rattle.answers.specs.declared.Refusal.TheVariants as refusal
use Rattle.answers.specs.Refusal.{number}
use Rattle.stack_cache.specs.Stack.{is_cache_size}
use Rattle.settings.specs.declared.Settings.{Settings}
use Rattle.settings.specs.Settings.{admits}
use Rattle.settings.specs.SettingsLaws.{size_ok}
use Rattle.settings.specs.Setup.{Setup, buffers, settings}
use Rattle.method_cache.specs.MethodCache.{held_ok}
use Rattle.replay.specs.Replay.{replay_ok}
use Rattle.core_state.specs.State.{State, with_held, blank, parts_ok}
use Rattle.bundle_model.specs.Bundle.{Outcome, well_formed}
use Rattle.run_model.specs.Run.{run}
use Rattle.sections.specs.Words.{over}
use Rattle.bundle_model.specs.Counts.{no_counts}
use Rattle.record.specs.Read.{Reading, reading_of, reading}
use Rattle.record_model.specs.Record.{box, has_form, read_record, accepts, longest, record_of}
use Rattle.record.specs.Written.{longest_of, written_of, writing}
use Rattle.record.specs.RoomLaws.{size_longest}
use Rattle.resume_model.specs.Resume.{resumed_of, as_found, box_of, handed_out, from_record, resumed}
use Rattle.resume.specs.Resumed.{judged_by, judged_as}

-- What is judged of a state, of what its parts, its blocks held and list and table were judged.
pub judged_as_lem : (x : Setup) (s : State) (h : List ℕ) (p q r : Bool) → p ≡ parts_ok s → q ≡ held_ok x.method x.code h → r ≡ replay_ok x.list x.table
    → judged_as (p && q) r ≡ judged_by x (with_held s h)
unfolding judged_by well_formed parts_ok
judged_as_lem x s h p q r pp pq pr = λ i. judged_as (pp i && pq i) (pr i)

module _ (x : Setup) (budget w : ℕ) (bytes main local out : List ℕ) where
  abbrev judged : Settings
  judged = settings x (length main) (length local) w

  -- Turned away: by the settings, for want of room, by the form, and by the state.
  pub bad_settings : admits judged ≡ false → as_found 1 main local out ≡ resumed x budget w bytes main local out
  unfolding from_record
  bad_settings a = rw a

  pub no_room : admits judged ≡ true → length out < longest w → as_found 14 main local out ≡ resumed x budget w bytes main local out
  unfolding from_record
  no_room a h = rw (a, lt-ltb (length out) (longest w) h)

  module _ (a : admits judged ≡ true) (room : longest w ≤ length out) where
    pub no_form : has_form w bytes ≡ false → as_found 14 main local out ≡ resumed x budget w bytes main local out
    unfolding from_record accepts
    no_form e = rw (a, le-ltb (length out) (longest w) room, e)

    pub turned_by : (n : Refusal) → has_form w bytes ≡ true → Err n ≡ judged_by x (read_record bytes).state → as_found (number n) main local out ≡ resumed x budget w bytes main local out
    unfolding from_record accepts judged_by
    turned_by n f e = rw (a, le-ltb (length out) (longest w) room, f) (go (well_formed x (read_record bytes).state) (replay_ok x.list x.table) e)
      where
        go : (y r : Bool) → Err n ≡ judged_as y r
            → as_found (number n) main local out ≡ cond (not y) (as_found 14 main local out) (cond (not r) (as_found 15 main local out) (handed_out (run x budget (read_record bytes).state (buffers main local (read_record bytes).cache)) out))
        go false r h = let same : n ≡ refusal.Record = cc in ap (λ (k : Refusal). as_found (number k) main local out) same
        go true false h = let same : n ≡ refusal.Replay = cc in ap (λ (k : Refusal). as_found (number k) main local out) same
        go true true h = cc

    passed : judged_by x (read_record bytes).state ≡ Ok tt → (well_formed x (read_record bytes).state ≡ true) × (replay_ok x.list x.table ≡ true)
    unfolding judged_by
    passed = go (well_formed x (read_record bytes).state) (replay_ok x.list x.table)
      where
        go : (y r : Bool) → judged_as y r ≡ Ok tt → (y ≡ true) × (r ≡ true)
        go false r h = (cc, cc)
        go true false h = (cc, cc)
        go true true h = (refl, refl)

    -- Gone on: the outcome of the run, and its record written.
    pub gone_on : (o : Outcome) (n : ℕ) (after : List ℕ) → has_form w bytes ≡ true → judged_by x (read_record bytes).state ≡ Ok tt
        → o ≡ run x budget (read_record bytes).state (buffers main local (read_record bytes).cache) → length o.buffers.cache ≡ w
        → written_of n after ≡ writing (box_of o) out
        → resumed_of o.answer o.counts n o.buffers.main o.buffers.local after ≡ resumed x budget w bytes main local out
    unfolding from_record accepts writing
    gone_on o n after f e ran long put =
        let size : is_cache_size (length o.buffers.cache) ≡ true = ap is_cache_size long ∙ size_ok judged a in
        let fits : leb (longest (length o.buffers.cache)) (length out) ≡ true = ap (λ (k : ℕ). leb (longest k) (length out)) long ∙ le-leb (longest w) (length out) room in
        let whole : written_of n after ≡ written_of (length (record_of (box_of o))) (over out (record_of (box_of o))) = put ∙ rw (size, fits) refl in
        (λ i. resumed_of o.answer o.counts (whole i).length o.buffers.main o.buffers.local (whole i).out)
        ∙ rw (a, le-ltb (length out) (longest w) room, f, (passed e).0, (passed e).1) (ap (λ (y : Outcome). handed_out y out) ran)

-- What the reader tells by whether there is the form of a record.
pub read_refused : (bytes cache : List ℕ) (r : Reading) → r ≡ reading bytes cache → r.formed ≡ false → has_form (length cache) bytes ≡ false
unfolding reading
read_refused bytes cache r e f = go (has_form (length cache) bytes) (sym (ap (λ (y : Reading). y.formed) e) ∙ f)
  where
    go : (t : Bool) → (cond t (reading_of true (read_record bytes)) (reading_of false (box blank cache no_counts))).formed ≡ false → t ≡ false
    go true h = h
    go false h = refl

pub read_formed : (bytes cache : List ℕ) (r : Reading) → r ≡ reading bytes cache → r.formed ≡ true → (has_form (length cache) bytes ≡ true) × (r.box ≡ read_record bytes)
unfolding reading
read_formed bytes cache r e f = go (has_form (length cache) bytes) e (sym (ap (λ (y : Reading). y.formed) e) ∙ f)
  where
    go : (t : Bool) → r ≡ cond t (reading_of true (read_record bytes)) (reading_of false (box blank cache no_counts))
        → (cond t (reading_of true (read_record bytes)) (reading_of false (box blank cache no_counts))).formed ≡ true
        → (t ≡ true) × (r.box ≡ read_record bytes)
    go true h g = (refl, ap (λ (y : Reading). y.box) h)
    go false h g = absurd (false≢true g)

-- A part of so many words, from the beginning of more.
pub part_long : (l : List ℕ) (w : ℕ) → w ≤ length l → length (take (w - 0) (drop 0 l)) ≡ w
part_long l w p = let e : w - 0 ≡ w = omega arith in ap (λ (k : ℕ). length (take k l)) e ∙ length-take-le w l p

-- The room that is asked for is the longest record's.
pub room_of : (g : Settings) (n r : ℕ) → admits g ≡ true → r ≡ longest_of g.words → r ≤ n → longest g.words ≤ n
room_of g n r a e h = omega (arith, h, e, size_longest g.words (size_ok g a))

pub short_of : (g : Settings) (n r : ℕ) → admits g ≡ true → r ≡ longest_of g.words → n < r → n < longest g.words
short_of g n r a e h = omega (arith, h, e, size_longest g.words (size_ok g a))
