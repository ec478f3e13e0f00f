-- A bundle as it is tried, of what the functions that do it give: the record taken or not, and the bundle from there done or refused.
use Prim.Native.Nat.{ℕ, ◌+◌}
use Rattle.std.specs.Prelude.{Bool, true, ◌&&◌, ◌≡◌, refl, eqb, Ok, Err, Result}
use Rattle.std.proofs.Math.Bool.{false}
use Rattle.std.proofs.lemmas.Bool.{false≢true}
use mathlib.Core.List.{List, [], ◌∷◌}
use Rattle.std.proofs.Math.Path.{sym, ap}
use Rattle.std.proofs.Common.{subst, ◌∙◌, arith}
use Rattle.answers.specs.declared.Refusal.{Refusal}
use Rattle.answers.specs.Refusal.{number}
use Rattle.answers.specs.declared.Refusal.TheVariants as refusal
use Rattle.answers.specs.Answer.{Returned, accepted, done, ended, spent, refused}
use Rattle.answers.specs.Test.{Verdict, test, verdict as verdict_of}
use Rattle.replay.specs.Replay.{handler_of, due_in}
use Rattle.method_cache.specs.declared.Looked.{Looked}
use Rattle.method_cache.specs.MethodCache.{capacity_ok, held_after, misses, words_fetched}
use Rattle.method_cache.specs.Words.{held_in, FixedHeld}
use Rattle.settings.specs.declared.Settings.{Settings}
use Rattle.settings.specs.Settings.{admits}
use Rattle.settings.specs.SettingsLaws.{capacity_ok_lem}
use Rattle.settings.specs.Setup.{Setup, Buffers, replaying, setup_of}
use Rattle.effects.specs.declared.Transfer.TheVariants.{Call}
use Rattle.products.specs.Words.{FixedProducts}
use Rattle.core_state.specs.declared.Core.{Core}
use Rattle.core_state.specs.declared.WaitingTransfer.TheVariants as transfer
use Rattle.core_state.specs.State.{State, none_waits, entered, one_place_on, with_held, with_done}
use Rattle.core_state.specs.Core.{joined, waiting_transfer, transfer_words, Written, Canonical}
use Rattle.core_state.proofs.WordLaws.{words_fixed, canonical_with}
use Rattle.bundle_model.specs.declared.Answer.{Answer}
use Rattle.bundle_model.specs.declared.Answer.TheVariants.{Done, Ended, Refused}
use Rattle.bundle_model.specs.declared.Bundled.{Bundled}
use Rattle.bundle_model.specs.declared.Counts.{Counts}
use Rattle.bundle_model.specs.Lookup.{looked_up, bases_of, lookup_tests}
use Rattle.bundle_model.specs.Interrupt.{due, handler_due, entry_lookups, entry_tests, entry_counts, taken}
use Rattle.bundle_model.specs.InterruptLaws.{due_lookups, due_tests, due_taken, none_lookups, none_tests, none_taken, taken_cases}
use Rattle.bundle_model.specs.Counts.{no_counts, plus, plus_none, counts_in, Few, Fit}
use Rattle.bundle_model.specs.Bundle.{Outcome, outcome, counted, full, returned, if_done, refused_or, finished, bundle, attempt}
use Rattle.bundle_model.specs.Execute.{bundled, stepped_as}
use Rattle.step_laws.specs.StepCases.{is_done, bundle_cases}
use Rattle.step_laws.proofs.CountLaws.{bundle_few}
use Rattle.step_laws.specs.LookupLaws.{entry_found, entry_misses, entry_fetched}
use Rattle.answers.specs.contracts.Refusal.{the_row as refusal_row}
use Rattle.bundle_model.specs.contracts.Answer.{the_type}
use denote.Enum.Declared.{tag_of}
use types.Run.{OneOf, miss}
use Rattle.bundle_writes.specs.Lookup.{LookedUp}
use Rattle.bundle.specs.declared.Entry.{Entry}

-- What the lookup of a record counts.
abbrev pub looked_counts : Looked → Counts
looked_counts l = record { bundles = 0; cycles = 0; spilled = 0; filled = 0; misses = l.misses; fetched = l.fetched }

-- A state as it is lent: registers, predicates, a core and the words of the blocks held.
abbrev whole : List ℕ → List Bool → Core → List ℕ → State
whole rs ps core w = with_held (joined rs ps core) (held_in w)

-- The record taken if one is due: from this core, with these words of the blocks held, the bundle is done. t tells whether one is due, and then
-- `blocks` are the words as they were.
pub record Entered (x : Setup) (rs : List ℕ) (ps : List Bool) (core from : Core) (w blocks v : List ℕ) (looked : Looked) (t : Bool) : Type 0 where
  pub fine : verdict_of (entry_tests x (whole rs ps core w)) ≡ Ok tt
  pub state : whole rs ps from v ≡ taken x (whole rs ps core w)
  pub canonical : Canonical core → Canonical from
  pub fixed : FixedHeld w → FixedHeld v
  pub counts : t ≡ true → looked_counts looked ≡ entry_counts x (whole rs ps core w)
  pub none : t ≡ false → (no_counts ≡ entry_counts x (whole rs ps core w)) × (taken x (whole rs ps core w) ≡ whole rs ps core w)
  pub kept : t ≡ true → blocks ≡ w

abbrev pub going : Core → Bool → Looked → Entry
going from t looked = record { core = from; due = t; looked = looked }

-- What judging and taking it gives, with the words of the blocks held, w before and v after.
unfoldable pub Enters : Setup → List ℕ → List Bool → Core → List ℕ → List ℕ → List ℕ → Result Entry Refusal → Type 0
Enters x rs ps core w blocks v (Err r) = (verdict_of (entry_tests x (whole rs ps core w)) ≡ Err r) × (v ≡ w)
Enters x rs ps core w blocks v (Ok e) = Entered x rs ps core e.core w blocks v e.looked e.due

pub enters_refused : (x : Setup) (rs : List ℕ) (ps : List Bool) (core : Core) (w blocks v : List ℕ) (y : Result Entry Refusal) (r : Refusal) → y ≡ Err r → Enters x rs ps core w blocks v y
    → (verdict_of (entry_tests x (whole rs ps core w)) ≡ Err r) × (v ≡ w)
unfolding Enters
enters_refused x rs ps core w blocks v y r e h = subst (λ (z : Result Entry Refusal). Enters x rs ps core w blocks v z) e h

pub enters_going : {x : Setup} {rs : List ℕ} {ps : List Bool} {core : Core} {w blocks v : List ℕ} {y : Result Entry Refusal} (from : Core) (t : Bool) (looked : Looked) → y ≡ Ok (going from t looked)
    → Enters x rs ps core w blocks v y → Entered x rs ps core from w blocks v looked t
unfolding Enters
enters_going {x} {rs} {ps} {core} {w} {blocks} {v} from t looked e h = subst (λ (z : Result Entry Refusal). Enters x rs ps core w blocks v z) e h

module _ (list table code : List ℕ) (g : Settings) (rs : List ℕ) (ps : List Bool) (core : Core) (w : List ℕ) where
  abbrev x : Setup
  x = replaying list table (setup_of code g)

  abbrev s : State
  s = whole rs ps core w

  -- Whether one is due, of what two functions tell.
  pub due_told : (a n : Bool) → a ≡ due_in list core.replay → n ≡ none_waits (waiting_transfer core.transfer) → due x s ≡ a && n
  unfolding due
  due_told a n p q = λ i. sym p i && sym q i

  pub not_entered : (blocks : List ℕ) (t : Bool) → due x s ≡ t → t ≡ false → Entered x rs ps core core w blocks w (record { misses = 0; fetched = 0 }) t
  unfolding misses words_fetched verdict_of
  not_entered blocks t p e =
      let d : due x s ≡ false = p ∙ e in
      record {
        fine = ap verdict_of (none_tests x s d);
        state = sym (none_taken x s d);
        canonical = λ k. k;
        fixed = λ f. f;
        counts = λ y. absurd (false≢true (sym e ∙ y));
        none = λ y. (λ i. record { bundles = 0; cycles = 0; spilled = 0; filled = 0; misses = misses x.method x.code (held_in w) (sym (none_lookups x s d) i); fetched = words_fetched x.method x.code (held_in w) (sym (none_lookups x s d) i) }, none_taken x s d);
        kept = λ y. absurd (false≢true (sym e ∙ y));
      }

  module _ (handler : ℕ) (h : handler ≡ handler_of list table core.replay.place) (t : Bool) (p : due x s ≡ t) (e : t ≡ true) where
    d : due x s ≡ true
    d = p ∙ e

    looked_bases : bases_of (setup_of code g) (Call handler) ≡ entry_lookups x s
    unfolding bases_of
    looked_bases = ap (λ (a : ℕ). looked_up x a a) h ∙ sym (due_lookups x s d)

    -- How it is judged.
    pub entry_judged : verdict_of (entry_tests x s) ≡ verdict_of (test refusal.NoHandler (eqb handler 0) ∷ lookup_tests g.method code (looked_up (setup_of code g) handler handler))
    entry_judged =
        ap verdict_of (due_tests x s d)
        ∙ ap (λ (l : List ℕ). verdict_of (test refusal.NoHandler (eqb (handler_due x s) 0) ∷ lookup_tests g.method code l)) (due_lookups x s d)
        ∙ ap (λ (a : ℕ). verdict_of (test refusal.NoHandler (eqb a 0) ∷ lookup_tests g.method code (looked_up (setup_of code g) a a))) (sym h)

    pub has_entered : (from : Core) (blocks v : List ℕ) (looked : Looked) → verdict_of (entry_tests x s) ≡ Ok tt → capacity_ok g.method ≡ true
        → LookedUp g code (Call handler) w v looked
        → Written ((us : List ℕ) (qs : List Bool) → joined us qs from ≡ one_place_on (entered (joined us qs core) handler core.fetch)) from (transfer_words transfer.Nothing) core.load core.products
        → blocks ≡ w → Entered x rs ps core from w blocks v looked t
    unfolding entered
    has_entered from blocks v looked f ok l n k =
        let bases : List ℕ = bases_of (setup_of code g) (Call handler) in
        record {
          fine = f;
          state =
              (λ i. with_held (n.state rs ps i) (l.said ok i))
              ∙ ap (λ (a : ℕ). with_held (one_place_on (entered (joined rs ps core) a core.fetch)) (held_after g.method code (held_in w) (bases_of (setup_of code g) (Call handler)))) h
              ∙ ap (λ (b : List ℕ). with_held (one_place_on (entered (joined rs ps core) (handler_due x s) core.fetch)) (held_after g.method code (held_in w) b)) looked_bases
              ∙ sym (due_taken x s d);
          canonical = λ c. canonical_with from _ _ n.transfer n.load (words_fixed transfer.Nothing) c.load (subst FixedProducts (sym n.products) c.products);
          fixed = l.fixed ok;
          counts = λ y. (λ i. record { bundles = 0; cycles = 0; spilled = 0; filled = 0; misses = (l.misses ∙ ap (misses g.method code (held_in w)) looked_bases) i; fetched = (l.fetched ∙ ap (words_fetched g.method code (held_in w)) looked_bases) i });
          none = λ y. absurd (false≢true (sym y ∙ e));
          kept = λ y. k;
        }

-- The counts of a lookup come before or behind those of the bundle.
plus_swap : (c k e : Counts) → plus (plus c k) e ≡ plus c (plus e k)
plus_swap c k e =
    λ i. record {
      bundles = swap c.bundles k.bundles e.bundles i;
      cycles = swap c.cycles k.cycles e.cycles i;
      spilled = swap c.spilled k.spilled e.spilled i;
      filled = swap c.filled k.filled e.filled i;
      misses = swap c.misses k.misses e.misses i;
      fetched = swap c.fetched k.fetched e.fetched i;
    }
  where
    swap : (a b c : ℕ) → a + b + c ≡ a + (c + b)
    swap a b c = omega arith

module _ (g : Settings) (x : Setup) (s : State) (b : Buffers) where
  -- A record that is refused.
  entry_refused : (r : Refusal) → verdict_of (entry_tests x s) ≡ Err r → attempt g x s b ≡ outcome (refused (number r)) s no_counts b
  unfolding attempt
  entry_refused r e = rw e

  -- One that is let pass, with the bundle from there.
  entry_passed : (t : State) → t ≡ taken x s → verdict_of (entry_tests x s) ≡ Ok tt → attempt g x s b ≡ finished s b (entry_counts x s) (bundle g x t b)
  unfolding attempt
  entry_passed t p e =
      ap (λ (v : Verdict). refused_or v s b (finished s b (entry_counts x s) (bundle g x (taken x s) b))) e
      ∙ ap (λ (y : State). finished s b (entry_counts x s) (bundle g x y b)) (sym p)

-- What is not done leaves all.
inner_kept : (g : Settings) (x : Setup) (t : State) (b : Buffers) → is_done (bundle g x t b).answer ≡ false → bundle g x t b ≡ outcome (bundle g x t b).answer t no_counts b
inner_kept g x t b = bundle_cases g x t b (λ o. is_done o.answer ≡ false → o ≡ outcome o.answer t no_counts b) (λ n j e. refl) (λ j e. absurd (false≢true (sym e)))

not_finished : (s : State) (b : Buffers) (c : Counts) (o : Outcome) → is_done o.answer ≡ false → finished s b c o ≡ outcome o.answer s no_counts b
not_finished s b c o = go o.answer
  where
    go : (a : Returned) → is_done a ≡ false → if_done a (outcome done (with_done o.state) (plus c o.counts) o.buffers) (outcome a s no_counts b) ≡ outcome a s no_counts b
    go done e = absurd (false≢true (sym e))
    go accepted e = refl
    go ended e = refl
    go spent e = refl
    go (refused n) e = refl

module _ (g : Settings) (x : Setup) (rs : List ℕ) (ps : List Bool) (core : Core) (w c : List ℕ) (b : Buffers) where
  pub handed_entry : (n : Refusal) (z : Bundled Refusal) → verdict_of (entry_tests x (whole rs ps core w)) ≡ Err n → z ≡ bundled (Refused n) core
      → full (stepped_as rs ps w c z) b ≡ counted (counts_in c) (attempt g x (whole rs ps core w) b)
  handed_entry n z e h =
      ap (λ (y : Bundled Refusal). full (stepped_as rs ps w c y) b) h
      ∙ ap (λ (y : Counts). outcome (refused (number n)) (whole rs ps core w) y b) (sym (plus_none (counts_in c)))
      ∙ sym (ap (counted (counts_in c)) (entry_refused g x (whole rs ps core w) b n e))

  module _ (from : Core) (blocks v : List ℕ) (looked : Looked) (t : Bool) (e : Entered x rs ps core from w blocks v looked t)
      (us : List ℕ) (qs : List Bool) (v' : List ℕ) (m : Counts) (d : Bundled Refusal) (b' : Buffers)
      (inner : outcome (returned d.answer) (whole us qs d.core v') m b' ≡ counted (counts_in c) (bundle g x (whole rs ps from v) b)) where
    o : Outcome
    o = bundle g x (whole rs ps from v) b

    passed : attempt g x (whole rs ps core w) b ≡ finished (whole rs ps core w) b (entry_counts x (whole rs ps core w)) o
    unfolding o
    passed = entry_passed g x (whole rs ps core w) b (whole rs ps from v) e.state e.fine

    module _ (not_done : is_done (returned d.answer) ≡ false) where
      answer : returned d.answer ≡ o.answer
      unfolding o
      answer = ap (λ (y : Outcome). y.answer) inner

      left : o ≡ outcome o.answer (whole rs ps from v) no_counts b
      unfolding o
      left = inner_kept g x (whole rs ps from v) b (ap is_done (sym answer) ∙ not_done)

      same : whole us qs d.core v' ≡ taken x (whole rs ps core w)
      unfolding o
      same = ap (λ (y : Outcome). y.state) inner ∙ ap (λ (y : Outcome). y.state) left ∙ e.state

      registers : ((taken x (whole rs ps core w)).registers ≡ rs) × ((taken x (whole rs ps core w)).predicates ≡ ps)
      unfolding entered
      registers = taken_cases (λ y. (y.registers ≡ rs) × (y.predicates ≡ ps)) x (whole rs ps core w) (refl, refl) (λ q held. (refl, refl))

      -- The blocks held, where none was due.
      pub held_again : t ≡ false → held_in v' ≡ held_in w
      held_again f = ap (λ (y : State). y.further.held) (same ∙ (e.none f).1)

      -- The bundle is refused, and all is as it was, the blocks held too.
      pub handed_undone : (h : List ℕ) (z : Bundled Refusal) → held_in h ≡ held_in w → z ≡ bundled d.answer core → outcome (returned z.answer) (whole us qs z.core h) m b' ≡ counted (counts_in c) (attempt g x (whole rs ps core w) b)
      unfolding o
      handed_undone h z p q =
          let lists : us ≡ rs = ap (λ (y : State). y.registers) same ∙ registers.0 in
          let flags : qs ≡ ps = ap (λ (y : State). y.predicates) same ∙ registers.1 in
          let sums : m ≡ plus (counts_in c) no_counts = ap (λ (y : Outcome). y.counts) inner ∙ ap (λ (y : Outcome). plus (counts_in c) y.counts) left in
          let stores : b' ≡ b = ap (λ (y : Outcome). y.buffers) inner ∙ ap (λ (y : Outcome). y.buffers) left in
          ap (λ (y : Bundled Refusal). outcome (returned y.answer) (whole us qs y.core h) m b') q
          ∙ (λ i. outcome (answer i) (with_held (joined (lists i) (flags i) core) (p i)) (sums i) (stores i))
          ∙ sym (ap (counted (counts_in c)) (passed ∙ not_finished (whole rs ps core w) b (entry_counts x (whole rs ps core w)) o (ap is_done (sym answer) ∙ not_done)))

    -- The bundle is done, and with it one more of the replay.
    handed_tried : (next : Core) (k : Counts) (z : Bundled Refusal) → d.answer ≡ Done → joined us qs next ≡ with_done (joined us qs d.core)
        → k ≡ plus m (entry_counts x (whole rs ps core w)) → z ≡ bundled Done next
        → outcome (returned z.answer) (whole us qs z.core v') k b' ≡ counted (counts_in c) (attempt g x (whole rs ps core w) b)
    unfolding o
    handed_tried next k z a n p q =
        let ec = entry_counts x (whole rs ps core w) in
        let finish : returned d.answer ≡ o.answer = ap (λ (y : Outcome). y.answer) inner in
        let was : o.answer ≡ done = sym finish ∙ ap returned a in
        ap (λ (y : Bundled Refusal). outcome (returned y.answer) (whole us qs y.core v') k b') q
        ∙ (λ i. outcome done (with_held (n i) (held_in v')) (p i) b')
        ∙ ap (λ (y : Outcome). outcome done (with_done y.state) (plus y.counts ec) y.buffers) inner
        ∙ ap (λ (y : Counts). outcome done (with_done o.state) y o.buffers) (plus_swap (counts_in c) o.counts ec)
        ∙ sym (ap (counted (counts_in c)) (passed ∙ ap (λ (y : Returned). if_done y (outcome done (with_done o.state) (plus ec o.counts) o.buffers) (outcome y (whole rs ps core w) no_counts b)) was))

    -- With the counts of a record's lookup, and where none was due.
    pub handed_taken : (next : Core) (k : Counts) (z : Bundled Refusal) → t ≡ true → d.answer ≡ Done → joined us qs next ≡ with_done (joined us qs d.core)
        → k ≡ plus m (looked_counts looked) → z ≡ bundled Done next
        → outcome (returned z.answer) (whole us qs z.core v') k b' ≡ counted (counts_in c) (attempt g x (whole rs ps core w) b)
    handed_taken next k z y a n p q = handed_tried next k z a n (p ∙ ap (plus m) (e.counts y)) q

    pub handed_plain : (next : Core) (z : Bundled Refusal) → t ≡ false → d.answer ≡ Done → joined us qs next ≡ with_done (joined us qs d.core) → z ≡ bundled Done next
        → outcome (returned z.answer) (whole us qs z.core v') m b' ≡ counted (counts_in c) (attempt g x (whole rs ps core w) b)
    handed_plain next z y a n q = handed_tried next m z a n (sym (plus_none m) ∙ ap (plus m) (e.none y).0) q

    -- What the record's lookup counts fits in.
    pub entry_fits : admits g ≡ true → g.method ≡ x.method → Few 4294967294 (counts_in c) → t ≡ true → Fit (plus m (looked_counts looked))
    entry_fits a y f p =
        let n = bundle_few g x (whole rs ps from v) b a y in
        let ok = sym (ap capacity_ok y) ∙ capacity_ok_lem g a in
        let found = entry_found x (whole rs ps core w) e.fine in
        let one = entry_misses x (whole rs ps core w) ok found in
        let block = entry_fetched x (whole rs ps core w) ok found in
        let sums : m ≡ plus (counts_in c) (bundle g x (whole rs ps from v) b).counts = ap (λ (y : Outcome). y.counts) inner in
        subst (λ (k : Counts). Fit (plus m k)) (sym (e.counts p))
        (subst (λ (k : Counts). Fit (plus k (entry_counts x (whole rs ps core w)))) (sym sums)
        (record {
          bundles = omega (arith, f.bundles, n.bundles);
          cycles = omega (arith, f.cycles, n.cycles);
          spilled = omega (arith, f.spilled, n.spilled);
          filled = omega (arith, f.filled, n.filled);
          misses = omega (arith, f.misses, n.misses, one);
          fetched = omega (arith, f.fetched, n.fetched, block);
        }))

-- An answer that is not Done.
pub not_done : (a : Answer Refusal) → OneOf (1 ∷ 2 ∷ []) (tag_of (the_type refusal_row) a) → is_done (returned a) ≡ false
not_done Done h = absurd (miss (1 ∷ 2 ∷ []) 0 tt h)
not_done Ended h = refl
not_done (Refused n) h = refl

-- A core stays canonical where its words of what waits and is under way stay.
pub canonical_kept : (c r : Core) → r.transfer ≡ c.transfer → r.load ≡ c.load → r.products ≡ c.products → Canonical c → Canonical r
canonical_kept c r t l p k = canonical_with r c.transfer c.load t l k.transfer k.load (subst FixedProducts (sym p) k.products)
