-- What the functions that do a bundle hand back, of what the parts of it gave.
use Rattle.std.specs.Prelude.{ℕ, Bool, List, ◌≡◌, Result, Ok, Err}
use Rattle.std.proofs.Common.{sym, ap, subst, ◌∙◌}
use Rattle.answers.specs.Refusal.{number}
use Rattle.answers.specs.declared.Refusal.{Refusal}
use Rattle.answers.specs.Answer.{Returned, refused}
use Rattle.method_cache.specs.Words.{held_in}
use Rattle.settings.specs.declared.Settings.{Settings}
use Rattle.settings.specs.Setup.{Setup, Buffers}
use Rattle.isa.specs.declared.Bundle.{Bundle}
use Rattle.fetch.specs.declared.Fetched.{Fetched}
use Rattle.fetch.specs.Fetch.{fetched}
use Rattle.alu_effects.specs.declared.AluEffect.{AluEffect}
use Rattle.effects.specs.declared.Effect.{Effect}
use Rattle.effects.specs.Effect.{slot_one, slot_two}
use Rattle.core_state.specs.declared.Core.{Core}
use Rattle.core_state.specs.State.{State, start_of, with_held, landed, arrived}
use Rattle.core_state.specs.Core.{joined, waiting_transfer}
use Rattle.core_state.specs.Writes.{write_alu}
use Rattle.bundle_model.specs.declared.Answer.TheVariants.{Done, Refused}
use Rattle.bundle_model.specs.declared.Bundled.{Bundled}
use Rattle.bundle_model.specs.declared.Carried.{Carried}
use Rattle.bundle_model.specs.declared.Counts.{Counts}
use Rattle.bundle_model.specs.Lookup.{held_by}
use Rattle.bundle_model.specs.Counts.{no_counts, plus, plus_none, counts_in}
use Rattle.bundle_model.specs.Bundle.{Outcome, outcome, full, counted, onward, bundle}
use Rattle.bundle_model.specs.Execute.{bundled, stepped_as, executed, carried_as, carried_out, extra_of, one_cycle, Tallied, write_done, carrying}
use Rattle.bundle_model.proofs.ExecuteLaws.{executed_refused, executed_done}
use Rattle.bundle_model.proofs.BundleLaws.{bundle_refused, bundle_found}

-- What was tallied of a slot one that was refused, and of one that was done.
told_refused : {g : Settings} {x : Setup} {s : State} {one : Effect} {w v c d : List ℕ} {r : Result Carried Refusal} (n : Refusal) → r ≡ Err n → Tallied r g x s one w v c d
    → (held_in v ≡ s.further.held) × (counts_in d ≡ plus (counts_in c) no_counts)
told_refused {g} {x} {s} {one} {w} {v} {c} {d} n e t =
    let u = subst (λ (y : Result Carried Refusal). Tallied y g x s one w v c d) e t in (u.held, u.counts)

pub told_done : {g : Settings} {x : Setup} {s : State} {one : Effect} {w v c d : List ℕ} {r : Result Carried Refusal} (l st ss : ℕ) → r ≡ Ok (carrying l st ss) → Tallied r g x s one w v c d
    → (held_in v ≡ held_by x s one) × (counts_in d ≡ plus (counts_in c) (extra_of g x s one))
told_done {g} {x} {s} {one} {w} {v} {c} {d} l st ss e t =
    let u = subst (λ (y : Result Carried Refusal). Tallied y g x s one w v c d) e t in (u.held, u.counts)

-- A decoded bundle, refused or done.
module _ (g : Settings) (x : Setup) (rs : List ℕ) (ps : List Bool) (core : Core) (w : List ℕ) (one : Effect) (two : AluEffect) (following : ℕ) (b b' : Buffers) {r : Result Carried Refusal} (v c : List ℕ) where
  pub handed_refused : (n : Refusal) (z : Bundled Refusal) (d : List ℕ) → r ≡ Err n → carried_as r b' ≡ carried_out g x (with_held (joined rs ps core) (held_in w)) one b
      → Tallied r g x (with_held (joined rs ps core) (held_in w)) one w v c d → z ≡ bundled (Refused n) core
      → full (stepped_as rs ps v d z) b' ≡ counted (counts_in c) (executed g x (with_held (joined rs ps core) (held_in w)) one two following b)
  handed_refused n z d e f t h =
      let k = told_refused n e t in
      executed_refused g x (joined rs ps core) (held_in w) one two following b b' n _ (counts_in c) (counts_in d) (held_in v)
      (ap (λ (y : Result Carried Refusal). carried_as y b') (sym e) ∙ f) (ap (λ (y : Bundled Refusal). full (stepped_as rs ps v d y) b') h) k.0 k.1

  pub handed_done : (l st ss : ℕ) (us : List ℕ) (qs : List Bool) (next : Core) (z : Bundled Refusal) (m d : List ℕ) → r ≡ Ok (carrying l st ss)
      → carried_as r b' ≡ carried_out g x (with_held (joined rs ps core) (held_in w)) one b → Tallied r g x (with_held (joined rs ps core) (held_in w)) one w v c m
      → joined us qs next ≡ onward one (waiting_transfer core.transfer) following (write_alu two (write_done one l st ss (arrived (landed (joined rs ps core)))))
      → counts_in d ≡ plus (counts_in m) one_cycle → z ≡ bundled Done next
      → full (stepped_as us qs v d z) b' ≡ counted (counts_in c) (executed g x (with_held (joined rs ps core) (held_in w)) one two following b)
  handed_done l st ss us qs next z m d e f t p q h =
      let k = told_done l st ss e t in
      executed_done g x (joined rs ps core) (held_in w) one two following b b' l st ss _ (counts_in c) (counts_in d) (joined us qs next) (held_in v)
      (ap (λ (y : Result Carried Refusal). carried_as y b') (sym e) ∙ f) (ap (λ (y : Bundled Refusal). full (stepped_as us qs v d y) b') h) p k.0 (q ∙ ap (λ (y : Counts). plus y one_cycle) k.1)

-- A bundle by what was fetched.
module _ (g : Settings) (x : Setup) (rs : List ℕ) (ps : List Bool) (core : Core) (w c : List ℕ) (b : Buffers) where
  pub handed_unread : (n : Refusal) (z : Bundled Refusal) → fetched x.code core.fetch ≡ Err n → z ≡ bundled (Refused n) core
      → full (stepped_as rs ps w c z) b ≡ counted (counts_in c) (bundle g x (with_held (joined rs ps core) (held_in w)) b)
  handed_unread n z e h =
      ap (λ (y : Bundled Refusal). full (stepped_as rs ps w c y) b) h
      ∙ ap (λ (y : Counts). outcome (refused (number n)) (with_held (joined rs ps core) (held_in w)) y b) (sym (plus_none (counts_in c)))
      ∙ sym (ap (counted (counts_in c)) (bundle_refused g x (with_held (joined rs ps core) (held_in w)) b n e))

  pub handed_read : (f : Fetched) (one : Effect) (two : AluEffect) (o : Outcome) → fetched x.code core.fetch ≡ Ok f
      → one ≡ slot_one (start_of x.table (joined rs ps core)) f.bundle → two ≡ slot_two (start_of x.table (joined rs ps core)) f.bundle
      → o ≡ counted (counts_in c) (executed g x (with_held (joined rs ps core) (held_in w)) one two f.following b)
      → o ≡ counted (counts_in c) (bundle g x (with_held (joined rs ps core) (held_in w)) b)
  handed_read f one two o e p q h =
      h
      ∙ ap (λ (y : Effect). counted (counts_in c) (executed g x (with_held (joined rs ps core) (held_in w)) y two f.following b)) p
      ∙ ap (λ (y : AluEffect). counted (counts_in c) (executed g x (with_held (joined rs ps core) (held_in w)) (slot_one (start_of x.table (joined rs ps core)) f.bundle) y f.following b)) q
      ∙ sym (ap (counted (counts_in c)) (bundle_found g x (with_held (joined rs ps core) (held_in w)) b f e))

-- An outcome by equal counts.
pub counts_as : (a : Returned) (s : State) (b : Buffers) (m n : Counts) (o : Outcome) → m ≡ n → outcome a s n b ≡ o → outcome a s m b ≡ o
counts_as a s b m n o p q = ap (λ (y : Counts). outcome a s y b) p ∙ q
