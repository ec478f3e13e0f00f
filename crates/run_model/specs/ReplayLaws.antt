-- A replay: what a step and a run do to the place, the bundles done and the handler's mark. At most one record is taken in a bundle, records are
-- taken in list order, none while a transfer waits or a handler is active, and a refused bundle leaves all as it was.
use Prim.Native.Nat.{ℕ, zero, suc, ◌+◌, ◌%◌, ◌<◌, ◌≤◌}
use Rattle.std.specs.Prelude.{Bool, cond, ◌&&◌, ◌≡◌, eqb, length}
use Rattle.std.proofs.Math.Bool.{true, false, not}
use mathlib.Core.List.{List, [], ◌∷◌, ◌++◌}
use Rattle.std.proofs.Math.Path.{refl, ap}
use Rattle.std.proofs.Common.{sym, subst, ◌∙◌, arith}
use borrow.Author.Tests.{ltb-true, leb-true, lt-ltb}
use Rattle.std.proofs.Math.Dec.{ltb, leb}
use Rattle.word.specs.BoolLaws.{and_left, and_right}
use Rattle.answers.specs.Answer.{Returned, accepted, done, ended, spent, refused}
use Rattle.replay.specs.Replay.{records, number_of, one_more, records_ok, replay_ok, due_in}
use Rattle.settings.specs.declared.Settings.{Settings}
use Rattle.settings.specs.Setup.{Setup, Buffers, lent}
use Rattle.alu_effects.specs.declared.AluEffect.{AluEffect}
use Rattle.effects.specs.declared.Effect.{Effect}
use Rattle.effects.specs.declared.Effect.TheVariants as effect
use Rattle.core_state.specs.declared.WaitingLoad.{WaitingLoad}
use Rattle.core_state.specs.declared.WaitingLoad.TheVariants as load
use Rattle.core_state.specs.State.{State, none_waits, entered, with_register, landing, landed, arrived}
use Rattle.bundle_model.specs.Interrupt.{due, taken}
use Rattle.bundle_model.specs.InterruptLaws.{due_taken, none_taken}
use Rattle.bundle_model.specs.Bundle.{Outcome, if_done, write_one, written, step}
use Rattle.step_laws.specs.StepCases.{is_done}
use Rattle.step_laws.proofs.StepCases.{step_cases, step_unchanged, step_going}
use Rattle.step_laws.proofs.KeptLaws.{with_special_cases, write_alu_cases, arrived_cases, onward_cases}

abbrev pub place_of : State → ℕ
place_of s = s.further.replay.place

abbrev pub done_of : State → ℕ
done_of s = s.further.replay.done

-- The place and the bundles done are these: no write of a bundle changes them.
abbrev Far : ℕ → ℕ → State → Type 0
Far p d s = (place_of s ≡ p) × (done_of s ≡ d)

module _ (p d : ℕ) where
  landed_far : (s : State) → Far p d s → Far p d (landed s)
  unfolding landed with_register
  landed_far s h = go s.load
    where
      go : (l : WaitingLoad) → Far p d (landing l s)
      go load.Nothing = h
      go (load.Waits r v) = h

  one_far : (g : Settings) (b : Buffers) (from : State) (e : Effect) (onto : State) → Far p d onto → Far p d (write_one g b from e onto)
  unfolding write_one
  one_far g b from (effect.Alu a) onto h = write_alu_cases (Far p d) a onto (λ rs ps. h)
  one_far g b from (effect.Special x v) onto h = with_special_cases (Far p d) onto x v h (λ y. h)
  one_far g b from (effect.Product x y) onto h = h
  one_far g b from (effect.Load k w r a) onto h = h
  one_far g b from (effect.Store k w a v) onto h = h
  one_far g b from (effect.Stack c n m) onto h = h
  one_far g b from (effect.Transfer x t) onto h = h
  one_far g b from (effect.Trap vector handler) onto h = h

  written_far : (g : Settings) (b : Buffers) (s : State) (one : Effect) (two : AluEffect) (following : ℕ) → Far p d s → Far p d (written g b s one two following)
  unfolding written
  written_far g b s one two following h =
      let onto = arrived_cases (Far p d) (landed s) (λ x. landed_far s h) in
      let t = one_far g b s one (arrived (landed s)) onto in
      onward_cases (Far p d) following _ one s.transfer (λ srb sro sxb sxo fetch base w active q. write_alu_cases (Far p d) two _ (λ rs ps. t))

-- Taking a record goes one place on.
abbrev pub next_place : Setup → State → ℕ
next_place x s = cond (due x s) (one_more (place_of s)) (place_of s)

taken_far : (x : Setup) (s : State) → Far (next_place x s) (done_of s) (taken x s)
unfolding entered
taken_far x s = go (due x s) refl
  where
    go : (t : Bool) → due x s ≡ t → Far (cond t (one_more (place_of s)) (place_of s)) (done_of s) (taken x s)
    go true e = subst (Far (one_more (place_of s)) (done_of s)) (sym (due_taken x s e)) (refl, refl)
    go false e = subst (Far (place_of s) (done_of s)) (sym (none_taken x s e)) (refl, refl)

module _ (x : Setup) (s : State) (b : Buffers) where
  -- A step that is done goes one place on if a record was due, and else none; and it is one bundle more.
  pub step_place : (step x s b).answer ≡ done → place_of (step x s b).state ≡ next_place x s
  step_place = step_cases x s b (λ o. o.answer ≡ done → place_of o.state ≡ next_place x s) (λ a p e. cc) (λ p j e. (written_far _ _ (lent x b) b (taken x s) _ _ _ (taken_far x s)).0)

  pub step_counts_done : (step x s b).answer ≡ done → done_of (step x s b).state ≡ one_more (done_of s)
  step_counts_done = step_cases x s b (λ o. o.answer ≡ done → done_of o.state ≡ one_more (done_of s)) (λ a p e. cc) (λ p j e. ap one_more (written_far _ _ (lent x b) b (taken x s) _ _ _ (taken_far x s)).1)

  -- Any other step leaves the place, the mark, the count and the special registers.
  pub step_leaves : (a : Returned) → is_done a ≡ false → (step x s b).answer ≡ a → ((step x s b).state.further ≡ s.further) × ((step x s b).state.specials ≡ s.specials)
  step_leaves a n e = let same = step_unchanged x s b a n e in (ap (λ (o : Outcome). o.state.further) same, ap (λ (o : Outcome). o.state.specials) same)

  -- None is due while a transfer waits or a handler is active, or before its number of bundles is done, or at the list's end.
  pub due_only : due x s ≡ true → (none_waits s.transfer ≡ true) × (not s.further.replay.active ≡ true) × (place_of s < records x.list) × (number_of x.list (place_of s) ≤ done_of s)
  unfolding due due_in
  due_only e =
      let r = s.further.replay in
      let in_list = ltb r.place (records x.list) in
      let number = leb (number_of x.list r.place) r.done in
      let first = and_left ((in_list && number) && not r.active) (none_waits s.transfer) e in
      let both = and_left (in_list && number) (not r.active) first in (
        and_right ((in_list && number) && not r.active) (none_waits s.transfer) e,
        and_right (in_list && number) (not r.active) first,
        ltb-true r.place (records x.list) (and_left in_list number both),
        leb-true (number_of x.list r.place) r.done (and_right in_list number both),
      )

-- The places of the records that a run takes, in order: those of the bundles that it does, at most one of each.
unfoldable pub places_taken : Setup → ℕ → State → Buffers → List ℕ
places_taken x zero s b = []
places_taken x (suc k) s b =
    let o = step x s b in
    if_done o.answer (cond (due x s) (place_of s ∷ []) [] ++ places_taken x k o.state o.buffers) []

-- So many places one after the other.
unfoldable pub up_from : ℕ → ℕ → List ℕ
up_from p zero = []
up_from p (suc m) = p ∷ up_from (p + 1) m

-- A place in a list that 15 lets pass is a word, and so is the next.
one_on : (x : Setup) (s : State) → replay_ok x.list x.table ≡ true → due x s ≡ true → one_more (place_of s) ≡ place_of s + 1
unfolding one_more replay_ok
one_on x s r e =
    let whole = and_left ((eqb (length x.list % 8) 0 && leb (records x.list) 4294967295) && eqb (length x.table) 128) (records_ok x.list (records x.list) 0 0) r in
    let lengths = and_left (eqb (length x.list % 8) 0 && leb (records x.list) 4294967295) (eqb (length x.table) 128) whole in
    let few = leb-true (records x.list) 4294967295 (and_right (eqb (length x.list % 8) 0) (leb (records x.list) 4294967295) lengths) in
    ap (λ (t : Bool). cond t (place_of s + 1) (place_of s)) (lt-ltb (place_of s) 4294967295 (omega (arith, few, (due_only x s (record { main = []; local = []; cache = [] }) e).2)))

module _ (x : Setup) where
  -- What a bundle that is done takes, in front of what the rest takes from the place that it leaves.
  before_rest : (s : State) (p : ℕ) (rest : List ℕ) (t : Bool) → due x s ≡ t → replay_ok x.list x.table ≡ true
      → p ≡ cond t (one_more (place_of s)) (place_of s) → rest ≡ up_from p (length rest)
      → cond t (place_of s ∷ []) [] ++ rest ≡ up_from (place_of s) (length (cond t (place_of s ∷ []) [] ++ rest))
  unfolding up_from
  before_rest s p rest true e r q h = ap (λ (l : List ℕ). place_of s ∷ l) (h ∙ ap (λ (n : ℕ). up_from n (length rest)) (q ∙ one_on x s r e))
  before_rest s p rest false e r q h = h ∙ ap (λ (n : ℕ). up_from n (length rest)) q

  -- The records that a run takes stand one after the other in the list, from the place on at which it begins.
  pub taken_in_order : (k : ℕ) (s : State) (b : Buffers) → places_taken x k s b ≡ up_from (place_of s) (length (places_taken x k s b))
  unfolding places_taken up_from
  taken_in_order zero s b = refl
  taken_in_order (suc k) s b = go (step x s b).answer refl (taken_in_order k (step x s b).state (step x s b).buffers)
    where
      rest : List ℕ
      rest = places_taken x k (step x s b).state (step x s b).buffers

      all : List ℕ
      all = cond (due x s) (place_of s ∷ []) [] ++ places_taken x k (step x s b).state (step x s b).buffers

      go : (a : Returned) → (step x s b).answer ≡ a → places_taken x k (step x s b).state (step x s b).buffers ≡ up_from (place_of (step x s b).state) (length (places_taken x k (step x s b).state (step x s b).buffers))
          → if_done a all [] ≡ up_from (place_of s) (length (if_done a all []))
      go done e h = before_rest s _ _ (due x s) refl (step_going x s b e).replay (step_place x s b e) h
      go accepted e h = refl
      go ended e h = refl
      go spent e h = refl
      go (refused n) e h = refl
