-- What a bundle keeps of the buffers: their lengths, and the bytes outside the stack area where it moves stack words; and the window
-- that a stack instruction leaves.
use Rattle.std.specs.Prelude.{ℕ, ◌+◌, ◌-◌, ◌^◌, ◌<◌, ◌≤◌, Bool, true, false, List, ◌++◌, ◌≡◌, ◌⊎◌, length, get_or, take, drop, Ok, Err}
use Rattle.std.proofs.Math.Path.{refl, subst}
use Rattle.std.proofs.Common.{sym, ap, ◌∙◌, inl, inr, arith, le_trans, length-take, length-drop, length-take-le, get_or-take, get_or-drop, take_at, drop_at, ext_get_or}
use Rattle.std.proofs.lemmas.Bool.{not-false}
use borrow.Rule.Slice.PartMut.{put_mid, Post-is, same_len_mid, mid_len, take_put, drop_put}
use Rattle.big_endian.specs.BytesLaws.{length_put_number}
use Rattle.isa.specs.declared.AccessKind.{AccessKind}
use Rattle.isa.specs.declared.AccessKind.TheVariants as kind
use Rattle.isa.specs.declared.LoadWidth.{LoadWidth}
use Rattle.stack_cache.specs.declared.StackControl.{StackControl}
use Rattle.stack_cache.specs.Stack.{spills, fills, spilled, top_after, spill_after, bad_window, in_area, spill_open, fill_open, every, moved_outside, moves, planned}
use Rattle.stack_cache.specs.Count.{Accepted}
use Rattle.stack_control.specs.PlanLaws.{spills_window, moves_window}
use Rattle.stack_cache.specs.StackLaws.{length_put_cache_number, length_spilled, length_filled}
use Rattle.word.specs.BoolLaws.{and_left, and_right}
use Rattle.stack_cache.specs.RangeLaws.{every_at, in_area_lem}
use Rattle.settings.specs.declared.Settings.{Settings}
use Rattle.core_state.specs.State.{State}
use Rattle.alu_effects.specs.declared.AluEffect.{AluEffect}
use Rattle.effects.specs.declared.Effect.{Effect}
use Rattle.effects.specs.declared.Effect.TheVariants as effect
use Rattle.answers.specs.Answer.{done}
use Rattle.settings.specs.SettingsLaws.{area_ordered}
use Rattle.settings.specs.SetupLaws.{stack_byte_not, untouched}
use Rattle.answers.specs.TestLaws.{fine_applies, fine_both}
use Rattle.memory.specs.Access.{stored, store_scale, access_open, access_tests}
use Rattle.bundle_model.specs.Lookup.{lookups, lookup_tests}
use Rattle.bundle_model.specs.Refusal.{effect_tests, slot_tests, bundle_tests}
use Rattle.bundle_model.specs.Bundle.{area, with_area, stack_moved, buffers_after, write_one, written, bundle, attempt, step}
use Rattle.bundle_model.specs.Interrupt.{taken}
use Rattle.step_laws.specs.StepCases.{effect_at, judged, bundle_cases, bundle_fine, bundle_done_as, attempt_cases}
use Rattle.step_laws.proofs.StepCases.{step_cases}
use Rattle.step_laws.proofs.KeptLaws.{write_alu_cases, onward_cases}
use Rattle.step_laws.specs.LookupLaws.{Found}
use Rattle.settings.specs.Setup.{Setup, Buffers, settings, lent, is_stack_byte}
use Rattle.answers.specs.Test.{verdict as verdict_of}
use Rattle.fetch.specs.Fetch.{bundle_at, outside_code, is_undecodable, fetch_tests}

-- Buffers of the same lengths.
pub record SameLengths (b b' : Buffers) : Type 0 where
  pub main : length b'.main ≡ length b.main
  pub local : length b'.local ≡ length b.local
  pub cache : length b'.cache ≡ length b.cache

pub lengths_same : (b : Buffers) → SameLengths b b
lengths_same b = record { main = refl; local = refl; cache = refl }

-- A store of n bytes of any kind keeps the lengths.
pub stored_lengths : (b : Buffers) (k : AccessKind) (n a v : ℕ) → SameLengths b (stored b k n a v)
unfolding stored
stored_lengths b kind.Stack n a v = record { main = refl; local = refl; cache = length_put_cache_number n b.cache a v }
stored_lengths b kind.Local n a v = record { main = refl; local = length_put_number n b.local a v; cache = refl }
stored_lengths b kind.Cached n a v = record { main = length_put_number n b.main a v; local = refl; cache = refl }
stored_lengths b kind.Main n a v = record { main = length_put_number n b.main a v; local = refl; cache = refl }

-- Main memory with its area replaced is the list with its middle replaced.
pub with_area_put : (lo hi : ℕ) (m part : List ℕ) → lo ≤ hi → with_area lo hi m part ≡ put_mid lo (hi - lo) m part
with_area_put lo hi m part h = ap (λ (l : List ℕ). take lo m ++ (part ++ l)) (sym (Post-is lo hi m h))

-- So do the words of a stack instruction moved.
pub stack_moved_lengths : (g : Settings) (x : Setup) (s : State) (c : StackControl) (n : ℕ) (b : Buffers) → x.lo ≤ x.hi → SameLengths b (stack_moved g x s c n b)
unfolding stack_moved
stack_moved_lengths g x s c n b h =
    let part = area x.lo x.hi b.main in
    let addresses = spills c g.words s.specials.st s.specials.ss n in
    record {
      main = ap length (with_area_put x.lo x.hi b.main (spilled b.cache x.lo part addresses) h)
          ∙ same_len_mid x.lo (x.hi - x.lo) b.main (spilled b.cache x.lo part addresses) (length_spilled b.cache x.lo part addresses);
      local = refl;
      cache = length_filled part x.lo b.cache (fills c s.specials.st s.specials.ss n);
    }

-- So does slot one, whatever its effect.
pub buffers_after_lengths : (g : Settings) (x : Setup) (s : State) (e : Effect) (b : Buffers) → x.lo ≤ x.hi → SameLengths b (buffers_after g x s e b)
unfolding buffers_after
buffers_after_lengths g x s (effect.Alu a) b h = lengths_same b
buffers_after_lengths g x s (effect.Special d v) b h = lengths_same b
buffers_after_lengths g x s (effect.Product l k) b h = lengths_same b
buffers_after_lengths g x s (effect.Load k w r a) b h = lengths_same b
buffers_after_lengths g x s (effect.Store k w a v) b h = stored_lengths b k (2 ^ store_scale w) a v
buffers_after_lengths g x s (effect.Stack c n m) b h = stack_moved_lengths g x s c n b h
buffers_after_lengths g x s (effect.Transfer d t) b h = lengths_same b
buffers_after_lengths g x s (effect.Trap vector handler) b h = lengths_same b

-- So does a bundle.
pub bundle_lengths : (g : Settings) (x : Setup) (s : State) (b : Buffers) → x.lo ≤ x.hi → SameLengths b (bundle g x s b).buffers
bundle_lengths g x s b h = bundle_cases g x s b (λ o. SameLengths b o.buffers) (λ n j. lengths_same b) (λ j. buffers_after_lengths g x s (effect_at x s) b h)

-- So does a bundle as it is tried.
pub attempt_lengths : (g : Settings) (x : Setup) (s : State) (b : Buffers) → x.lo ≤ x.hi → SameLengths b (attempt g x s b).buffers
attempt_lengths g x s b h =
    attempt_cases g x s b (λ o. SameLengths b o.buffers) (λ n j. lengths_same b) (λ j. buffers_after_lengths g x (taken x s) (effect_at x (taken x s)) b h)

-- So does a step, with no condition: where it does its bundle the settings are inside the limits.
pub step_lengths : (x : Setup) (s : State) (b : Buffers) → SameLengths b (step x s b).buffers
step_lengths x s b =
    step_cases x s b (λ o. SameLengths b o.buffers) (λ a p. lengths_same b)
    (λ p j. buffers_after_lengths (lent x b) x (taken x s) (effect_at x (taken x s)) b (area_ordered (lent x b) p.admitted))

-- Buffers of the same lengths make the same settings.
pub lent_same : (x : Setup) (b b' : Buffers) → SameLengths b b' → lent x b' ≡ lent x b
lent_same x b b' h = λ i. settings x (h.main i) (h.local i) (h.cache i)

-- Lists that are equal up to a place, or from a place on, have the same elements there.
same_take : (k : ℕ) (l m : List ℕ) (i : ℕ) → i < k → take k l ≡ take k m → get_or l i 0 ≡ get_or m i 0
same_take k l m i h e = sym (get_or-take k l i 0 h) ∙ ap (λ (x : List ℕ). get_or x i 0) e ∙ get_or-take k m i 0 h

same_drop : (k : ℕ) (l m : List ℕ) (i : ℕ) → k ≤ i → drop k l ≡ drop k m → get_or l i 0 ≡ get_or m i 0
same_drop k l m i h e =
    let p : k + (i - k) ≡ i = omega arith in
    rw p at (sym (get_or-drop k l (i - k) 0) ∙ ap (λ (x : List ℕ). get_or x (i - k) 0) e ∙ get_or-drop k m (i - k) 0)

-- Memories of one length with the same bytes from lo to hi have the same area.
pub area_same : (lo hi : ℕ) (l m : List ℕ) → length l ≡ length m → ((i : ℕ) → lo ≤ i → i < hi → get_or l i 0 ≡ get_or m i 0) → area lo hi l ≡ area lo hi m
area_same lo hi l m e h =
    ext_get_or 0 (area lo hi l) (area lo hi m) (simp (length-take, length-drop, e)) (λ i p.
    let q : i < hi - lo = omega (arith, simp (length-take, length-drop) at p) in
    rw (get_or-take (hi - lo) (drop lo l) i 0 q, get_or-take (hi - lo) (drop lo m) i 0 q, get_or-drop lo l i 0, get_or-drop lo m i 0) (h (lo + i) (omega arith) (omega arith)))

-- Stack control and the memories.
module _ (g : Settings) (x : Setup) (s : State) (c : StackControl) (n : ℕ) (b : Buffers) where
  -- Local memory is untouched.
  pub stack_moved_local : (stack_moved g x s c n b).local ≡ b.local
  unfolding stack_moved
  stack_moved_local = refl

  module _ (ordered : x.lo ≤ x.hi) (inside : x.hi ≤ length b.main) where
    abbrev part : List ℕ
    part = spilled b.cache x.lo (area x.lo x.hi b.main) (spills c g.words s.specials.st s.specials.ss n)

    part_length : length part ≡ x.hi - x.lo
    part_length = length_spilled b.cache x.lo (area x.lo x.hi b.main) (spills c g.words s.specials.st s.specials.ss n) ∙ mid_len x.lo x.hi b.main inside

    moved : (stack_moved g x s c n b).main ≡ put_mid x.lo (x.hi - x.lo) b.main part
    unfolding stack_moved
    moved = with_area_put x.lo x.hi b.main part ordered

    -- Main memory below the stack area is untouched.
    pub stack_moved_below : take x.lo (stack_moved g x s c n b).main ≡ take x.lo b.main
    stack_moved_below = ap (take x.lo) moved ∙ take_put x.lo (x.hi - x.lo) b.main part (le_trans ordered inside)

    -- Main memory from the stack area's end on is untouched.
    pub stack_moved_above : drop x.hi (stack_moved g x s c n b).main ≡ drop x.hi b.main
    stack_moved_above = ap (drop x.hi) moved ∙ drop_put x.lo x.hi b.main part ordered inside part_length

    -- The stack area is the old one with the words spilled into it.
    pub stack_moved_area : area x.lo x.hi (stack_moved g x s c n b).main ≡ spilled b.cache x.lo (area x.lo x.hi b.main) (spills c g.words s.specials.st s.specials.ss n)
    stack_moved_area =
        ap (area x.lo x.hi) moved
        ∙ ap (take (x.hi - x.lo)) (drop_at (take x.lo b.main) _ x.lo (length-take-le x.lo b.main (le_trans ordered inside)))
        ∙ take_at part _ (x.hi - x.lo) part_length

    -- No byte but the stack's changes.
    pub stack_moved_outside : (i : ℕ) → is_stack_byte x i ≡ false → get_or (stack_moved g x s c n b).main i 0 ≡ get_or b.main i 0
    stack_moved_outside i e = go (stack_byte_not x i e)
      where
        go : (i < x.lo) ⊎ (x.hi ≤ i) → get_or (stack_moved g x s c n b).main i 0 ≡ get_or b.main i 0
        go (inl h) = same_take x.lo _ _ i h stack_moved_below
        go (inr h) = same_drop x.hi _ _ i h stack_moved_above

-- No test refuses an effect.
abbrev pub Passed : Settings → Setup → State → Effect → Type 0
Passed g x s e = verdict_of (effect_tests g x s e) ≡ Ok tt

-- An access that no test refuses is open.
pub passed_open : (main : Bool) (g : Settings) (st ss : ℕ) (k : AccessKind) (a n : ℕ) → verdict_of (access_tests main g st ss k a n) ≡ Ok tt
    → access_open main g st ss k a n ≡ true
passed_open main g st ss k a n p = not-false _ (fine_applies 6 (access_tests main g st ss k a n) p)

-- A bundle judged fine.
module _ (g : Settings) (x : Setup) (s : State) (fine : judged g x s ≡ Ok tt) where
  -- It lies in the code.
  pub fine_inside : outside_code x.code s.fetch ≡ false
  fine_inside = fine_applies 2 (bundle_tests g x s (effect_at x s)) fine

  -- It is decodable.
  pub fine_decodable : is_undecodable (bundle_at x.code s.fetch) ≡ false
  fine_decodable = fine_applies 3 (bundle_tests g x s (effect_at x s)) fine

  fine_slot : verdict_of (slot_tests g x s (effect_at x s)) ≡ Ok tt
  fine_slot = (fine_both (fetch_tests x.code s.fetch) (slot_tests g x s (effect_at x s)) fine).1

  -- No test refuses slot one's effect.
  pub fine_effect : (e : Effect) → effect_at x s ≡ e → Passed g x s e
  unfolding slot_tests
  fine_effect e p =
      subst (λ (y : Effect). Passed g x s y) p
      (fine_both (effect_tests g x s (effect_at x s)) (lookup_tests x.method x.code (lookups x (effect_at x s))) fine_slot).0

  -- Nor what it looks up.
  pub fine_lookups : Found x (effect_at x s)
  unfolding slot_tests
  fine_lookups = (fine_both (effect_tests g x s (effect_at x s)) (lookup_tests x.method x.code (lookups x (effect_at x s))) fine_slot).1

-- No test refuses slot one's effect in a bundle that answers Done.
pub done_passed : (g : Settings) (x : Setup) (s : State) (b : Buffers) → (bundle g x s b).answer ≡ done → (e : Effect) → effect_at x s ≡ e → Passed g x s e
done_passed g x s b d = fine_effect g x s (bundle_fine g x s b d)

-- A stack instruction that no test refuses.
module _ (g : Settings) (x : Setup) (s : State) (c : StackControl) (n : ℕ) (m : Bool) (p : Passed g x s (effect.Stack c n m)) where
  -- Its window and its amount are good.
  pub stack_accepted : Accepted c g.words s.specials.st s.specials.ss n
  stack_accepted = fine_applies 7 (effect_tests g x s (effect.Stack c n m)) p

  -- The words it moves lie in the stack area.
  moves_inside : moved_outside c g.words x.lo x.hi s.specials.st s.specials.ss n ≡ false
  moves_inside = fine_applies 8 (effect_tests g x s (effect.Stack c n m)) p

  -- Its plan is to move.
  pub stack_planned : planned c g.words x.lo x.hi s.specials.st s.specials.ss n
      ≡ Ok (moves (top_after c s.specials.st n) (spill_after c g.words s.specials.st s.specials.ss n) (length (spills c g.words s.specials.st s.specials.ss n)) (length (fills c s.specials.st s.specials.ss n)))
  unfolding planned
  stack_planned = rw (stack_accepted, moves_inside)

  -- Each word it spills lies in the window before it.
  pub spills_from_window : s.specials.ss < 2 ^ 32 → (i : ℕ) → i < length (spills c g.words s.specials.st s.specials.ss n)
      → (s.specials.st ≤ get_or (spills c g.words s.specials.st s.specials.ss n) i 0) × (get_or (spills c g.words s.specials.st s.specials.ss n) i 0 + 4 ≤ s.specials.ss)
  spills_from_window h i q =
      let l = spills c g.words s.specials.st s.specials.ss n in
      in_area_lem s.specials.st s.specials.ss (get_or l i 0) (every_at (in_area s.specials.st s.specials.ss) l (spills_window c g.words s.specials.st s.specials.ss n stack_accepted h) i q)

  -- Every word it spills may be spilled.
  pub spills_open : every (spill_open x.lo x.hi) (spills c g.words s.specials.st s.specials.ss n) ≡ true
  unfolding moved_outside
  spills_open = and_left (every (spill_open x.lo x.hi) (spills c g.words s.specials.st s.specials.ss n)) _ (not-false _ moves_inside)

  -- Every word it fills may be filled.
  pub fills_open : every (fill_open x.lo x.hi) (fills c s.specials.st s.specials.ss n) ≡ true
  unfolding moved_outside
  fills_open = and_right (every (spill_open x.lo x.hi) (spills c g.words s.specials.st s.specials.ss n)) _ (not-false _ moves_inside)

  -- Each word it spills lies in the stack area.
  pub spills_in_area : (i : ℕ) → i < length (spills c g.words s.specials.st s.specials.ss n)
      → (x.lo ≤ get_or (spills c g.words s.specials.st s.specials.ss n) i 0) × (get_or (spills c g.words s.specials.st s.specials.ss n) i 0 + 4 ≤ x.hi)
  spills_in_area i q = in_area_lem x.lo x.hi _ (every_at (spill_open x.lo x.hi) _ spills_open i q)

  -- Each word it fills lies in the stack area.
  pub fills_in_area : (i : ℕ) → i < length (fills c s.specials.st s.specials.ss n)
      → (x.lo ≤ get_or (fills c s.specials.st s.specials.ss n) i 0) × (get_or (fills c s.specials.st s.specials.ss n) i 0 + 4 ≤ x.hi)
  fills_in_area i q = in_area_lem x.lo x.hi _ (every_at (fill_open x.lo x.hi) _ fills_open i q)

-- The state after a stack instruction.
module _ (g : Settings) (x : Setup) (b : Buffers) (s : State) (c : StackControl) (n : ℕ) (m : Bool) (two : AluEffect) (following : ℕ) where
  -- Its st and ss are what the instruction makes them: slot two and the end of the bundle leave them.
  pub written_stack : ((written g b s (effect.Stack c n m) two following).specials.st ≡ top_after c s.specials.st n)
      × ((written g b s (effect.Stack c n m) two following).specials.ss ≡ spill_after c g.words s.specials.st s.specials.ss n)
  unfolding written write_one
  written_stack =
      onward_cases is following _ (effect.Stack c n m) s.transfer (λ srb sro sxb sxo fetch base w active q. write_alu_cases is two _ (λ rs ps. (refl, refl)))
    where
      is : State → Type 0
      is t = (t.specials.st ≡ top_after c s.specials.st n) × (t.specials.ss ≡ spill_after c g.words s.specials.st s.specials.ss n)

  -- Its window is good again.
  pub window_again : Passed g x s (effect.Stack c n m) → s.specials.ss < 2 ^ 32 → x.hi < 2 ^ 32
      → bad_window g.words (written g b s (effect.Stack c n m) two following).specials.st (written g b s (effect.Stack c n m) two following).specials.ss ≡ false
  window_again p h q =
      rw (written_stack.0, written_stack.1)
      (moves_window c g.words x.lo x.hi s.specials.st s.specials.ss n _ _ _ _ (stack_planned g x s c n m p) h q)

-- The window after a stack instruction's bundle that answers Done is good again.
pub bundle_window : (g : Settings) (x : Setup) (s : State) (b : Buffers) (c : StackControl) (n : ℕ) (m : Bool) → effect_at x s ≡ effect.Stack c n m
    → (bundle g x s b).answer ≡ done → s.specials.ss < 2 ^ 32 → x.hi < 2 ^ 32
    → bad_window g.words (bundle g x s b).state.specials.st (bundle g x s b).state.specials.ss ≡ false
bundle_window g x s b c n m e d h q =
    rw (bundle_done_as g x s b (effect.Stack c n m) e d) (window_again g x b s c n m _ _ (done_passed g x s b d (effect.Stack c n m) e) h q)

-- A load changes no buffer.
pub load_buffers : (g : Settings) (x : Setup) (s : State) (k : AccessKind) (w : LoadWidth) (r a : ℕ) (b : Buffers) → buffers_after g x s (effect.Load k w r a) b ≡ b
unfolding buffers_after
load_buffers g x s k w r a b = refl
