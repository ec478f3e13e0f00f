-- Public contents of the lent buffers: loads, stores and stack control in both runs, and stores in one run that do not show.
use Rattle.std.specs.Prelude.{ℕ, ◌+◌, ◌-◌, ◌<◌, ◌≤◌, Bool, true, cond, ◌⊎◌, ◌≡◌, leb, length, get_or, drop}
use Rattle.std.proofs.Math.Bool.{false}
use Rattle.std.proofs.lemmas.Bool.{false≢true, not-true}
use mathlib.Core.List.{List}
use Rattle.std.proofs.Common.{inl, inr, subst, ◌∙◌, arith, get_or-take, get_or-drop}
use Rattle.std.proofs.Math.Path.{refl, sym, ap}
use Rattle.big_endian.specs.Bytes.{number_at}
use Rattle.isa.specs.declared.AccessKind.{AccessKind}
use Rattle.isa.specs.declared.AccessKind.TheVariants.{Stack, Local, Cached, Main}
use Rattle.stack_cache.specs.declared.StackControl.{StackControl}
use Rattle.stack_cache.specs.Stack.{spills, fills, spilled, filled, cache_number, put_cache_number}
use Rattle.stack_cache.specs.StackLaws.{length_put_cache_number}
use Rattle.word.specs.BoolLaws.{and_right}
use Rattle.settings.specs.declared.Settings.{Settings}
use Rattle.settings.specs.SetupLaws.{stack_byte, stack_byte_from, stack_byte_below, untouched}
use Rattle.memory.specs.Access.{main_open, access_open, read_number, stored}
use Rattle.core_state.specs.State.{State}
use Rattle.bundle_model.specs.Bundle.{area, stack_moved}
use Rattle.step_laws.proofs.StackKept.{stack_moved_lengths, area_same, stack_moved_area, stack_moved_outside}
use Rattle.marking.specs.declared.Marking.{Marking}
use Rattle.marking.specs.Marking.{private_store}
use Rattle.even_pace.specs.Terms.{Same, private_byte, SameBuffers}
use Rattle.even_pace.specs.SameLaws.{same_refl, same_sym, same_trans, same_public, same_whole, same_number, same_put, same_put_left}
use Rattle.settings.specs.Setup.{Setup, Buffers, is_stack_byte}

-- It is an equivalence.
pub buffers_refl : {m : Marking} {x : Setup} (b : Buffers) → SameBuffers m x b b
buffers_refl b = record { main = same_refl b.main; local = same_refl b.local; cache = same_refl b.cache }

pub buffers_sym : {m : Marking} {x : Setup} {b c : Buffers} → SameBuffers m x b c → SameBuffers m x c b
buffers_sym s = record { main = same_sym s.main; local = same_sym s.local; cache = same_sym s.cache }

pub buffers_trans : {m : Marking} {x : Setup} {b c d : Buffers} → SameBuffers m x b c → SameBuffers m x c d → SameBuffers m x b d
buffers_trans s t = record { main = same_trans s.main t.main; local = same_trans s.local t.local; cache = same_trans s.cache t.cache }

module _ (m : Marking) (g : Settings) (x : Setup) where
  -- A byte that a main access may touch is not the stack's.
  touched : (a n i : ℕ) → main_open g x a n ≡ true → a ≤ i → i < a + n → private_byte m x i ≡ m.main
  unfolding main_open
  touched a n i e p q = go (is_stack_byte x i) refl
    where
      apart : (i < a) ⊎ (a + n ≤ i) → ⊥
      apart (inl h) = omega (arith, h, p)
      apart (inr h) = omega (arith, h, q)

      go : (t : Bool) → is_stack_byte x i ≡ t → cond t m.stack m.main ≡ m.main
      go false f = refl
      go true f = absurd (apart (untouched x i a n (not-true _ (and_right (leb (a + n) g.main) _ e)) f))

  module _ {b₁ b₂ : Buffers} (s : SameBuffers m x b₁ b₂) (st ss : ℕ) where
    -- A load from a public store reads one number.
    pub read_both : (k : AccessKind) (a n : ℕ) → access_open (main_open g x a n) g st ss k a n ≡ true → private_store m k ≡ false
        → read_number b₁ k n a ≡ read_number b₂ k n a
    unfolding access_open private_store read_number
    read_both Stack a n e p = ap (λ (l : List ℕ). cache_number n l a) (same_public m.stack 0 b₁.cache b₂.cache p s.cache)
    read_both Local a n e p = ap (λ (l : List ℕ). number_at n l a) (same_public m.local 0 b₁.local b₂.local p s.local)
    read_both Cached a n e p = same_number s.main n a (λ i h q. touched a n i e h q ∙ p)
    read_both Main a n e p = same_number s.main n a (λ i h q. touched a n i e h q ∙ p)

    -- A store of one value if its store is public.
    pub store_both : (k : AccessKind) (a n v₁ v₂ : ℕ) → access_open (main_open g x a n) g st ss k a n ≡ true → (private_store m k ≡ false → v₁ ≡ v₂)
        → SameBuffers m x (stored b₁ k n a v₁) (stored b₂ k n a v₂)
    unfolding access_open private_store stored
    store_both Stack a n v₁ v₂ e h =
        let c : m.stack ≡ false → b₁.cache ≡ b₂.cache = λ p. same_public m.stack 0 b₁.cache b₂.cache p s.cache in
        record {
          main = s.main;
          local = s.local;
          cache = same_whole m.stack 0 _ _ (length_put_cache_number n b₁.cache a v₁ ∙ s.cache.lengths ∙ sym (length_put_cache_number n b₂.cache a v₂))
              (λ p. λ i. put_cache_number n (c p i) a (h p i));
        }
    store_both Local a n v₁ v₂ e h = record { main = s.main; local = same_put s.local n a v₁ v₂ (λ i p q r. h r); cache = s.cache }
    store_both Cached a n v₁ v₂ e h =
        record { main = same_put s.main n a v₁ v₂ (λ i p q r. h (sym (touched a n i e p q) ∙ r)); local = s.local; cache = s.cache }
    store_both Main a n v₁ v₂ e h =
        record { main = same_put s.main n a v₁ v₂ (λ i p q r. h (sym (touched a n i e p q) ∙ r)); local = s.local; cache = s.cache }

  -- A store to a private store, in one run: nothing shows.
  pub store_quiet : (b : Buffers) (st ss : ℕ) (k : AccessKind) (a n v : ℕ) → access_open (main_open g x a n) g st ss k a n ≡ true → private_store m k ≡ true
      → SameBuffers m x (stored b k n a v) b
  unfolding access_open private_store stored
  store_quiet b st ss Stack a n v e h =
      record {
        main = same_refl b.main;
        local = same_refl b.local;
        cache = same_whole m.stack 0 _ _ (length_put_cache_number n b.cache a v) (λ p. absurd (false≢true (sym p ∙ h)));
      }
  store_quiet b st ss Local a n v e h =
      record { main = same_refl b.main; local = same_put_left (same_refl b.local) n a v (λ i p q. h); cache = same_refl b.cache }
  store_quiet b st ss Cached a n v e h =
      record { main = same_put_left (same_refl b.main) n a v (λ i p q. touched a n i e p q ∙ h); local = same_refl b.local; cache = same_refl b.cache }
  store_quiet b st ss Main a n v e h =
      record { main = same_put_left (same_refl b.main) n a v (λ i p q. touched a n i e p q ∙ h); local = same_refl b.local; cache = same_refl b.cache }

-- A byte of the stack area, in the area.
in_part : (lo hi i : ℕ) (l : List ℕ) → lo ≤ i → i < hi → get_or (area lo hi l) (i - lo) 0 ≡ get_or l i 0
in_part lo hi i l p q =
    let h : lo + (i - lo) ≡ i = omega arith in
    get_or-take (hi - lo) (drop lo l) (i - lo) 0 (omega arith) ∙ get_or-drop lo l (i - lo) 0 ∙ ap (λ (j : ℕ). get_or l j 0) h

-- Stack control moves the same words in both runs. A spill writes the stack area alone.
module _ (m : Marking) (g : Settings) (x : Setup) (ordered : x.lo ≤ x.hi) (s : State) (c : StackControl) (n : ℕ) {b₁ b₂ : Buffers}
    (same : SameBuffers m x b₁ b₂) (inside : x.hi ≤ length b₁.main) where
  inside₂ : x.hi ≤ length b₂.main
  inside₂ = subst (λ (k : ℕ). x.hi ≤ k) same.main.lengths inside

  cache_same : m.stack ≡ false → b₁.cache ≡ b₂.cache
  cache_same p = same_public m.stack 0 b₁.cache b₂.cache p same.cache

  of_stack : (i : ℕ) → is_stack_byte x i ≡ true → private_byte m x i ≡ m.stack
  of_stack i e = rw e

  part_same : m.stack ≡ false → area x.lo x.hi b₁.main ≡ area x.lo x.hi b₂.main
  part_same p = area_same x.lo x.hi b₁.main b₂.main same.main.lengths (λ i q r. same.main.places i (of_stack i (stack_byte x i q r) ∙ p))

  moved_area : m.stack ≡ false → area x.lo x.hi (stack_moved g x s c n b₁).main ≡ area x.lo x.hi (stack_moved g x s c n b₂).main
  moved_area p =
      stack_moved_area g x s c n b₁ ordered inside
      ∙ (λ i. spilled (cache_same p i) x.lo (part_same p i) (spills c g.words s.specials.st s.specials.ss n))
      ∙ sym (stack_moved_area g x s c n b₂ ordered inside₂)

  moved_byte : (i : ℕ) → private_byte m x i ≡ false → get_or (stack_moved g x s c n b₁).main i 0 ≡ get_or (stack_moved g x s c n b₂).main i 0
  moved_byte i p = go (is_stack_byte x i) refl
    where
      go : (t : Bool) → is_stack_byte x i ≡ t → get_or (stack_moved g x s c n b₁).main i 0 ≡ get_or (stack_moved g x s c n b₂).main i 0
      go false f =
          stack_moved_outside g x s c n b₁ ordered inside i f ∙ same.main.places i p ∙ sym (stack_moved_outside g x s c n b₂ ordered inside₂ i f)
      go true f =
          let z = stack_byte_from x i f in
          let y = stack_byte_below x i f in
          sym (in_part x.lo x.hi i (stack_moved g x s c n b₁).main z y)
          ∙ ap (λ (l : List ℕ). get_or l (i - x.lo) 0) (moved_area (sym (of_stack i f) ∙ p))
          ∙ in_part x.lo x.hi i (stack_moved g x s c n b₂).main z y

  moved_cache : m.stack ≡ false → (stack_moved g x s c n b₁).cache ≡ (stack_moved g x s c n b₂).cache
  unfolding stack_moved
  moved_cache p = λ i. filled (part_same p i) x.lo (cache_same p i) (fills c s.specials.st s.specials.ss n)

  moved_local : Same (λ a. m.local) 0 (stack_moved g x s c n b₁).local (stack_moved g x s c n b₂).local
  unfolding stack_moved
  moved_local = same.local

  pub moved_both : SameBuffers m x (stack_moved g x s c n b₁) (stack_moved g x s c n b₂)
  moved_both =
      let k₁ = stack_moved_lengths g x s c n b₁ ordered in
      let k₂ = stack_moved_lengths g x s c n b₂ ordered in
      record {
        main = record { lengths = k₁.main ∙ same.main.lengths ∙ sym k₂.main; places = moved_byte };
        local = moved_local;
        cache = same_whole m.stack 0 _ _ (k₁.cache ∙ same.cache.lengths ∙ sym k₂.cache) moved_cache;
      }
