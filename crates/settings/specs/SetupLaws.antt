-- Bytes of the stack, and accesses that do not touch them.
use Rattle.std.specs.Prelude.{ℕ, ◌+◌, ◌<◌, ◌≤◌, Bool, ◌&&◌, ◌⊎◌}
use Rattle.std.proofs.Math.Bool.{true, false}
use Rattle.std.proofs.lemmas.Bool.{false≢true}
use Rattle.std.proofs.Math.Path.{◌≡◌, refl}
use Rattle.std.proofs.Common.{sym, arith}
use Rattle.std.proofs.Math.Logic.{inl, inr}
use borrow.Author.Tests.{leb-true, leb-false, ltb-true, ltb-false, lt-ltb, le-leb}
use Rattle.std.proofs.Math.Dec.{leb, ltb}
use Rattle.word.specs.BoolLaws.{and_left, and_right}
use Rattle.settings.specs.Setup.{Setup, is_stack_byte, touches, touches_stack}

module _ (x : Setup) (i : ℕ) where
  -- A byte from lo to hi is the stack's, and no other.
  pub stack_byte : x.lo ≤ i → i < x.hi → is_stack_byte x i ≡ true
  unfolding is_stack_byte
  stack_byte p q = rw (le-leb _ _ p, lt-ltb _ _ q)

  pub stack_byte_from : is_stack_byte x i ≡ true → x.lo ≤ i
  unfolding is_stack_byte
  stack_byte_from e = leb-true x.lo i (and_left (leb x.lo i) (ltb i x.hi) e)

  pub stack_byte_below : is_stack_byte x i ≡ true → i < x.hi
  unfolding is_stack_byte
  stack_byte_below e = ltb-true i x.hi (and_right (leb x.lo i) (ltb i x.hi) e)

  pub stack_byte_not : is_stack_byte x i ≡ false → (i < x.lo) ⊎ (x.hi ≤ i)
  unfolding is_stack_byte
  stack_byte_not = go (leb x.lo i) (ltb i x.hi) refl refl
    where
      go : (t u : Bool) → leb x.lo i ≡ t → ltb i x.hi ≡ u → (t && u) ≡ false → (i < x.lo) ⊎ (x.hi ≤ i)
      go false u f h e = inl (leb-false x.lo i f)
      go true false f h e = inr (ltb-false i x.hi h)
      go true true f h e = absurd (false≢true (sym e))

  -- A byte of the stack is none of n bytes that do not touch it.
  pub untouched : (a n : ℕ) → touches_stack x a n ≡ false → is_stack_byte x i ≡ true → (i < a) ⊎ (a + n ≤ i)
  unfolding touches
  untouched a n e s = go (ltb a x.hi) (ltb x.lo (a + n)) refl refl
    where
      go : (t u : Bool) → ltb a x.hi ≡ t → ltb x.lo (a + n) ≡ u → (i < a) ⊎ (a + n ≤ i)
      go false u f h = inl (omega (arith, ltb-false a x.hi f, stack_byte_below s))
      go true false f h = inr (omega (arith, ltb-false x.lo (a + n) h, stack_byte_from s))
      go true true f h =
          let z : ◌≡◌ {A = ℕ} 0 1 = cc (lt-ltb x.lo x.hi (omega (arith, stack_byte_from s, stack_byte_below s))) in
          absurd (omega arith)
