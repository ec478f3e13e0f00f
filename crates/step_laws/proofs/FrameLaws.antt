-- The frame of a step: the bytes of main memory that slot one may write, and that all others stay as they are.
use Rattle.std.specs.Prelude.{ℕ, ◌+◌, ◌^◌, ◌<◌, ◌≤◌, Bool, false, [], ◌≡◌, ◌⊎◌, leb, length}
use Rattle.std.proofs.Math.Bool.{true}
use Rattle.std.proofs.Math.Path.{refl}
use Rattle.std.proofs.Common.{arith}
use Rattle.std.proofs.lemmas.Bool.{not-true}
use Rattle.std.proofs.Math.ListN.{get_or}
use Rattle.big_endian.specs.BytesLaws.{byte_outside}
use Rattle.isa.specs.declared.AccessKind.{AccessKind}
use Rattle.isa.specs.declared.AccessKind.TheVariants as kind
use Rattle.isa.specs.declared.StoreWidth.{StoreWidth}
use Rattle.word.specs.BoolLaws.{and_right}
use Rattle.settings.specs.declared.Settings.{Settings}
use Rattle.settings.specs.SettingsLaws.{area_ordered, area_inside}
use Rattle.settings.specs.Setup.{Setup, Buffers, lent, is_stack_byte, touches}
use Rattle.settings.specs.SetupLaws.{stack_byte, untouched}
use Rattle.core_state.specs.State.{State}
use Rattle.effects.specs.declared.Effect.{Effect}
use Rattle.effects.specs.declared.Effect.TheVariants as effect
use Rattle.memory.specs.Access.{stored, store_scale, main_open, main_writable, access_open}
use Rattle.bundle_model.specs.Interrupt.{taken}
use Rattle.bundle_model.specs.Bundle.{area, buffers_after, step}
use Rattle.step_laws.specs.StepCases.{effect_at}
use Rattle.step_laws.proofs.StepCases.{step_cases}
use Rattle.step_laws.proofs.StackKept.{stored_lengths, area_same, stack_moved_outside, Passed, passed_open}

-- Whether an access of a kind that writes n bytes from a on writes a byte of main memory.
abbrev pub stores_byte : AccessKind → ℕ → ℕ → ℕ → Bool
stores_byte kind.Stack a n i = false
stores_byte kind.Local a n i = false
stores_byte kind.Cached a n i = touches i (i + 1) a n
stores_byte kind.Main a n i = touches i (i + 1) a n

-- Whether slot one may write a byte of main memory: a store its own bytes, a stack instruction those of the stack.
unfoldable pub may_write : Setup → Effect → ℕ → Bool
may_write x (effect.Alu a) i = false
may_write x (effect.Special d v) i = false
may_write x (effect.Product l h) i = false
may_write x (effect.Load k w r a) i = false
may_write x (effect.Store k w a v) i = stores_byte k a (2 ^ store_scale w) i
may_write x (effect.Stack c n m) i = is_stack_byte x i
may_write x (effect.Transfer d t) i = false
may_write x (effect.Trap vector handler) i = false

-- A byte that n bytes from a on do not touch lies before or behind them.
beside : (i a n : ℕ) → touches i (i + 1) a n ≡ false → (i < a) ⊎ (a + n ≤ i)
beside i a n e =
    let x : Setup = record { code = []; list = []; table = []; lo = i; hi = i + 1; method = record { on = false; blocks = 0; bytes = 0 } } in
    untouched x i a n e (stack_byte x i (omega arith) (omega arith))

-- A store leaves the bytes of main memory that it does not write.
pub stored_main : (b : Buffers) (k : AccessKind) (n a v i : ℕ) → stores_byte k a n i ≡ false → get_or (stored b k n a v).main i 0 ≡ get_or b.main i 0
unfolding stored
stored_main b kind.Stack n a v i e = refl
stored_main b kind.Local n a v i e = refl
stored_main b kind.Cached n a v i e = byte_outside n b.main a v i (beside i a n e)
stored_main b kind.Main n a v i e = byte_outside n b.main a v i (beside i a n e)

-- So does slot one, whatever its effect.
pub effect_main : (g : Settings) (x : Setup) (s : State) (b : Buffers) → x.lo ≤ x.hi → x.hi ≤ length b.main → (e : Effect) (i : ℕ) → may_write x e i ≡ false
    → get_or (buffers_after g x s e b).main i 0 ≡ get_or b.main i 0
unfolding buffers_after may_write
effect_main g x s b p q (effect.Alu a) i e = refl
effect_main g x s b p q (effect.Special d v) i e = refl
effect_main g x s b p q (effect.Product l h) i e = refl
effect_main g x s b p q (effect.Load k w r a) i e = refl
effect_main g x s b p q (effect.Store k w a v) i e = stored_main b k (2 ^ store_scale w) a v i e
effect_main g x s b p q (effect.Stack c n m) i e = stack_moved_outside g x s c n b p q i e
effect_main g x s b p q (effect.Transfer d t) i e = refl
effect_main g x s b p q (effect.Trap vector handler) i e = refl

-- So does a step, with no condition.
pub step_main : (x : Setup) (s : State) (b : Buffers) (i : ℕ) → may_write x (effect_at x (taken x s)) i ≡ false → get_or (step x s b).buffers.main i 0 ≡ get_or b.main i 0
step_main x s b i e =
    step_cases x s b (λ o. get_or o.buffers.main i 0 ≡ get_or b.main i 0) (λ a p. refl)
    (λ p j. effect_main (lent x b) x (taken x s) b (area_ordered (lent x b) p.admitted) (area_inside (lent x b) p.admitted) (effect_at x (taken x s)) i e)

-- A store of any kind that no test refuses.
module _ (g : Settings) (x : Setup) (s : State) (k : AccessKind) (w : StoreWidth) (a v : ℕ) (b : Buffers) (p : Passed g x s (effect.Store k w a v)) where
  -- A byte of the stack is none of the bytes that may be written.
  apart : (i : ℕ) → main_writable g x a (2 ^ store_scale w) ≡ true → is_stack_byte x i ≡ true → (i < a) ⊎ (a + 2 ^ store_scale w ≤ i)
  unfolding main_open
  apart i e q = untouched x i a (2 ^ store_scale w) (not-true _ (and_right (leb (a + 2 ^ store_scale w) g.main) _ e)) q

  -- It leaves every byte of the stack as it was.
  pub store_stack_byte : (i : ℕ) → is_stack_byte x i ≡ true → get_or (buffers_after g x s (effect.Store k w a v) b).main i 0 ≡ get_or b.main i 0
  unfolding buffers_after stored access_open
  store_stack_byte i q = go k (passed_open (main_writable g x a (2 ^ store_scale w)) g s.specials.st s.specials.ss k a (2 ^ store_scale w) p)
    where
      go : (k : AccessKind) → access_open (main_writable g x a (2 ^ store_scale w)) g s.specials.st s.specials.ss k a (2 ^ store_scale w) ≡ true
          → get_or (stored b k (2 ^ store_scale w) a v).main i 0 ≡ get_or b.main i 0
      go kind.Stack e = refl
      go kind.Local e = refl
      go kind.Cached e = byte_outside (2 ^ store_scale w) b.main a v i (apart i e q)
      go kind.Main e = byte_outside (2 ^ store_scale w) b.main a v i (apart i e q)

  -- It leaves the stack area as it was.
  pub store_area : area x.lo x.hi (buffers_after g x s (effect.Store k w a v) b).main ≡ area x.lo x.hi b.main
  unfolding buffers_after
  store_area = area_same x.lo x.hi _ b.main (stored_lengths b k (2 ^ store_scale w) a v).main (λ i q r. store_stack_byte i (stack_byte x i q r))
