-- What slot one looks up: nothing, or one block while the method cache is on.
use Rattle.std.specs.Prelude.{ℕ, ◌≤◌, Bool, true, false, not, cond, ◌&&◌, List, [], ◌∷◌, ◌≡◌, eqb, length}
use Rattle.std.proofs.Math.Path.{refl}
use Rattle.word.specs.BoolLaws.{and_left}
use Rattle.method_cache.specs.MethodCache.{capacity_ok, looked, held_after}
use Rattle.method_cache.proofs.CacheLaws.{capacity_on, looked_few}
use Rattle.method_cache.specs.Words.{held_in, words_after, FixedHeld}
use Rattle.method_cache.proofs.WordLaws.{held_few, looked_back, looked_fixed}
use Rattle.settings.specs.Setup.{Setup}
use Rattle.effects.specs.declared.Transfer.{Transfer}
use Rattle.effects.specs.declared.Transfer.TheVariants.{Br, Call, Block, Xret}
use Rattle.effects.specs.declared.Effect.{Effect}
use Rattle.effects.specs.declared.Effect.TheVariants as effect
use Rattle.bundle_model.specs.Lookup.{looked_up, bases_of, lookups}

-- What holds of no base, and of one while the cache is on, holds of what slot one looks up.
module _ (P : List ℕ → Type 0) (x : Setup) (none : P []) (one : (base : ℕ) → x.method.on ≡ true → P (base ∷ [])) where
  pub looked_cases : (target base : ℕ) → P (looked_up x target base)
  looked_cases target base = go (x.method.on && not (eqb target (length x.code))) refl
    where
      go : (t : Bool) → x.method.on && not (eqb target (length x.code)) ≡ t → P (cond t (base ∷ []) [])
      go true e = one base (and_left x.method.on (not (eqb target (length x.code))) e)
      go false e = none

  bases_cases : (t : Transfer) → P (bases_of x t)
  unfolding bases_of
  bases_cases (Br target) = none
  bases_cases (Call target) = looked_cases target target
  bases_cases (Block target base) = looked_cases target base
  bases_cases (Xret target base) = looked_cases target base

  pub lookups_cases : (e : Effect) → P (lookups x e)
  lookups_cases (effect.Alu a) = none
  lookups_cases (effect.Special d v) = none
  lookups_cases (effect.Product l h) = none
  lookups_cases (effect.Load k w r a) = none
  lookups_cases (effect.Store k w a v) = none
  lookups_cases (effect.Stack c n m) = none
  lookups_cases (effect.Transfer d t) = bases_cases t
  lookups_cases (effect.Trap n handler) = bases_cases (Call handler)

-- The words of the blocks held say what is held after a transfer's lookups, and keep their one form.
module _ (x : Setup) (w : List ℕ) (ok : capacity_ok x.method ≡ true) (long : length w ≡ 17) (t : Transfer) where
  few : (base : ℕ) → x.method.on ≡ true → length (looked x.method x.code (held_in w) base) ≤ 16
  few base on = looked_few x.method x.code (held_in w) base (capacity_on x.method ok on).blocks (held_few w long)

  pub words_say : held_in (words_after x.method x.code w (bases_of x t)) ≡ held_after x.method x.code (held_in w) (bases_of x t)
  unfolding words_after held_after
  words_say =
      bases_cases (λ l. held_in (words_after x.method x.code w l) ≡ held_after x.method x.code (held_in w) l) x refl
      (λ base on. looked_back x.method x.code w base (few base on)) t

  pub words_keep : FixedHeld w → FixedHeld (words_after x.method x.code w (bases_of x t))
  unfolding words_after
  words_keep f =
      bases_cases (λ l. FixedHeld (words_after x.method x.code w l)) x f (λ base on. looked_fixed x.method x.code w base (few base on) f) t
