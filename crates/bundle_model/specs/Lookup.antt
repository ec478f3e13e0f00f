-- Lookups in the method cache: which blocks slot one looks up, what 13 asks of them, and what they leave and count.
use Rattle.std.specs.Prelude.{ℕ, not, cond, ◌&&◌, List, [], ◌∷◌, eqb, length}
use Rattle.answers.specs.declared.Refusal.TheVariants as refusal
use Rattle.answers.specs.Test.{Test, test}
use Rattle.method_cache.specs.declared.Method.{Method}
use Rattle.method_cache.specs.MethodCache.{bad_block, held_after, misses, words_fetched}
use Rattle.settings.specs.Setup.{Setup}
use Rattle.effects.specs.declared.Transfer.{Transfer}
use Rattle.effects.specs.declared.Transfer.TheVariants.{Br, Call, Block, Xret}
use Rattle.effects.specs.declared.Effect.{Effect}
use Rattle.effects.specs.Effect.{on_effect}
use Rattle.core_state.specs.State.{State}

-- While the cache is on, a transfer looks up one block by its base, except where its target is the code length.
abbrev pub looked_up : Setup → ℕ → ℕ → List ℕ
looked_up x target base = cond (x.method.on && not (eqb target (length x.code))) (base ∷ []) []

-- The base is the new one: of a call its target, of brcf its base operand, of ret the srb and of xret the sxb that it read. br looks
-- nothing up.
unfoldable pub bases_of : Setup → Transfer → List ℕ
bases_of x (Br target) = []
bases_of x (Call target) = looked_up x target target
bases_of x (Block target base) = looked_up x target base
bases_of x (Xret target base) = looked_up x target base

-- What slot one looks up, in its own bundle: a transfer that is executed, delayed or not, and a trap its handler as a call its target.
abbrev pub lookups : Setup → Effect → List ℕ
lookups x = on_effect [] (λ c n m. []) (λ d t. bases_of x t) (λ n handler. bases_of x (Call handler))

-- 13 of each base that is looked up.
unfoldable pub lookup_tests : Method → List ℕ → List ℕ → List Test
lookup_tests c code [] = []
lookup_tests c code (b ∷ bs) = test refusal.NoBlock (bad_block c code b) ∷ lookup_tests c code bs

-- What the lookups of slot one leave held, how often they miss, and the words that they fetch.
abbrev pub held_by : Setup → State → Effect → List ℕ
held_by x s e = held_after x.method x.code s.further.held (lookups x e)

abbrev pub misses_by : Setup → State → Effect → ℕ
misses_by x s e = misses x.method x.code s.further.held (lookups x e)

abbrev pub fetched_by : Setup → State → Effect → ℕ
fetched_by x s e = words_fetched x.method x.code s.further.held (lookups x e)
