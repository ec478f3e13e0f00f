-- The state that a struct State holds, and what the functions of the state by value give.
use Rattle.std.specs.Prelude.{ℕ, Bool, List, [], ◌≡◌, length}
use Rattle.std.proofs.Common.{sym, ap, subst, ◌∙◌}
use Rattle.method_cache.specs.Words.{held_in, held_words, FixedHeld}
use Rattle.method_cache.proofs.WordLaws.{held_few, words_back}
use Rattle.method_cache.proofs.WordLaws as held
use Rattle.products.specs.Words as product
use Rattle.core_state.specs.State.{State, state, further, with_held}
use Rattle.core_state.specs.declared.Core.{Core}
use Rattle.core_state.specs.Core.{joined, transfer_words, load_words, Canonical}
use Rattle.core_state.proofs.WordLaws.{transfer_back, load_back, words_fixed, load_fixed, determined}
use Rattle.bundle_model.specs.Bundle.{Stepped}
use Rattle.state.specs.declared.State as struct
use Rattle.state.specs.declared.Stepped as struct_step

unfoldable pub state_of : struct.State → State
state_of s = state s.registers s.predicates s.specials s.fetch s.base s.transfer s.load (further s.products (held_in s.held) s.replay)

-- The core of a struct State, which is canonical and makes its state; and any canonical core that makes this state is the same.
abbrev pub core_of : struct.State → Core
core_of s =
    record {
      specials = s.specials;
      fetch = s.fetch;
      base = s.base;
      transfer = transfer_words s.transfer;
      load = load_words s.load;
      products = product.product_words s.products;
      replay = s.replay;
    }

pub core_canonical : (s : struct.State) → Canonical (core_of s)
core_canonical s = record { transfer = words_fixed s.transfer; load = load_fixed s.load; products = product.words_fixed s.products }

pub core_joined : (s : struct.State) → with_held (joined s.registers s.predicates (core_of s)) (held_in s.held) ≡ state_of s
unfolding state_of
core_joined s = λ i. state s.registers s.predicates s.specials s.fetch s.base (transfer_back s.transfer i) (load_back s.load i) (further (product.products_back s.products i) (held_in s.held) s.replay)

pub core_determined : (s : struct.State) (rs : List ℕ) (ps : List Bool) (c : Core) (h : List ℕ) → Canonical c → with_held (joined rs ps c) h ≡ state_of s → c ≡ core_of s
core_determined s rs ps c h k e =
    determined rs s.registers ps s.predicates c (core_of s) k (core_canonical s) (ap (λ (y : State). with_held y []) (e ∙ sym (core_joined s)))

-- The words of the blocks held, put into their one form, say the same; and with what they say a state is the same.
pub tidied : (s : struct.State) (w : List ℕ) → length s.held ≡ 17 → w ≡ held_words (held_in s.held)
    → (with_held (joined s.registers s.predicates (core_of s)) (held_in w) ≡ state_of s) × FixedHeld w
tidied s w n e =
    let few = held_few s.held n in
    (ap (λ (h : List ℕ). with_held (joined s.registers s.predicates (core_of s)) h) (ap held_in e ∙ words_back (held_in s.held) few) ∙ core_joined s, subst FixedHeld (sym e) (held.words_fixed (held_in s.held) few))

abbrev pub stepped_of : struct_step.Stepped → Stepped
stepped_of r = record { answer = r.answer; state = state_of r.state; counts = r.counts }
