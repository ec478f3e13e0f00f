-- The terms of even pace: public contents, stopping events, and what is claimed of two lists of tried bundles.
use Rattle.std.specs.Prelude.{ℕ, ◌<◌, Bool, true, false, cond, ◌&&◌, List, [], ◌∷◌, ◌⊎◌, ◌↔◌, ◌≡◌, length, get_or}
use Rattle.std.proofs.Math.Option.{some}
use Rattle.std.proofs.Math.ListN.{get_elem?}
use Rattle.isa.specs.declared.Instruction.{Instruction}
use Rattle.isa.specs.declared.Bundle.{Bundle}
use Rattle.isa.specs.declared.Bundle.TheVariants.{Undecodable, One, Two, Long}
use Rattle.answers.specs.Answer.{Returned, refused}
use Rattle.alu_effects.specs.declared.Specials.{Specials}
use Rattle.products.specs.declared.Product.{Product}
use Rattle.products.specs.declared.Products.{Products}
use Rattle.products.specs.declared.Products.TheVariants as products
use Rattle.products.specs.Products.{product}
use Rattle.replay.specs.declared.Replay.{Replay}
use Rattle.core_state.specs.State.{Further, State}
use Rattle.core_state.specs.declared.WaitingLoad.TheVariants.{Waits}
use Rattle.run_model.specs.Run.{Tried}
use Rattle.run_model.specs.RefusalLaws.{among}
use Rattle.marking.specs.declared.Marking.{Marking}
use Rattle.marking.specs.Marking.{private_register, private_predicate, private_guard, public_register}
use Rattle.marking_rules.specs.Rules.{asked}
use Rattle.single_path.specs.Check.{Walked, accepted, checked}
use Rattle.settings.specs.Setup.{Setup, Buffers, is_stack_byte}
use Rattle.fetch.specs.Fetch.{bundle_at}

-- Terms that stand elsewhere: `settings` (settings, Setup), `Walked` (single_path, Check), `private_guard` (marking, Marking), well
-- formed as `well_formed` (bundle_model, Bundle), and the bundles that a run tries as `tries` (run_model, Run).

-- Accepted code: the check of it answers so under the settings and the marking. The lengths are those of what is lent.
abbrev pub Accepted : Setup → Marking → Buffers → Type 0
Accepted x m b = checked x (length b.main) (length b.local) (length b.cache) m ≡ accepted

-- Two lists of one length that are equal wherever they are not private.
pub record Same {A : Type 0} (private : ℕ → Bool) (default : A) (l₁ l₂ : List A) : Type 0 where
  pub lengths : length l₁ ≡ length l₂
  pub places : (i : ℕ) → private i ≡ false → get_or l₁ i default ≡ get_or l₂ i default

-- Public contents: the special registers. sl and sh are public as they are marked, the others always.
pub record SameSpecials (m : Marking) (x₁ x₂ : Specials) : Type 0 where
  pub sl : m.sl ≡ false → x₁.sl ≡ x₂.sl
  pub sh : m.sh ≡ false → x₁.sh ≡ x₂.sh
  pub ss : x₁.ss ≡ x₂.ss
  pub st : x₁.st ≡ x₂.st
  pub srb : x₁.srb ≡ x₂.srb
  pub sro : x₁.sro ≡ x₂.sro
  pub sxb : x₁.sxb ≡ x₂.sxb
  pub sxo : x₁.sxo ≡ x₂.sxo

-- Public contents: the products under way. That a product is there, and its wait, are private exactly if both of its words are. The words
-- are marked as sl and sh are; of products that are public a private word is left out, by putting 0 in its place.
abbrev pub private_products : Marking → Bool
private_products m = m.sl && m.sh

abbrev pub blank : Bool → ℕ → ℕ
blank private v = cond private 0 v

abbrev pub shown_product : Bool → Bool → Product → Product
shown_product sl sh p = product p.wait (blank sl p.low) (blank sh p.high)

unfoldable pub shown : Bool → Bool → Products → Products
shown sl sh products.Nothing = products.Nothing
shown sl sh (products.One p) = products.One (shown_product sl sh p)
shown sl sh (products.Two p q) = products.Two (shown_product sl sh p) (shown_product sl sh q)

abbrev pub SameProducts : Marking → Products → Products → Type 0
SameProducts m p₁ p₂ = private_products m ≡ false → shown m.sl m.sh p₁ ≡ shown m.sl m.sh p₂

-- Public contents: the blocks held, always, and in their order.
abbrev pub SameHeld : List ℕ → List ℕ → Type 0
SameHeld h₁ h₂ = h₁ ≡ h₂

-- Public contents: how far the replay is, always: whether a handler is active, the place in the list, and the bundles done. List and table
-- are what both runs are given.
abbrev pub SameReplay : Replay → Replay → Type 0
SameReplay r₁ r₂ = r₁ ≡ r₂

pub record SameFurther (m : Marking) (f₁ f₂ : Further) : Type 0 where
  pub products : SameProducts m f₁.products f₂.products
  pub held : SameHeld f₁.held f₂.held
  pub replay : SameReplay f₁.replay f₂.replay

-- Public contents: the state. A waiting load counts if its register is public and not r0: then both runs have it, with one value. All
-- others are left out of the comparison, also where one run has none.
pub record SameState (m : Marking) (s₁ s₂ : State) : Type 0 where
  pub registers : Same (private_register m) 0 s₁.registers s₂.registers
  pub predicates : Same (private_predicate m) false s₁.predicates s₂.predicates
  pub specials : SameSpecials m s₁.specials s₂.specials
  pub fetch : s₁.fetch ≡ s₂.fetch
  pub base : s₁.base ≡ s₂.base
  pub transfer : s₁.transfer ≡ s₂.transfer
  pub load : (r v : ℕ) → public_register m r ≡ true → (s₁.load ≡ Waits r v) ↔ (s₂.load ≡ Waits r v)
  pub further : SameFurther m s₁.further s₂.further

-- A byte of main memory is private as the stack is, or as main memory is.
abbrev pub private_byte : Marking → Setup → ℕ → Bool
private_byte m x a = cond (is_stack_byte x a) m.stack m.main

-- Public contents: the lent buffers. Their lengths are settings, and equal.
pub record SameBuffers (m : Marking) (x : Setup) (b₁ b₂ : Buffers) : Type 0 where
  pub main : Same (private_byte m x) 0 b₁.main b₂.main
  pub local : Same (λ a. m.local) 0 b₁.local b₂.local
  pub cache : Same (λ a. m.stack) 0 b₁.cache b₂.cache

-- Two runs agree on everything public. Tag data, every private value, is what they may differ in.
pub record Agree (m : Marking) (x : Setup) (s₁ : State) (b₁ : Buffers) (s₂ : State) (b₂ : Buffers) : Type 0 where
  pub state : SameState m s₁ s₂
  pub buffers : SameBuffers m x b₁ b₂

-- Whether slot one of a bundle is a load or store, a stack one too, under a private guard.
abbrev pub private_access : Marking → Instruction → Bool
private_access m i = private_guard m i.guard && (asked m i.operation).access

unfoldable pub has_private_access : Marking → Bundle → Bool
has_private_access m Undecodable = false
has_private_access m (One i) = private_access m i
has_private_access m (Two i j) = private_access m i
has_private_access m (Long i) = private_access m i

-- The numbers with which a load or store is refused, in the order in which they are judged.
abbrev pub access_numbers : List ℕ
access_numbers = 5 ∷ 7 ∷ 6 ∷ []

abbrev pub of_access : ℕ → Bool
of_access = among access_numbers

-- A stopping event: a bundle is tried at an address that is not walked, or a load or store of it, of the stack or not, is refused and
-- its guard is private. At a walked address of accepted code nothing else of such a bundle can be refused with these numbers
-- (`refused_for_access`, StopLaws). But a bundle that takes an interrupt can be refused with the interrupt's own 17 or 13, for which the access
-- is not even tried: that is no stopping event, and what is claimed goes on.
pub data Stops (m : Marking) (code : List ℕ) (t : Tried) : Type 0 where
  not_walked : ¬ Walked code t.fetch → Stops m code t
  refused_access : (n : ℕ) → t.answer ≡ refused n → of_access n ≡ true → has_private_access m (bundle_at code t.fetch) ≡ true → Stops m code t

-- Of a bundle tried in both runs: its fetch address is equal, which is the handler's where an interrupt is taken with it, and so are, after it,
-- the counts, misses and words fetched among them, and the public contents.
pub record SameTried (m : Marking) (x : Setup) (t₁ t₂ : Tried) : Type 0 where
  pub fetch : t₁.fetch ≡ t₂.fetch
  pub counts : t₁.counts ≡ t₂.counts
  pub contents : Agree m x t₁.state t₁.buffers t₂.state t₂.buffers

-- The same fetch address.
abbrev pub SameFetch : Tried → Tried → Type 0
SameFetch t₁ t₂ = t₁.fetch ≡ t₂.fetch

-- Two lists of entries, of which some are stopping events. The entries at place j, the first being at 0: neither is a stopping event, and
-- they are alike.
abbrev pub EvenAt : {E : Type 0} → (E → Type 0) → (E → E → Type 0) → List E → List E → ℕ → Type 0
EvenAt {E} Stop Alike T₁ T₂ j = (t₁ t₂ : E) → get_elem? T₁ j ≡ some t₁ → get_elem? T₂ j ≡ some t₂ → ¬ Stop t₁ × ¬ Stop t₂ × Alike t₁ t₂

-- The lists as a whole. `Met` is what holds of the entries at a stopping event, `Alike` what holds of those before it.
module _ {E : Type 0} (Stop : E → Type 0) (Met Alike : E → E → Type 0) (T₁ T₂ : List E) where
  -- Both lists have an entry at place k, the first that is a stopping event in either; both have all the places before it, where they
  -- are even.
  pub record StopsAt (k : ℕ) : Type 0 where
    pub t₁ : E
    pub t₂ : E
    pub tried₁ : get_elem? T₁ k ≡ some t₁
    pub tried₂ : get_elem? T₂ k ≡ some t₂
    pub stops : Stop t₁ ⊎ Stop t₂
    pub met : Met t₁ t₂
    pub before : (j : ℕ) → j < k → EvenAt Stop Alike T₁ T₂ j

  -- No entry is a stopping event: the lists are equally long and even at every place, and the answers are equal.
  pub record Throughout (a₁ a₂ : Returned) : Type 0 where
    pub each : (j : ℕ) → EvenAt Stop Alike T₁ T₂ j
    pub lengths : length T₁ ≡ length T₂
    pub answers : a₁ ≡ a₂

  abbrev pub EvenLists : Returned → Returned → Type 0
  EvenLists a₁ a₂ = ((k : ℕ) × StopsAt k) ⊎ Throughout a₁ a₂

-- Even pace of two runs, which try the bundles T₁ and T₂ and give the answers a₁ and a₂: a bundle that is a stopping event is tried in
-- both at one fetch address.
abbrev pub EvenPace : Marking → Setup → List Tried → List Tried → Returned → Returned → Type 0
EvenPace m x = EvenLists (Stops m x.code) SameFetch (SameTried m x)
