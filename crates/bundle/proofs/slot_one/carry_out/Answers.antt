use Rattle.std.specs.Prelude.{Result}
use mathlib.Core.Path.{◌≡◌, refl}
use mathlib.Core.List.{List, [], ◌∷◌}
use Prim.Native.Nat.{ℕ}
use borrow.Author.Rules.{rules}
use Rattle.answers.specs.declared.Refusal.{Refusal}
use Rattle.method_cache.specs.Words.{held_in}
use Rattle.settings.specs.Setup.{setup_of, Setup, Buffers, buffers}
use Rattle.core_state.specs.State.{with_held, State}
use Rattle.core_state.specs.Core.{joined}
use denote.Enum.Declared.{tag_of}
use types.Run.{OneOf, miss}
use Rattle.effects.specs.declared.Effect.{Effect}
use Rattle.effects.specs.declared.Effect.TheVariants.{Alu, Special, Product, Load, Store, Stack, Transfer, Trap}
use Rattle.effects.specs.contracts.Effect.{the_type}
use Rattle.settings.specs.declared.Settings.{Settings}
use Rattle.answers.specs.Test.{verdict}
use Rattle.bundle_model.specs.declared.Carried.{Carried}
use Rattle.bundle_model.specs.Lookup.{lookup_tests}
use Rattle.bundle_model.specs.Refusal.{slot_tests}
use Rattle.bundle_model.specs.Bundle.{buffers_after}
use Rattle.bundle_model.specs.Execute.{plainly, carried_as, carried_out, Tallied}
use Rattle.bundle_model.proofs.ExecuteLaws.{load_carried, store_carried}
use Rattle.bundle_model.specs.TallyLaws.{tallied_as, tallied_none}
use Rattle.bundle.proofs.slot_one.carry_out.Goals as goal

abbrev others : List ℕ
others = 0 ∷ 1 ∷ 2 ∷ []

plain : (g : Settings) (x : Setup) (s : State) (b : Buffers) (e : Effect) → OneOf others (tag_of the_type e) → carried_as plainly b ≡ carried_out g x s e b
unfolding carried_out buffers_after verdict slot_tests lookup_tests
plain g x s b (Alu a) h = refl
plain g x s b (Special d v) h = refl
plain g x s b (Product l k) h = refl
plain g x s b (Load k w r a) h = absurd (miss others 3 tt h)
plain g x s b (Store k w a v) h = absurd (miss others 4 tt h)
plain g x s b (Stack c n m) h = absurd (miss others 5 tt h)
plain g x s b (Transfer d t) h = absurd (miss others 6 tt h)
plain g x s b (Trap n handler) h = absurd (miss others 7 tt h)

plain-tallied : (g : Settings) (x : Setup) (t : State) (w c : List ℕ) (r : Result Carried Refusal) (e : Effect) → OneOf others (tag_of the_type e) → Tallied r g x (with_held t (held_in w)) e w w c c
plain-tallied g x t w c r (Alu a) h = tallied_none g x t w (Alu a) refl r c refl refl refl
plain-tallied g x t w c r (Special d v) h = tallied_none g x t w (Special d v) refl r c refl refl refl
plain-tallied g x t w c r (Product l k) h = tallied_none g x t w (Product l k) refl r c refl refl refl
plain-tallied g x t w c r (Load k z n a) h = absurd (miss others 3 tt h)
plain-tallied g x t w c r (Store k z a v) h = absurd (miss others 4 tt h)
plain-tallied g x t w c r (Stack z n m) h = absurd (miss others 5 tt h)
plain-tallied g x t w c r (Transfer d y) h = absurd (miss others 6 tt h)
plain-tallied g x t w c r (Trap n handler) h = absurd (miss others 7 tt h)

pub returns-in-Load : goal.returns-in-Load
returns-in-Load c =
    let a = c.args in
    rw c.in-Load.is
    (λ rs ps. (
      load_carried a.g (setup_of a.code.now a.g) (with_held (joined rs ps a.core) (held_in a.held.now)) _ _ _ _ _ _ (c.do_load.ensures a.code.now),
      tallied_none a.g (setup_of a.code.now a.g) (joined rs ps a.core) a.held.now _ refl _ a.counts.now refl refl refl,
    ))

pub returns-in-Store : goal.returns-in-Store
returns-in-Store c =
    let a = c.args in
    rw c.in-Store.is
    (λ rs ps. (
      store_carried a.g (setup_of a.code.now a.g) (with_held (joined rs ps a.core) (held_in a.held.now)) _ _ _ _ _ _ (c.do_store.ensures a.code.now),
      tallied_none a.g (setup_of a.code.now a.g) (joined rs ps a.core) a.held.now _ refl _ a.counts.now refl refl refl,
    ))

pub returns-in-Stack : goal.returns-in-Stack
returns-in-Stack c =
    let a = c.args in
    rw c.in-Stack.is
    (λ rs ps.
    let e = c.do_stack.ensures a.code.now rs (held_in a.held.now) a.local.now ps in
    (e.0, tallied_as a.g (setup_of a.code.now a.g) (joined rs ps a.core) a.held.now _ refl _ a.counts.now _ e.1))

pub returns-in-Transfer : goal.returns-in-Transfer
returns-in-Transfer c =
    let a = c.args in
    rw c.in-Transfer.is (λ rs ps. c.do_transfer.ensures rs ps (buffers a.main.now a.local.now a.cache.now))

pub returns-in-Trap : goal.returns-in-Trap
returns-in-Trap c =
    let a = c.args in
    rw c.in-Trap.is (λ rs ps. c.do_trap.ensures rs ps (buffers a.main.now a.local.now a.cache.now))

pub returns-in_default : goal.returns-in_default
returns-in_default c =
    let a = c.args in
    λ rs ps. (
      rw c.nothing.ensures (plain a.g (setup_of a.code.now a.g) (with_held (joined rs ps a.core) (held_in a.held.now)) _ a.one c.in_default.in_default-own.keys6),
      plain-tallied a.g (setup_of a.code.now a.g) (joined rs ps a.core) a.held.now a.counts.now _ a.one c.in_default.in_default-own.keys6,
    )
