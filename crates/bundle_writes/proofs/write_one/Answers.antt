use Prim.Native.Nat.{ℕ}
use mathlib.Core.List.{List, [], ◌∷◌}
use mathlib.Core.Path.{◌≡◌, refl, ◌∙◌}
use denote.Enum.Declared.{tag_of}
use types.Run.{OneOf, miss}
use Rattle.effects.specs.declared.Effect.{Effect}
use Rattle.effects.specs.declared.Effect.TheVariants.{Alu, Special, Product, Load, Store, Stack, Transfer, Trap}
use Rattle.effects.specs.contracts.Effect.{the_type}
use Rattle.products.specs.declared.ProductWords.{ProductWords}
use Rattle.core_state.specs.State.{State}
use Rattle.core_state.specs.declared.LoadWords.{LoadWords}
use Rattle.core_state.proofs.WordLaws.{load_back}
use Rattle.bundle_writes.specs.Words.{load_after, products_after}
use Rattle.bundle_model.specs.Execute.{write_done}
use Rattle.bundle_writes.proofs.write_one.Goals as goal

abbrev others : List ℕ
others = 4 ∷ 6 ∷ 7 ∷ []

nothing_written : (loaded : ℕ) (st : ℕ) (ss : ℕ) (onto : State) (e : Effect) → OneOf others (tag_of the_type e) → onto ≡ write_done e loaded st ss onto
unfolding write_done
nothing_written loaded st ss onto (Alu a) h = absurd (miss others 0 tt h)
nothing_written loaded st ss onto (Special d v) h = absurd (miss others 1 tt h)
nothing_written loaded st ss onto (Product l k) h = absurd (miss others 2 tt h)
nothing_written loaded st ss onto (Load k w r a) h = absurd (miss others 3 tt h)
nothing_written loaded st ss onto (Store k w a v) h = refl
nothing_written loaded st ss onto (Stack c n m) h = absurd (miss others 5 tt h)
nothing_written loaded st ss onto (Transfer d t) h = refl
nothing_written loaded st ss onto (Trap n handler) h = refl

load-left : (loaded : ℕ) (l : LoadWords) (e : Effect) → OneOf others (tag_of the_type e) → l ≡ load_after e loaded l
load-left loaded l (Alu a) h = refl
load-left loaded l (Special d v) h = refl
load-left loaded l (Product p k) h = refl
load-left loaded l (Load k w r a) h = absurd (miss others 3 tt h)
load-left loaded l (Store k w a v) h = refl
load-left loaded l (Stack c n m) h = refl
load-left loaded l (Transfer d t) h = refl
load-left loaded l (Trap n handler) h = refl

products-left : (p : ProductWords) (e : Effect) → OneOf others (tag_of the_type e) → p ≡ products_after e p
products-left p (Alu a) h = refl
products-left p (Special d v) h = refl
products-left p (Product l k) h = absurd (miss others 2 tt h)
products-left p (Load k w r a) h = refl
products-left p (Store k w a v) h = refl
products-left p (Stack c n m) h = refl
products-left p (Transfer d t) h = refl
products-left p (Trap n handler) h = refl

pub returns-in-Alu : goal.returns-in-Alu
unfolding write_done
returns-in-Alu c =
    let w = c.write_alu.ensures in
    let e = c.in-Alu.is in
    record { state = rw e w.state; transfer = w.transfer; load = rw e w.load; products = rw e w.products }

pub returns-in-Special : goal.returns-in-Special
unfolding write_done
returns-in-Special c =
    let w = c.write_special.ensures in
    let e = c.in-Special.is in
    record { state = rw e (w.state _); transfer = w.transfer; load = rw e w.load; products = rw e w.products }

pub returns-in-Product : goal.returns-in-Product
unfolding write_done
returns-in-Product c =
    let w = c.begin_product.ensures in
    let e = c.in-Product.is in
    record { state = rw e (w.state _ _); transfer = w.transfer; load = rw e w.load; products = rw e w.products }

pub returns-in-Load : goal.returns-in-Load
unfolding write_done
returns-in-Load c =
    let w = c.with_load.ensures in
    let e = c.in-Load.is in
    let l = c.load_waits.ensures in
    record { state = rw e (w.state _ _ ∙ rw (l, load_back _)); transfer = w.transfer; load = rw e (w.load ∙ l); products = rw e w.products }

pub returns-in-Stack : goal.returns-in-Stack
unfolding write_done
returns-in-Stack c =
    let w = c.write_stack.ensures in
    let e = c.in-Stack.is in
    record { state = rw e (w.state _ _); transfer = w.transfer; load = rw e w.load; products = rw e w.products }

pub returns-in_default : goal.returns-in_default
unfolding write_done
returns-in_default c =
    let a = c.args in
    record { state = nothing_written _ _ _ _ a.one c.in_default.in_default-own.keys6; transfer = refl; load = load-left _ _ a.one c.in_default.in_default-own.keys6; products = products-left _ a.one c.in_default.in_default-own.keys6 }
