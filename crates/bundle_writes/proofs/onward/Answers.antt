use borrow.Enum.Refused.{opened}
use Rattle.core_state.specs.Core.{joined, waiting_transfer, nearer_words}
use Prim.Native.Nat.{ℕ}
use mathlib.Core.List.{List, [], ◌∷◌}
use mathlib.Core.Path.{◌≡◌, refl, ◌∙◌}
use denote.Enum.Declared.{tag_of}
use types.Run.{OneOf, miss}
use Rattle.effects.specs.declared.Effect.{Effect}
use Rattle.effects.specs.declared.Effect.TheVariants.{Alu, Special, Product, Load, Store, Stack, Transfer, Trap}
use Rattle.effects.specs.contracts.Effect.{the_type}
use Rattle.core_state.specs.declared.WaitingTransfer.{WaitingTransfer}
use Rattle.core_state.specs.State.{State}
use Rattle.core_state.specs.declared.TransferWords.{TransferWords}
use Rattle.bundle_writes.specs.Words.{onward_words}
use Rattle.core_state.specs.Writes.{nearer}
use Rattle.bundle_model.specs.Bundle.{onward}
use Rattle.bundle_writes.proofs.onward.Goals as goal

abbrev others : List ℕ
others = 0 ∷ 1 ∷ 2 ∷ 3 ∷ 4 ∷ 5 ∷ []

goes_on : (waiting : WaitingTransfer) (following : ℕ) (onto : State) (e : Effect) → OneOf others (tag_of the_type e) → nearer waiting following onto ≡ onward e waiting following onto
goes_on waiting following onto (Alu a) h = refl
goes_on waiting following onto (Special d v) h = refl
goes_on waiting following onto (Product l k) h = refl
goes_on waiting following onto (Load k w r a) h = refl
goes_on waiting following onto (Store k w a v) h = refl
goes_on waiting following onto (Stack c n m) h = refl
goes_on waiting following onto (Transfer d t) h = absurd (miss others 6 tt h)
goes_on waiting following onto (Trap n handler) h = absurd (miss others 7 tt h)

words-go-on : (w : TransferWords) (e : Effect) → OneOf others (tag_of the_type e) → nearer_words w ≡ onward_words e w
words-go-on w (Alu a) h = refl
words-go-on w (Special d v) h = refl
words-go-on w (Product l k) h = refl
words-go-on w (Load k b r a) h = refl
words-go-on w (Store k b a v) h = refl
words-go-on w (Stack c n m) h = refl
words-go-on w (Transfer d t) h = absurd (miss others 6 tt h)
words-go-on w (Trap n handler) h = absurd (miss others 7 tt h)

pub returns-in-Transfer : goal.returns-in-Transfer
returns-in-Transfer c =
    let w = c.begin.ensures in
    let e = c.in-Transfer.is in
    record { state = λ rs ps. rw e (w.state rs ps); transfer = rw e w.transfer; load = w.load; products = w.products }

pub returns-in-Trap : goal.returns-in-Trap
returns-in-Trap c =
    let w = c.enter.ensures in
    let e = c.in-Trap.is in
    record { state = λ rs ps. rw e (w.state rs ps); transfer = rw e w.transfer; load = w.load; products = w.products }

pub returns-in_default : goal.returns-in_default
returns-in_default c =
    let a = c.args in
    let w = c.nearer.ensures in
    record {
      state = λ rs ps. w.state rs ps ∙ goes_on (waiting_transfer a.waiting) a.following (joined rs ps a.core) a.one (opened c.in_default.in_default-own.keys3);
      transfer = w.transfer ∙ words-go-on a.waiting a.one (opened c.in_default.in_default-own.keys3);
      load = w.load;
      products = w.products;
    }
