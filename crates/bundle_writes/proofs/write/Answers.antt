use mathlib.Core.Path.{◌≡◌, ap, ◌∙◌}
use Prim.Native.Nat.{ℕ}
use Rattle.alu_effects.specs.declared.AluEffect.{AluEffect}
use Rattle.effects.specs.declared.Effect.{Effect}
use Rattle.products.specs.Words.{nearer_product_words}
use Rattle.core_state.specs.declared.WaitingTransfer.{WaitingTransfer}
use Rattle.core_state.specs.State.{State, arrived}
use Rattle.core_state.specs.Writes.{write_alu}
use Rattle.core_state.specs.Core.{waiting_transfer}
use Rattle.bundle_model.specs.Bundle.{onward}
use Rattle.bundle_model.specs.Execute.{write_done}
use Rattle.bundle_writes.specs.Words.{load_after, products_after}
use Rattle.bundle_writes.proofs.write.Goals as goal

in_order : (one : Effect) (two : AluEffect) (waiting : WaitingTransfer) (following loaded st ss : ℕ) (s s₁ s₂ s₃ s₄ : State)
    → s₁ ≡ s → s₂ ≡ write_done one loaded st ss s₁ → s₃ ≡ write_alu two s₂ → s₄ ≡ onward one waiting following s₃
    → s₄ ≡ onward one waiting following (write_alu two (write_done one loaded st ss s))
in_order one two waiting following loaded st ss s s₁ s₂ s₃ s₄ e f g h =
    h ∙ ap (onward one waiting following) (g ∙ ap (write_alu two) (f ∙ ap (write_done one loaded st ss) e))

pub returns : goal.returns
returns c =
    let a = c.args in
    let landing = c.land_load.ensures in
    let onto = c.arrive-onto.ensures in
    let after = c.write_one-after.ensures in
    let last = c.write_alu-last.ensures in
    record {
      state = in_order a.one a.two (waiting_transfer a.core.transfer) a.following a.loaded a.st a.ss _ _ _ _ _ (onto.state _ _ ∙ ap arrived (landing.state _)) after.state last.state (c.onward.ensures.state _ _);
      transfer = c.onward.ensures.transfer;
      load = c.onward.ensures.load ∙ last.load ∙ after.load ∙ ap (load_after a.one a.loaded) (onto.load ∙ landing.load);
      products = c.onward.ensures.products ∙ last.products ∙ after.products ∙ ap (products_after a.one) (onto.products ∙ ap nearer_product_words landing.products);
    }
