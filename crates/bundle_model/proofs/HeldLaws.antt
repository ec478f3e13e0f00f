-- No write of a bundle reads or changes the blocks held: they may be put in before or after.
use Rattle.std.specs.Prelude.{ℕ, ◌-◌, Bool, true, false, cond, List, ◌≡◌, leb}
use Rattle.std.proofs.Math.Option.{Option, none, some}
use Rattle.std.proofs.Math.Path.{refl, ap}
use Rattle.std.proofs.Common.{◌∙◌}
use Rattle.isa.specs.declared.Special.{Special}
use Rattle.isa.specs.declared.Special.TheVariants.{S0, Sl, Sh, Ss, St, Srb, Sro, Sxb, Sxo}
use Rattle.settings.specs.declared.Settings.{Settings}
use Rattle.settings.specs.Setup.{Buffers}
use Rattle.alu_effects.specs.declared.AluEffect.{AluEffect}
use Rattle.alu_effects.specs.declared.AluEffect.TheVariants as alu
use Rattle.effects.specs.declared.Transfer.{Transfer}
use Rattle.effects.specs.declared.Transfer.TheVariants.{Br, Call, Block, Xret}
use Rattle.effects.specs.declared.Effect.{Effect}
use Rattle.effects.specs.declared.Effect.TheVariants as effect
use Rattle.products.specs.declared.Product.{Product}
use Rattle.products.specs.Products.{due_product, nearer_products}
use Rattle.core_state.specs.declared.WaitingTransfer.{WaitingTransfer}
use Rattle.core_state.specs.declared.WaitingTransfer.TheVariants as transfer
use Rattle.core_state.specs.declared.WaitingLoad.{WaitingLoad}
use Rattle.core_state.specs.declared.WaitingLoad.TheVariants as load
use Rattle.core_state.specs.State.{State, with_register, with_predicate, with_special, with_held, with_products, with_arrival, landing, landed, arrived, going_on, transferred, entered}
use Rattle.core_state.specs.Writes.{write_alu, nearer, begun}
use Rattle.bundle_model.specs.Bundle.{write_one, onward, written}

module _ (h : List ℕ) where
  landed_held : (s : State) → landed (with_held s h) ≡ with_held (landed s) h
  unfolding landed with_register
  landed_held s = go s.load
    where
      go : (l : WaitingLoad) → landing l (with_held s h) ≡ with_held (landing l s) h
      go load.Nothing = refl
      go (load.Waits r v) = refl

  arrived_held : (s : State) → arrived (with_held s h) ≡ with_held (arrived s) h
  unfolding arrived
  arrived_held s = go (due_product s.further.products)
    where
      go : (p : Option Product) → with_arrival p (with_products (with_held s h) (nearer_products s.further.products)) ≡ with_held (with_arrival p (with_products s (nearer_products s.further.products))) h
      go none = refl
      go (some p) = refl

  alu_held : (e : AluEffect) (s : State) → write_alu e (with_held s h) ≡ with_held (write_alu e s) h
  unfolding write_alu with_register with_predicate
  alu_held alu.Nothing s = refl
  alu_held (alu.Register r v) s = refl
  alu_held (alu.Predicate p v) s = refl

  special_held : (s : State) (d : Special) (v : ℕ) → with_special (with_held s h) d v ≡ with_held (with_special s d v) h
  unfolding with_special
  special_held s S0 v = refl
  special_held s Sl v = refl
  special_held s Sh v = refl
  special_held s Ss v = refl
  special_held s St v = refl
  special_held s Srb v = refl
  special_held s Sro v = refl
  special_held s Sxb v = refl
  special_held s Sxo v = refl

  one_held : (g : Settings) (b : Buffers) (from : State) (e : Effect) (onto : State)
      → write_one g b (with_held from h) e (with_held onto h) ≡ with_held (write_one g b from e onto) h
  unfolding write_one
  one_held g b from (effect.Alu a) onto = alu_held a onto
  one_held g b from (effect.Special d v) onto = special_held onto d v
  one_held g b from (effect.Product l k) onto = refl
  one_held g b from (effect.Load k w r a) onto = refl
  one_held g b from (effect.Store k w a v) onto = refl
  one_held g b from (effect.Stack c n m) onto = refl
  one_held g b from (effect.Transfer d t) onto = refl
  one_held g b from (effect.Trap n handler) onto = refl

  transferred_held : (s : State) (t : Transfer) (following : ℕ) → transferred (with_held s h) t following ≡ with_held (transferred s t following) h
  unfolding transferred
  transferred_held s (Br target) following = refl
  transferred_held s (Call target) following = refl
  transferred_held s (Block target base) following = refl
  transferred_held s (Xret target base) following = refl

  entered_held : (s : State) (handler back : ℕ) → entered (with_held s h) handler back ≡ with_held (entered s handler back) h
  unfolding entered
  entered_held s handler back = refl

  nearer_held : (w : WaitingTransfer) (following : ℕ) (s : State) → nearer w following (with_held s h) ≡ with_held (nearer w following s) h
  nearer_held transfer.Nothing following s = refl
  nearer_held (transfer.Waits t n) following s = go (leb n 1)
    where
      go : (u : Bool) → cond u (transferred (with_held s h) t following) (going_on (with_held s h) following (transfer.Waits t (n - 1)))
          ≡ with_held (cond u (transferred s t following) (going_on s following (transfer.Waits t (n - 1)))) h
      go true = transferred_held s t following
      go false = refl

  begun_held : (delayed : Bool) (t : Transfer) (following : ℕ) (s : State) → begun delayed t following (with_held s h) ≡ with_held (begun delayed t following s) h
  begun_held true t following s = refl
  begun_held false t following s = transferred_held s t following

  onward_held : (e : Effect) (w : WaitingTransfer) (following : ℕ) (s : State) → onward e w following (with_held s h) ≡ with_held (onward e w following s) h
  onward_held (effect.Alu a) w following s = nearer_held w following s
  onward_held (effect.Special d v) w following s = nearer_held w following s
  onward_held (effect.Product l k) w following s = nearer_held w following s
  onward_held (effect.Load k z r a) w following s = nearer_held w following s
  onward_held (effect.Store k z a v) w following s = nearer_held w following s
  onward_held (effect.Stack c n m) w following s = nearer_held w following s
  onward_held (effect.Transfer d t) w following s = begun_held d t following s
  onward_held (effect.Trap n handler) w following s = entered_held s handler following

  -- What a bundle writes onto a state that holds these blocks.
  pub written_held : (g : Settings) (b : Buffers) (s : State) (one : Effect) (two : AluEffect) (following : ℕ)
      → written g b (with_held s h) one two following ≡ with_held (written g b s one two following) h
  unfolding written
  written_held g b s one two following =
      let onto : arrived (landed (with_held s h)) ≡ with_held (arrived (landed s)) h = ap arrived (landed_held s) ∙ arrived_held (landed s) in
      ap (λ (y : State). onward one s.transfer following (write_alu two (write_one g b (with_held s h) one y))) onto
      ∙ ap (λ (y : State). onward one s.transfer following (write_alu two y)) (one_held g b s one (arrived (landed s)))
      ∙ ap (λ (y : State). onward one s.transfer following y) (alu_held two (write_one g b s one (arrived (landed s))))
      ∙ onward_held one s.transfer following (write_alu two (write_one g b s one (arrived (landed s))))
