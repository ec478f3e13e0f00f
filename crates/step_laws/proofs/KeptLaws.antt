-- What a bundle writes: by cases, and what it keeps of the registers and the predicates.
use Prim.Native.Nat.{ℕ, zero, suc, ◌-◌, ◌/◌}
use Rattle.std.specs.Prelude.{Bool, cond, List, ◌∷◌, ◌≡◌, refl, leb, length, set}
use Rattle.std.proofs.Math.Bool.{true, false}
use Rattle.std.proofs.Math.Option.{Option, none, some}
use Rattle.std.proofs.Common.{◌∙◌, arith, leb-true, leb-false, le-leb, length-set}
use Rattle.std.proofs.Math.Dec.{eqb-suc-zero}
use Rattle.isa.specs.declared.Special.{Special}
use Rattle.isa.specs.declared.Special.TheVariants.{S0, Sl, Sh, Ss, St, Srb, Sro, Sxb, Sxo}
use Rattle.word.specs.BoolLaws.{and_right}
use Rattle.settings.specs.declared.Settings.{Settings}
use Rattle.products.specs.declared.Product.{Product}
use Rattle.products.specs.Products.{due_product, nearer_products}
use Rattle.core_state.specs.State.{State, Shaped, state, with_register, with_predicate, with_predicates, with_special, with_specials, specials, predicates_of, with_flow, with_done, entered, going_on, landing, landed, with_products, with_arrival, arrived, with_held, one_place_on, transferred, wait_ok}
use Rattle.effects.specs.declared.Transfer.{Transfer}
use Rattle.effects.specs.declared.Transfer.TheVariants.{Br, Call, Block, Xret}
use Rattle.core_state.specs.declared.WaitingTransfer.{WaitingTransfer}
use Rattle.core_state.specs.declared.WaitingTransfer.TheVariants as transfer
use Rattle.core_state.specs.declared.WaitingLoad.{WaitingLoad}
use Rattle.core_state.specs.declared.WaitingLoad.TheVariants as load
use Rattle.alu_effects.specs.declared.AluEffect.{AluEffect}
use Rattle.alu_effects.specs.declared.AluEffect.TheVariants as alu
use Rattle.effects.specs.declared.Effect.{Effect}
use Rattle.effects.specs.declared.Effect.TheVariants as effect
use Rattle.alu_effects.specs.declared.Specials.{Specials}
use Rattle.core_state.specs.Writes.{write_alu, delay_slots, nearer, begun}
use Rattle.bundle_model.specs.Interrupt.{handler_due, taken}
use Rattle.bundle_model.specs.InterruptLaws.{taken_cases}
use Rattle.bundle_model.specs.Bundle.{write_one, onward, written, bundle, attempt, step}
use Rattle.step_laws.specs.StepCases.{bundle_cases, attempt_cases}
use Rattle.step_laws.proofs.StepCases.{step_cases}
use Rattle.settings.specs.Setup.{Buffers, lent, Setup}

-- A special register written changes special registers alone, and s0 the predicates alone.
pub with_special_cases : (P : State → Type 0) (s : State) (d : Special) (v : ℕ) → P (with_predicates s (true ∷ predicates_of 7 (v / 2)))
    → ((x : Specials) → P (with_specials s x)) → P (with_special s d v)
unfolding with_special
with_special_cases P s S0 v p q = p
with_special_cases P s Sl v p q = q _
with_special_cases P s Sh v p q = q _
with_special_cases P s Ss v p q = q _
with_special_cases P s St v p q = q _
with_special_cases P s Srb v p q = q _
with_special_cases P s Sro v p q = q _
with_special_cases P s Sxb v p q = q _
with_special_cases P s Sxo v p q = q _

-- An ALU effect changes registers and predicates alone.
pub write_alu_cases : (P : State → Type 0) (e : AluEffect) (s : State)
    → ((rs : List ℕ) (ps : List Bool) → P (state rs ps s.specials s.fetch s.base s.transfer s.load s.further))
    → P (write_alu e s)
unfolding write_alu with_register with_predicate
write_alu_cases P alu.Nothing s h = h _ _
write_alu_cases P (alu.Register r v) s h = h _ _
write_alu_cases P (alu.Predicate p v) s h = h _ _

-- What arrives changes special registers and the products under way alone.
pub arrived_cases : (P : State → Type 0) (s : State) → ((x : Specials) → P (with_specials (with_products s (nearer_products s.further.products)) x)) → P (arrived s)
unfolding arrived
arrived_cases P s h = go (due_product s.further.products)
  where
    go : (due : Option Product) → P (with_arrival due (with_products s (nearer_products s.further.products)))
    go none = h _
    go (some p) = h _

-- Special registers whose last four, to which calls and handlers return, are these.
abbrev pub linked : Specials → ℕ → ℕ → ℕ → ℕ → Specials
linked x srb sro sxb sxo = specials x.sl x.sh x.ss x.st srb sro sxb sxo

-- The end of a bundle changes these, fetch address, base, the waiting transfer and the handler's mark alone, and a transfer that waits then
-- waits 1 to 3 bundles if the one before did.
abbrev pub Onward : (State → Type 0) → WaitingTransfer → State → Type 0
Onward P waiting onto =
    (srb sro sxb sxo fetch base : ℕ) (w : WaitingTransfer) (active : Bool) → (wait_ok waiting ≡ true → wait_ok w ≡ true)
    → P (with_flow onto (linked onto.specials srb sro sxb sxo) fetch base w active)

module _ (P : State → Type 0) (following : ℕ) (onto : State) where
  transferred_cases : (waiting : WaitingTransfer) → Onward P waiting onto → (t : Transfer) → P (transferred onto t following)
  unfolding transferred
  transferred_cases waiting h (Br target) = h _ _ _ _ _ _ _ _ (λ p. refl)
  transferred_cases waiting h (Call target) = h _ _ _ _ _ _ _ _ (λ p. refl)
  transferred_cases waiting h (Block target base) = h _ _ _ _ _ _ _ _ (λ p. refl)
  transferred_cases waiting h (Xret target base) = h _ _ _ _ _ _ _ _ (λ p. refl)

  begun_cases : (waiting : WaitingTransfer) → Onward P waiting onto → (delayed : Bool) (t : Transfer) → P (begun delayed t following onto)
  unfolding delay_slots
  begun_cases waiting h true (Br target) = h _ _ _ _ _ _ _ _ (λ p. refl)
  begun_cases waiting h true (Call target) = h _ _ _ _ _ _ _ _ (λ p. refl)
  begun_cases waiting h true (Block target base) = h _ _ _ _ _ _ _ _ (λ p. refl)
  begun_cases waiting h true (Xret target base) = h _ _ _ _ _ _ _ _ (λ p. refl)
  begun_cases waiting h false t = transferred_cases waiting h t

  pub entered_cases : (waiting : WaitingTransfer) → Onward P waiting onto → (handler : ℕ) → P (entered onto handler following)
  unfolding entered
  entered_cases waiting h handler = h _ _ _ _ _ _ _ _ (λ p. refl)

  nearer_cases : (waiting : WaitingTransfer) → Onward P waiting onto → P (nearer waiting following onto)
  nearer_cases transfer.Nothing h = h _ _ _ _ _ _ _ _ (λ p. p)
  nearer_cases (transfer.Waits t n) h = go (leb n 1) refl
    where
      go : (u : Bool) → leb n 1 ≡ u → P (cond u (transferred onto t following) (going_on onto following (transfer.Waits t (n - 1))))
      go true e = transferred_cases (transfer.Waits t n) h t
      go false e =
          h _ _ _ _ _ _ _ _ (λ p.
          rw (le-leb 1 (n - 1) (omega (arith, leb-false n 1 e)), le-leb (n - 1) 3 (omega (arith, leb-true n 3 (and_right (leb 1 n) (leb n 3) p)))))

  pub onward_cases : (e : Effect) (waiting : WaitingTransfer) → Onward P waiting onto → P (onward e waiting following onto)
  onward_cases (effect.Alu a) waiting h = nearer_cases waiting h
  onward_cases (effect.Special d v) waiting h = nearer_cases waiting h
  onward_cases (effect.Product x y) waiting h = nearer_cases waiting h
  onward_cases (effect.Load k w r a) waiting h = nearer_cases waiting h
  onward_cases (effect.Store k w a v) waiting h = nearer_cases waiting h
  onward_cases (effect.Stack c n m) waiting h = nearer_cases waiting h
  onward_cases (effect.Transfer d t) waiting h = begun_cases waiting h d t
  onward_cases (effect.Trap vector handler) waiting h = entered_cases waiting h handler

-- A property of the registers and one of the predicates that no write ends: r0 and p0 are never written.
pub record Lasting (R : List ℕ → Type 0) (P : List Bool → Type 0) : Type 0 where
  pub registers : (l : List ℕ) (r v : ℕ) → R l → R (set l (suc r) v)
  pub predicates : (l : List Bool) (p : ℕ) (v : Bool) → P l → P (set l (suc p) v)
  pub word : (v : ℕ) → P (true ∷ predicates_of 7 v)

abbrev pub Has : (List ℕ → Type 0) → (List Bool → Type 0) → State → Type 0
Has R P s = R s.registers × P s.predicates

module _ (R : List ℕ → Type 0) (P : List Bool → Type 0) (k : Lasting R P) where
  register_lasts : (s : State) (r v : ℕ) → Has R P s → Has R P (with_register s r v)
  unfolding with_register
  register_lasts s zero v h = h
  register_lasts s (suc r) v h = rw (eqb-suc-zero r) (k.registers s.registers r v h.0, h.1)

  predicate_lasts : (s : State) (p : ℕ) (v : Bool) → Has R P s → Has R P (with_predicate s p v)
  unfolding with_predicate
  predicate_lasts s zero v h = h
  predicate_lasts s (suc p) v h = rw (eqb-suc-zero p) (h.0, k.predicates s.predicates p v h.1)

  landed_lasts : (s : State) → Has R P s → Has R P (landed s)
  unfolding landed
  landed_lasts s h = go s.load
    where
      go : (l : WaitingLoad) → Has R P (landing l s)
      go load.Nothing = h
      go (load.Waits r v) = register_lasts s r v h

  write_alu_lasts : (e : AluEffect) (onto : State) → Has R P onto → Has R P (write_alu e onto)
  unfolding write_alu
  write_alu_lasts alu.Nothing onto h = h
  write_alu_lasts (alu.Register r v) onto h = register_lasts onto r v h
  write_alu_lasts (alu.Predicate p v) onto h = predicate_lasts onto p v h

  write_one_lasts : (g : Settings) (b : Buffers) (from : State) (e : Effect) (onto : State) → Has R P onto → Has R P (write_one g b from e onto)
  unfolding write_one
  write_one_lasts g b from (effect.Alu a) onto h = write_alu_lasts a onto h
  write_one_lasts g b from (effect.Special d v) onto h = with_special_cases (Has R P) onto d v (h.0, k.word (v / 2)) (λ x. h)
  write_one_lasts g b from (effect.Product x y) onto h = h
  write_one_lasts g b from (effect.Load j w r a) onto h = h
  write_one_lasts g b from (effect.Store j w a v) onto h = h
  write_one_lasts g b from (effect.Stack c n m) onto h = h
  write_one_lasts g b from (effect.Transfer d t) onto h = h
  write_one_lasts g b from (effect.Trap vector handler) onto h = h

  -- They hold after all the writes of a bundle.
  pub written_lasts : (g : Settings) (b : Buffers) (s : State) (one : Effect) (two : AluEffect) (following : ℕ) → Has R P s → Has R P (written g b s one two following)
  unfolding written
  written_lasts g b s one two following h =
      let onto = arrived_cases (Has R P) (landed s) (λ x. landed_lasts s h) in
      let t = write_alu_lasts two (write_one g b s one (arrived (landed s))) (write_one_lasts g b s one (arrived (landed s)) onto) in
      onward_cases (Has R P) following _ one s.transfer (λ srb sro sxb sxo fetch base w active q. t)

-- The lengths last.
lengths_last : Lasting (λ l. length l ≡ 32) (λ l. length l ≡ 8)
unfolding predicates_of
lengths_last = record { registers = λ l r v e. length-set l (suc r) v ∙ e; predicates = λ l p v e. length-set l (suc p) v ∙ e; word = λ v. refl }

-- The writes of a bundle keep the lengths of the lists.
pub written_shaped : (g : Settings) (b : Buffers) (s : State) (one : Effect) (two : AluEffect) (following : ℕ) → Shaped s → Shaped (written g b s one two following)
written_shaped g b s one two following h =
    let t = written_lasts (λ l. length l ≡ 32) (λ l. length l ≡ 8) lengths_last g b s one two following (h.registers, h.predicates) in
    record { registers = t.0; predicates = t.1 }

-- The blocks held do not matter for them.
held_shaped : {s : State} {l : List ℕ} → Shaped s → Shaped (with_held s l)
held_shaped h = record { registers = h.registers; predicates = h.predicates }

-- A bundle keeps the lengths of the lists of registers and predicates.
pub bundle_shaped : (g : Settings) (x : Setup) (s : State) (b : Buffers) → Shaped s → Shaped (bundle g x s b).state
bundle_shaped g x s b h = bundle_cases g x s b (λ o. Shaped o.state) (λ n j. h) (λ j. held_shaped (written_shaped g b s _ _ _ h))

-- So does taking a record.
taken_shaped : (x : Setup) (s : State) → Shaped s → Shaped (taken x s)
taken_shaped x s h =
    taken_cases Shaped x s h (λ e held. entered_cases (λ t. Shaped (with_held (one_place_on t) held)) s.fetch s s.transfer
    (λ srb sro sxb sxo fetch base w active q. record { registers = h.registers; predicates = h.predicates }) (handler_due x s))

-- So does a bundle as it is tried.
done_shaped : {s : State} → Shaped s → Shaped (with_done s)
done_shaped h = record { registers = h.registers; predicates = h.predicates }

pub attempt_shaped : (g : Settings) (x : Setup) (s : State) (b : Buffers) → Shaped s → Shaped (attempt g x s b).state
attempt_shaped g x s b h =
    attempt_cases g x s b (λ o. Shaped o.state) (λ n j. h) (λ j. done_shaped (held_shaped (written_shaped g b (taken x s) _ _ _ (taken_shaped x s h))))

-- So does a step.
pub step_shaped : (x : Setup) (s : State) (b : Buffers) → Shaped s → Shaped (step x s b).state
step_shaped x s b h =
    step_cases x s b (λ o. Shaped o.state) (λ a p. h) (λ p j. done_shaped (held_shaped (written_shaped (lent x b) b (taken x s) _ _ _ (taken_shaped x s h))))
