-- The parts of a well-formed state, and what a bundle writes onto one.
use Rattle.std.specs.Prelude.{ℕ, suc, true, false, ◌&&◌, List, ◌≡◌, refl, eqb, get_or}
use Rattle.std.proofs.Common.{sym, ap, subst, ◌∙◌, arith, eq-eqb, eqb-true, get_or-set_other}
use Rattle.word.specs.BoolLaws.{and_left, and_right}
use Rattle.settings.specs.declared.Settings.{Settings}
use Rattle.products.specs.Products.{products_ok, nearer_products}
use Rattle.products.specs.ProductLaws.{has_room, nearer_room, room_ok, more_ok}
use Rattle.core_state.specs.State.{Further, State, with_register, landing, landed, arrived, with_held, load_ok, wait_ok, parts_ok}
use Rattle.core_state.specs.declared.WaitingLoad.{WaitingLoad}
use Rattle.core_state.specs.declared.WaitingLoad.TheVariants as load
use Rattle.alu_effects.specs.declared.AluEffect.{AluEffect}
use Rattle.effects.specs.declared.Effect.{Effect}
use Rattle.effects.specs.declared.Effect.TheVariants as effect
use Rattle.memory.specs.Access.{loaded_value}
use Rattle.bundle_model.specs.Bundle.{write_one, written, well_formed}
use Rattle.step_laws.proofs.KeptLaws.{with_special_cases, write_alu_cases, arrived_cases, onward_cases, Lasting, written_lasts}
use Rattle.settings.specs.Setup.{Setup, Buffers}
use Rattle.method_cache.specs.MethodCache.{held_ok}

-- A well-formed state: its parts, and the blocks that it holds.
module _ (x : Setup) (s : State) where
  pub well_parts : well_formed x s ≡ true → parts_ok s ≡ true
  unfolding well_formed
  well_parts e = and_left (parts_ok s) (held_ok x.method x.code s.further.held) e

  pub well_held : well_formed x s ≡ true → held_ok x.method x.code s.further.held ≡ true
  unfolding well_formed
  well_held e = and_right (parts_ok s) (held_ok x.method x.code s.further.held) e

  pub well_formed_again : (h : List ℕ) → parts_ok s ≡ true → held_ok x.method x.code h ≡ true → well_formed x (with_held s h) ≡ true
  unfolding well_formed parts_ok
  well_formed_again h p q = (λ i. p i && q i)

-- Its parts.
pub record WellFormed (s : State) : Type 0 where
  pub zero_register : get_or s.registers 0 0 ≡ 0
  pub true_predicate : get_or s.predicates 0 false ≡ true
  pub load : load_ok s.load ≡ true
  pub transfer : wait_ok s.transfer ≡ true
  pub products : products_ok s.further.products ≡ true

-- A well-formed state has them.
pub well_formed_parts : (s : State) → parts_ok s ≡ true → WellFormed s
unfolding parts_ok
well_formed_parts s e =
    let r = eqb (get_or s.registers 0 0) 0 in
    let p = get_or s.predicates 0 false in
    let l = load_ok s.load in
    let w = wait_ok s.transfer in
    let u = products_ok s.further.products in
    let x = and_left (r && p) ((l && w) && u) e in
    let y = and_right (r && p) ((l && w) && u) e in
    let z = and_left (l && w) u y in
    record {
      zero_register = eqb-true _ _ (and_left r p x);
      true_predicate = and_right r p x;
      load = and_left l w z;
      transfer = and_right l w z;
      products = and_right (l && w) u y;
    }

-- A state that has them is well formed.
pub well_formed_whole : (s : State) → WellFormed s → parts_ok s ≡ true
unfolding parts_ok
well_formed_whole s h = rw (eq-eqb _ _ h.zero_register, h.true_predicate, h.load, h.transfer, h.products)

-- The load that slot one begins.
abbrev pub load_begun : Buffers → Effect → WaitingLoad
load_begun b (effect.Alu a) = load.Nothing
load_begun b (effect.Special d v) = load.Nothing
load_begun b (effect.Product x y) = load.Nothing
load_begun b (effect.Load k w r a) = load.Waits r (loaded_value b k w a)
load_begun b (effect.Store k w a v) = load.Nothing
load_begun b (effect.Stack c n m) = load.Nothing
load_begun b (effect.Transfer d t) = load.Nothing
load_begun b (effect.Trap vector handler) = load.Nothing

-- A load that has landed waits no more.
landed_load : (s : State) → (landed s).load ≡ load.Nothing
unfolding landed
landed_load s = go s.load refl
  where
    go : (l : WaitingLoad) → s.load ≡ l → (landing l s).load ≡ load.Nothing
    go load.Nothing e = e
    go (load.Waits r v) e = refl

-- Slot one leaves the load that it begins.
write_one_load : (g : Settings) (b : Buffers) (from : State) (e : Effect) (onto : State) → onto.load ≡ load.Nothing → (write_one g b from e onto).load ≡ load_begun b e
unfolding write_one
write_one_load g b from (effect.Alu a) onto h = write_alu_cases (λ s. s.load ≡ load.Nothing) a onto (λ rs ps. h)
write_one_load g b from (effect.Special d v) onto h = with_special_cases (λ s. s.load ≡ load.Nothing) onto d v h (λ x. h)
write_one_load g b from (effect.Product x y) onto h = h
write_one_load g b from (effect.Load j w r a) onto h = refl
write_one_load g b from (effect.Store j w a v) onto h = h
write_one_load g b from (effect.Stack c n m) onto h = h
write_one_load g b from (effect.Transfer d t) onto h = h
write_one_load g b from (effect.Trap vector handler) onto h = h

-- The load that waits after a bundle is the one that slot one began.
pub written_load : (g : Settings) (b : Buffers) (s : State) (one : Effect) (two : AluEffect) (following : ℕ) → (written g b s one two following).load ≡ load_begun b one
unfolding written
written_load g b s one two following =
    let t = write_one_load g b s one (arrived (landed s)) (arrived_cases (λ x. x.load ≡ load.Nothing) (landed s) (λ x. landed_load s)) in
    onward_cases (λ x. x.load ≡ load_begun b one) following _ one s.transfer (λ srb sro sxb sxo fetch base w active q. write_alu_cases (λ x. x.load ≡ load_begun b one) two _ (λ rs ps. t))

-- A load that lands leaves the products under way and the blocks held.
landed_further : (s : State) → (landed s).further ≡ s.further
unfolding landed with_register
landed_further s = go s.load
  where
    go : (l : WaitingLoad) → (landing l s).further ≡ s.further
    go load.Nothing = refl
    go (load.Waits r v) = refl

-- Slot one leaves the products such as 11 lets pass, where there is room for the one that it may begin.
write_one_products : (g : Settings) (b : Buffers) (from : State) (e : Effect) (onto : State) → has_room onto.further.products ≡ true
    → products_ok (write_one g b from e onto).further.products ≡ true
unfolding write_one
write_one_products g b from (effect.Alu a) onto h = write_alu_cases (λ s. products_ok s.further.products ≡ true) a onto (λ rs ps. room_ok _ h)
write_one_products g b from (effect.Special d v) onto h = with_special_cases (λ s. products_ok s.further.products ≡ true) onto d v (room_ok _ h) (λ x. room_ok _ h)
write_one_products g b from (effect.Product x y) onto h = more_ok _ x y h
write_one_products g b from (effect.Load j w r a) onto h = room_ok _ h
write_one_products g b from (effect.Store j w a v) onto h = room_ok _ h
write_one_products g b from (effect.Stack c n m) onto h = room_ok _ h
write_one_products g b from (effect.Transfer d t) onto h = room_ok _ h
write_one_products g b from (effect.Trap vector handler) onto h = room_ok _ h

-- So does a bundle: each product under way came one bundle nearer, which makes room.
written_products : (g : Settings) (b : Buffers) (s : State) (one : Effect) (two : AluEffect) (following : ℕ) → products_ok s.further.products ≡ true
    → products_ok (written g b s one two following).further.products ≡ true
unfolding written
written_products g b s one two following h =
    let nearer = subst (λ (f : Further). has_room (nearer_products f.products) ≡ true) (sym (landed_further s)) (nearer_room s.further.products h) in
    let room = arrived_cases (λ x. has_room x.further.products ≡ true) (landed s) (λ x. nearer) in
    let t = write_one_products g b s one (arrived (landed s)) room in
    onward_cases (λ x. products_ok x.further.products ≡ true) following _ one s.transfer (λ srb sro sxb sxo fetch base w active q.
    write_alu_cases (λ x. products_ok x.further.products ≡ true) two _ (λ rs ps. t))

-- r0 stays zero and p0 true.
firsts_last : Lasting (λ l. get_or l 0 0 ≡ 0) (λ l. get_or l 0 false ≡ true)
firsts_last =
    record {
      registers = λ l r v e. get_or-set_other l (suc r) 0 v 0 (λ z. omega arith) ∙ e;
      predicates = λ l i v e. get_or-set_other l (suc i) 0 v false (λ z. omega arith) ∙ e;
      word = λ v. refl;
    }

-- What is written onto a well-formed state is well formed, if the register of a load that slot one begins is below 32.
pub written_well_formed : (g : Settings) (b : Buffers) (s : State) (one : Effect) (two : AluEffect) (following : ℕ) → load_ok (load_begun b one) ≡ true
    → WellFormed s → WellFormed (written g b s one two following)
unfolding written
written_well_formed g b s one two following p h =
    let t = written_lasts (λ l. get_or l 0 0 ≡ 0) (λ l. get_or l 0 false ≡ true) firsts_last g b s one two following (h.zero_register, h.true_predicate) in
    record {
      zero_register = t.0;
      true_predicate = t.1;
      load = ap load_ok (written_load g b s one two following) ∙ p;
      transfer = onward_cases (λ x. wait_ok x.transfer ≡ true) following _ one s.transfer (λ srb sro sxb sxo fetch base w active q. q h.transfer);
      products = written_products g b s one two following h.products;
    }
