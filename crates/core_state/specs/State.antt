-- The state: changing its parts, what is well formed, and the fresh state.
use Rattle.std.specs.Prelude.{ℕ, zero, suc, ◌/◌, ◌%◌, Bool, true, false, ◌&&◌, List, [], ◌∷◌, ◌≡◌, eqb, leb, length, get_or, replicate}
use Rattle.std.proofs.Math.Option.{Option, none, some}
use Rattle.word.specs.Word.{sub}
use Rattle.registers.specs.Registers.{put_later}
use Rattle.isa.specs.declared.Special.{Special}
use Rattle.isa.specs.declared.Special.TheVariants.{S0, Sl, Sh, Ss, St, Srb, Sro, Sxb, Sxo}
use Rattle.alu_effects.specs.declared.Specials.{Specials}
use Rattle.effects.specs.declared.Transfer.{Transfer}
use Rattle.effects.specs.declared.Transfer.TheVariants.{Br, Call, Block, Xret}
use Rattle.effects.specs.Effect.{Start, start}
use Rattle.replay.specs.declared.Replay.{Replay}
use Rattle.replay.specs.Replay.{replay, not_begun, one_more}
use Rattle.products.specs.declared.Product.{Product}
use Rattle.products.specs.declared.Products.{Products}
use Rattle.products.specs.declared.Products.TheVariants as products
use Rattle.products.specs.Products.{products_ok, due_product, nearer_products, with_one_more}
use Rattle.core_state.specs.declared.WaitingTransfer.{WaitingTransfer}
use Rattle.core_state.specs.declared.WaitingTransfer.TheVariants as transfer
use Rattle.core_state.specs.declared.WaitingLoad.{WaitingLoad}
use Rattle.core_state.specs.declared.WaitingLoad.TheVariants as load

-- What the requests of document 02 add to the state: the products under way, the blocks that the method cache holds, by their bases, the
-- oldest first, and how far the replay is.
pub record Further : Type 0 where
  pub products : Products
  pub held : List ℕ
  pub replay : Replay

abbrev pub further : Products → List ℕ → Replay → Further
further products held replay = record { products = products; held = held; replay = replay }

-- The state: registers, predicates, special registers, the fetch address, the base, what waits, and what is added to it.
pub record State : Type 0 where
  pub registers : List ℕ
  pub predicates : List Bool
  pub specials : Specials
  pub fetch : ℕ
  pub base : ℕ
  pub transfer : WaitingTransfer
  pub load : WaitingLoad
  pub further : Further

-- A state of its parts, in this order.
abbrev pub state : List ℕ → List Bool → Specials → ℕ → ℕ → WaitingTransfer → WaitingLoad → Further → State
state registers predicates specials fetch base transfer load further =
    record { registers = registers; predicates = predicates; specials = specials; fetch = fetch; base = base; transfer = transfer; load = load; further = further }

-- There are 32 registers and 8 predicates.
pub record Shaped (s : State) : Type 0 where
  pub registers : length s.registers ≡ 32
  pub predicates : length s.predicates ≡ 8

abbrev pub specials : ℕ → ℕ → ℕ → ℕ → ℕ → ℕ → ℕ → ℕ → Specials
specials sl sh ss st srb sro sxb sxo = record { sl = sl; sh = sh; ss = ss; st = st; srb = srb; sro = sro; sxb = sxb; sxo = sxo }

-- What slots read of it, beside the table of handlers.
abbrev pub start_of : List ℕ → State → Start
start_of table s = start s.registers s.predicates s.specials s.fetch table

-- Registers and predicates. r0 and p0 are never written.
unfoldable pub with_register : State → ℕ → ℕ → State
with_register s r v =
    state (put_later s.registers r v) s.predicates s.specials s.fetch s.base s.transfer s.load s.further

abbrev pub with_predicates : State → List Bool → State
with_predicates s ps =
    state s.registers ps s.specials s.fetch s.base s.transfer s.load s.further

unfoldable pub with_predicate : State → ℕ → Bool → State
with_predicate s p b = with_predicates s (put_later s.predicates p b)

-- The k lowest bits of a word as predicates.
unfoldable pub predicates_of : ℕ → ℕ → List Bool
predicates_of zero v = []
predicates_of (suc k) v = eqb (v % 2) 1 ∷ predicates_of k (v / 2)

abbrev pub with_specials : State → Specials → State
with_specials s specials = state s.registers s.predicates specials s.fetch s.base s.transfer s.load s.further

-- A special register written. Of s0 bits 1 to 7 are p1 to p7; p0 stays true and the other bits have no effect.
unfoldable pub with_special : State → Special → ℕ → State
with_special s S0 v = with_predicates s (true ∷ predicates_of 7 (v / 2))
with_special s Sl v = let x = s.specials in with_specials s (specials v x.sh x.ss x.st x.srb x.sro x.sxb x.sxo)
with_special s Sh v = let x = s.specials in with_specials s (specials x.sl v x.ss x.st x.srb x.sro x.sxb x.sxo)
with_special s Ss v = let x = s.specials in with_specials s (specials x.sl x.sh v x.st x.srb x.sro x.sxb x.sxo)
with_special s St v = let x = s.specials in with_specials s (specials x.sl x.sh x.ss v x.srb x.sro x.sxb x.sxo)
with_special s Srb v = let x = s.specials in with_specials s (specials x.sl x.sh x.ss x.st v x.sro x.sxb x.sxo)
with_special s Sro v = let x = s.specials in with_specials s (specials x.sl x.sh x.ss x.st x.srb v x.sxb x.sxo)
with_special s Sxb v = let x = s.specials in with_specials s (specials x.sl x.sh x.ss x.st x.srb x.sro v x.sxo)
with_special s Sxo v = let x = s.specials in with_specials s (specials x.sl x.sh x.ss x.st x.srb x.sro x.sxb v)

-- The product in sl and sh, the stack's two pointers, and the return registers of calls and of handlers.
abbrev pub with_product : State → ℕ → ℕ → State
with_product s low high =
    let x = s.specials in with_specials s (specials low high x.ss x.st x.srb x.sro x.sxb x.sxo)

abbrev pub with_stack : State → ℕ → ℕ → State
with_stack s st ss =
    let x = s.specials in with_specials s (specials x.sl x.sh ss st x.srb x.sro x.sxb x.sxo)

abbrev pub returning_to : Specials → ℕ → ℕ → Specials
returning_to x srb sro = specials x.sl x.sh x.ss x.st srb sro x.sxb x.sxo

abbrev pub excepted_to : Specials → ℕ → ℕ → Specials
excepted_to x sxb sxo = specials x.sl x.sh x.ss x.st x.srb x.sro sxb sxo

-- The waiting load.
abbrev pub with_load : State → WaitingLoad → State
with_load s l =
    state s.registers s.predicates s.specials s.fetch s.base s.transfer l s.further

-- The load that waits since the bundle before is written, and waits no more.
abbrev pub landing : WaitingLoad → State → State
landing load.Nothing s = s
landing (load.Waits r v) s = with_load (with_register s r v) load.Nothing

unfoldable pub landed : State → State
landed s = landing s.load s

-- The products under way. One that falls due is written, and the others come one bundle nearer; a multiply begins one more.
abbrev pub with_products : State → Products → State
with_products s p =
    state s.registers s.predicates s.specials s.fetch s.base s.transfer s.load (further p s.further.held s.further.replay)

abbrev pub with_arrival : Option Product → State → State
with_arrival none s = s
with_arrival (some p) s = with_product s p.low p.high

unfoldable pub arrived : State → State
arrived s = with_arrival (due_product s.further.products) (with_products s (nearer_products s.further.products))

abbrev pub with_begun : State → ℕ → ℕ → State
with_begun s low high = with_products s (with_one_more s.further.products low high)

-- The blocks held. Of a bundle's writes none changes them: a lookup does.
abbrev pub with_held : State → List ℕ → State
with_held s held =
    state s.registers s.predicates s.specials s.fetch s.base s.transfer s.load (further s.further.products held s.further.replay)

-- How far the replay is: a handler is active or not, a record is taken, and a bundle is done.
abbrev pub with_replay : State → Replay → State
with_replay s r =
    state s.registers s.predicates s.specials s.fetch s.base s.transfer s.load (further s.further.products s.further.held r)

abbrev pub set_active : Replay → Bool → Replay
set_active r active = replay active r.place r.done

abbrev pub one_place_on : State → State
one_place_on s = let r = s.further.replay in with_replay s (replay r.active (one_more r.place) r.done)

abbrev pub with_done : State → State
with_done s = let r = s.further.replay in with_replay s (replay r.active r.place (one_more r.done))

-- Where the core goes on: fetch address, base, the return registers, what waits, and whether a handler is active.
abbrev pub with_flow : State → Specials → ℕ → ℕ → WaitingTransfer → Bool → State
with_flow s x fetch base waiting active =
    state s.registers s.predicates x fetch base waiting s.load (further s.further.products s.further.held (set_active s.further.replay active))

-- Going on at an address, with a transfer that waits or none.
abbrev pub going_on : State → ℕ → WaitingTransfer → State
going_on s fetch waiting = with_flow s s.specials fetch s.base waiting s.further.replay.active

-- A transfer carried out, at the end of the bundle before the following address. A call keeps where to return: in srb the base that
-- it leaves, in sro the following address counted from there; its target is the new base. A block transfer brings its own base: brcf the
-- base operand, ret the srb that it read. So does xret, the sxb that it read, and it ends the handler.
unfoldable pub transferred : State → Transfer → ℕ → State
transferred s (Br target) following = with_flow s s.specials target s.base transfer.Nothing s.further.replay.active
transferred s (Call target) following = with_flow s (returning_to s.specials s.base (sub following s.base)) target target transfer.Nothing s.further.replay.active
transferred s (Block target base) following = with_flow s s.specials target base transfer.Nothing s.further.replay.active
transferred s (Xret target base) following = with_flow s s.specials target base transfer.Nothing false

-- A handler entered, to which xret returns at an address: in sxb the base that is left, in sxo the address counted from there. The handler is
-- the new base, and active. An interrupt comes back to the fetch address that it found, a trap to the following address.
unfoldable pub entered : State → ℕ → ℕ → State
entered s handler back = with_flow s (excepted_to s.specials s.base (sub back s.base)) handler handler transfer.Nothing true

-- Refusal 11 is for a state that is not well formed: r0 is not 0, p0 is not true, a load waits for a register that there is not, a
-- transfer waits 0 or more than 3 bundles, or `products_ok` does not hold of the products under way. What it says of the blocks held needs
-- the code and the method cache: `well_formed` (bundle_model, Bundle) has it too.
abbrev pub load_ok : WaitingLoad → Bool
load_ok load.Nothing = true
load_ok (load.Waits r v) = leb r 31

abbrev pub wait_ok : WaitingTransfer → Bool
wait_ok transfer.Nothing = true
wait_ok (transfer.Waits t n) = leb 1 n && leb n 3

unfoldable pub parts_ok : State → Bool
parts_ok s =
    (eqb (get_or s.registers 0 0) 0 && get_or s.predicates 0 false) && ((load_ok s.load && wait_ok s.transfer) && products_ok s.further.products)

-- A state has ended if it would fetch at the end of the code and no transfer waits.
abbrev pub none_waits : WaitingTransfer → Bool
none_waits transfer.Nothing = true
none_waits (transfer.Waits t n) = false

unfoldable pub ended : State → ℕ → Bool
ended s code_length = eqb s.fetch code_length && none_waits s.transfer

-- The fresh state at an entry.
unfoldable pub fresh : ℕ → ℕ → ℕ → State
fresh code_length hi entry =
    state (replicate 32 0) (true ∷ predicates_of 7 0) (specials 0 0 hi hi 0 code_length 0 0) entry entry transfer.Nothing load.Nothing (further products.Nothing [] not_begun)

-- The state that is nobody's: all zero, p0 too, so 11 describes it, and no step or run of any code takes it. Where there is no state to hand
-- back, this one is.
unfoldable pub blank : State
blank = state (replicate 32 0) (replicate 8 false) (specials 0 0 0 0 0 0 0 0) 0 0 transfer.Nothing load.Nothing (further products.Nothing [] not_begun)
