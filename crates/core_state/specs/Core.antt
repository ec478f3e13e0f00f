-- The state in parts, for the contracts of the functions that are lent the registers and the predicates.
use Rattle.std.specs.Prelude.{ℕ, ◌-◌, Bool, cond, List, [], ◌≡◌, eqb, leb}
use Rattle.std.specs.Borrow.{MutBor}
use denote.Triple.Both.{Both}
use Rattle.effects.specs.declared.Transfer.{Transfer}
use Rattle.effects.specs.declared.Transfer.TheVariants.{Br, Call, Block, Xret}
use Rattle.products.specs.declared.ProductWords.{ProductWords}
use Rattle.products.specs.Words.{products_in, FixedProducts}
use Rattle.core_state.specs.declared.TransferWords.{TransferWords}
use Rattle.core_state.specs.declared.LoadWords.{LoadWords}
use Rattle.core_state.specs.declared.WaitingTransfer.{WaitingTransfer}
use Rattle.core_state.specs.declared.WaitingTransfer.TheVariants as transfer
use Rattle.core_state.specs.declared.WaitingLoad.{WaitingLoad}
use Rattle.core_state.specs.declared.WaitingLoad.TheVariants as load
use Rattle.core_state.specs.State.{State, state, further}
use Rattle.core_state.specs.Writes.{delay_slots}
use Rattle.core_state.specs.declared.Core.{Core}

-- What waits, of its words.
unfoldable pub transfer_in : TransferWords → Transfer
transfer_in w =
    cond (eqb w.kind 1) (Br w.target)
    (cond (eqb w.kind 2) (Call w.target)
    (cond (eqb w.kind 3) (Block w.target w.base) (Xret w.target w.base)))

unfoldable pub waiting_transfer : TransferWords → WaitingTransfer
waiting_transfer w = cond (eqb w.kind 0) transfer.Nothing (transfer.Waits (transfer_in w) w.wait)

unfoldable pub waiting_load : LoadWords → WaitingLoad
waiting_load l = cond (eqb l.waits 0) load.Nothing (load.Waits l.register l.value)

-- The words of what waits. Other words mean the same, since any kind from 4 on is an xret and beside a kind of 0 no word counts: a
-- contract that named only the meaning would leave the words open.
abbrev pub four_words : ℕ → ℕ → ℕ → ℕ → TransferWords
four_words kind target base wait = record { kind = kind; target = target; base = base; wait = wait }

unfoldable pub transfer_words : WaitingTransfer → TransferWords
transfer_words transfer.Nothing = four_words 0 0 0 0
transfer_words (transfer.Waits (Br target) wait) = four_words 1 target 0 wait
transfer_words (transfer.Waits (Call target) wait) = four_words 2 target 0 wait
transfer_words (transfer.Waits (Block target base) wait) = four_words 3 target base wait
transfer_words (transfer.Waits (Xret target base) wait) = four_words 4 target base wait

unfoldable pub load_words : WaitingLoad → LoadWords
load_words load.Nothing = record { waits = 0; register = 0; value = 0 }
load_words (load.Waits r v) = record { waits = 1; register = r; value = v }

-- The words of a transfer at the end of a bundle: one that waited, and one that begins.
abbrev pub one_less : TransferWords → TransferWords
one_less w = four_words w.kind w.target w.base (w.wait - 1)

unfoldable pub nearer_words : TransferWords → TransferWords
nearer_words w = cond (eqb w.kind 0) w (cond (leb w.wait 1) (transfer_words transfer.Nothing) (one_less w))

unfoldable pub begun_words : Bool → Transfer → TransferWords
begun_words delayed t = cond delayed (transfer_words (transfer.Waits t (delay_slots t))) (transfer_words transfer.Nothing)

-- In contracts, what a function says of the core that it gives: the state that it makes, and the words of what waits and is under way in it.
pub record Written (Makes : Type 0) (c : Core) (w : TransferWords) (l : LoadWords) (p : ProductWords) : Type 0 where
  pub state : Makes
  pub transfer : c.transfer ≡ w
  pub load : c.load ≡ l
  pub products : c.products ≡ p

-- A core whose words are those of what waits and is under way in it. Such a core is determined by its state.
pub record Canonical (c : Core) : Type 0 where
  pub transfer : transfer_words (waiting_transfer c.transfer) ≡ c.transfer
  pub load : load_words (waiting_load c.load) ≡ c.load
  pub products : FixedProducts c.products

-- A state of its registers, its predicates and the rest, which holds no block: what is held is lent beside it, and put in by `with_held`.
abbrev pub joined : List ℕ → List Bool → Core → State
joined rs ps c =
    state rs ps c.specials c.fetch c.base (waiting_transfer c.transfer) (waiting_load c.load) (further (products_in c.products) [] c.replay)

-- In contracts, the state of the registers and predicates that a function is lent, when it is called and when it returns, and of the rest.
abbrev pub Registers : Type 0
Registers = Both (MutBor (List ℕ)) (MutBor (List ℕ))

abbrev pub Predicates : Type 0
Predicates = Both (MutBor (List Bool)) (MutBor (List Bool))

abbrev pub found_state : Registers → Predicates → Core → State
found_state registers predicates c = joined registers.entry.now predicates.entry.now c

abbrev pub left_state : Registers → Predicates → Core → State
left_state registers predicates c = joined registers.exit.now predicates.exit.now c
