-- Laws of the words of what waits: they say what waits, and a core that has them is determined by its state.
use Rattle.std.specs.Prelude.{ℕ, ◌-◌, Bool, true, false, cond, List, ◌≡◌, refl, leb}
use Rattle.std.proofs.Common.{sym, ap, subst, ◌∙◌}
use Rattle.products.specs.Words.{product_words, FixedProducts}
use Rattle.effects.specs.declared.Transfer.{Transfer}
use Rattle.effects.specs.declared.Transfer.TheVariants.{Br, Call, Block, Xret}
use Rattle.core_state.specs.declared.TransferWords.{TransferWords}
use Rattle.core_state.specs.declared.LoadWords.{LoadWords}
use Rattle.core_state.specs.declared.WaitingTransfer.{WaitingTransfer}
use Rattle.core_state.specs.declared.WaitingTransfer.TheVariants as transfer
use Rattle.core_state.specs.declared.WaitingLoad.{WaitingLoad}
use Rattle.core_state.specs.declared.WaitingLoad.TheVariants as load
use Rattle.core_state.specs.declared.Core.{Core}
use Rattle.core_state.specs.Writes.{delay_slots}
use Rattle.core_state.specs.Core.{transfer_in, waiting_transfer, waiting_load, transfer_words, load_words, one_less, nearer_words, begun_words, joined, Canonical}
use Rattle.core_state.specs.CoreLaws.{some_transfer}

pub transfer_back : (w : WaitingTransfer) → waiting_transfer (transfer_words w) ≡ w
unfolding waiting_transfer transfer_in transfer_words
transfer_back transfer.Nothing = refl
transfer_back (transfer.Waits (Br target) wait) = refl
transfer_back (transfer.Waits (Call target) wait) = refl
transfer_back (transfer.Waits (Block target base) wait) = refl
transfer_back (transfer.Waits (Xret target base) wait) = refl

pub load_back : (l : WaitingLoad) → waiting_load (load_words l) ≡ l
unfolding waiting_load load_words
load_back load.Nothing = refl
load_back (load.Waits r v) = refl

-- A transfer that waits says the same one bundle nearer.
pub one_nearer : (w : TransferWords) → (w.kind ≡ 0 → ⊥) → waiting_transfer (one_less w) ≡ transfer.Waits (transfer_in w) (w.wait - 1)
unfolding transfer_in
one_nearer w e = some_transfer (one_less w) e

-- Words that are those of what waits in them, also after a bundle.
abbrev pub Fixed : TransferWords → Type 0
Fixed w = transfer_words (waiting_transfer w) ≡ w

pub words_fixed : (w : WaitingTransfer) → Fixed (transfer_words w)
words_fixed w = ap transfer_words (transfer_back w)

pub load_fixed : (l : WaitingLoad) → load_words (waiting_load (load_words l)) ≡ load_words l
load_fixed l = ap load_words (load_back l)

pub begun_fixed : (delayed : Bool) (t : Transfer) → Fixed (begun_words delayed t)
unfolding begun_words
begun_fixed true t = words_fixed (transfer.Waits t (delay_slots t))
begun_fixed false t = words_fixed transfer.Nothing

pub nearer_fixed : (w : TransferWords) → Fixed w → Fixed (nearer_words w)
unfolding nearer_words transfer_words
nearer_fixed w e = subst (λ (v : TransferWords). Fixed (nearer_words v)) e (go (waiting_transfer w))
  where
    due : (v u : WaitingTransfer) (t : Bool) → Fixed (cond t (transfer_words v) (transfer_words u))
    due v u true = words_fixed v
    due v u false = words_fixed u

    go : (v : WaitingTransfer) → Fixed (nearer_words (transfer_words v))
    go transfer.Nothing = words_fixed transfer.Nothing
    go (transfer.Waits (Br target) n) = due transfer.Nothing (transfer.Waits (Br target) (n - 1)) (leb n 1)
    go (transfer.Waits (Call target) n) = due transfer.Nothing (transfer.Waits (Call target) (n - 1)) (leb n 1)
    go (transfer.Waits (Block target base) n) = due transfer.Nothing (transfer.Waits (Block target base) (n - 1)) (leb n 1)
    go (transfer.Waits (Xret target base) n) = due transfer.Nothing (transfer.Waits (Xret target base) (n - 1)) (leb n 1)

-- A core with such words is canonical.
pub canonical_with : (c : Core) (w : TransferWords) (l : LoadWords) → c.transfer ≡ w → c.load ≡ l → Fixed w → load_words (waiting_load l) ≡ l → FixedProducts c.products → Canonical c
canonical_with c w l e f g h p =
    record { transfer = subst Fixed (sym e) g; load = subst (λ (y : LoadWords). load_words (waiting_load y) ≡ y) (sym f) h; products = p }

-- A state has one canonical core.
pub determined : (rs us : List ℕ) (ps qs : List Bool) (c d : Core) → Canonical c → Canonical d → joined rs ps c ≡ joined us qs d → c ≡ d
determined rs us ps qs c d k m e =
    let t : c.transfer ≡ d.transfer = sym k.transfer ∙ (λ i. transfer_words (e i).transfer) ∙ m.transfer in
    let l : c.load ≡ d.load = sym k.load ∙ (λ i. load_words (e i).load) ∙ m.load in
    let p : c.products ≡ d.products = sym k.products ∙ (λ i. product_words (e i).further.products) ∙ m.products in
    λ i. record { specials = (e i).specials; fetch = (e i).fetch; base = (e i).base; transfer = t i; load = l i; products = p i; replay = (e i).further.replay }
