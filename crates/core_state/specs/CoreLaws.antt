-- Laws of what waits, as words.
use Rattle.std.specs.Prelude.{Bool, cond, ◌&&◌, ◌||◌, ◌≡◌, eqb}
use Rattle.std.proofs.Math.Bool.{true, false}
use Rattle.std.proofs.Math.Path.{refl}
use Rattle.std.proofs.Math.Dec.{leb}
use Rattle.std.proofs.Common.{eq-eqb, ne_eqb}
use Rattle.core_state.specs.declared.TransferWords.{TransferWords}
use Rattle.core_state.specs.declared.LoadWords.{LoadWords}
use Rattle.core_state.specs.declared.WaitingTransfer.TheVariants as transfer
use Rattle.core_state.specs.declared.WaitingLoad.TheVariants as load
use Rattle.core_state.specs.State.{load_ok, wait_ok, none_waits}
use Rattle.core_state.specs.Core.{transfer_in, waiting_transfer, waiting_load}

module _ (l : LoadWords) where
  pub no_load : l.waits ≡ 0 → waiting_load l ≡ load.Nothing
  unfolding waiting_load
  no_load e = rw (eq-eqb _ _ e)

  pub some_load : (l.waits ≡ 0 → ⊥) → waiting_load l ≡ load.Waits l.register l.value
  unfolding waiting_load
  some_load e = rw (ne_eqb _ _ e)

  pub load_ok_lem : (eqb l.waits 0 || leb l.register 31) ≡ load_ok (waiting_load l)
  unfolding waiting_load
  load_ok_lem = go (eqb l.waits 0)
    where
      go : (t : Bool) → (t || leb l.register 31) ≡ load_ok (cond t load.Nothing (load.Waits l.register l.value))
      go true = refl
      go false = refl

module _ (w : TransferWords) where
  pub no_transfer : w.kind ≡ 0 → waiting_transfer w ≡ transfer.Nothing
  unfolding waiting_transfer
  no_transfer e = rw (eq-eqb _ _ e)

  pub some_transfer : (w.kind ≡ 0 → ⊥) → waiting_transfer w ≡ transfer.Waits (transfer_in w) w.wait
  unfolding waiting_transfer
  some_transfer e = rw (ne_eqb _ _ e)

  pub none_waits_lem : eqb w.kind 0 ≡ none_waits (waiting_transfer w)
  unfolding waiting_transfer
  none_waits_lem = go (eqb w.kind 0)
    where
      go : (t : Bool) → t ≡ none_waits (cond t transfer.Nothing (transfer.Waits (transfer_in w) w.wait))
      go true = refl
      go false = refl

  pub wait_ok_lem : (eqb w.kind 0 || (leb 1 w.wait && leb w.wait 3)) ≡ wait_ok (waiting_transfer w)
  unfolding waiting_transfer
  wait_ok_lem = go (eqb w.kind 0)
    where
      go : (t : Bool) → (t || (leb 1 w.wait && leb w.wait 3)) ≡ wait_ok (cond t transfer.Nothing (transfer.Waits (transfer_in w) w.wait))
      go true = refl
      go false = refl
