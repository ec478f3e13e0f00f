use mathlib.Core.Path.{◌∙◌}
use Rattle.core_state.specs.declared.WaitingTransfer.TheVariants as transfer
use Rattle.core_state.specs.State.{transferred}
use Rattle.core_state.proofs.WordLaws.{transfer_back}
use Rattle.core_state.proofs.Core.transfer.Goals as goal

pub returns-in-Br : goal.returns-in-Br
unfolding transferred
returns-in-Br c = let w = c.go_on.ensures in record { state = λ rs ps. rw c.in-Br.is (w.state rs ps ∙ rw (c.no_transfer.ensures, transfer_back transfer.Nothing)); transfer = w.transfer ∙ c.no_transfer.ensures; load = w.load; products = w.products }

pub returns-in-Call : goal.returns-in-Call
unfolding transferred
returns-in-Call c = let w = c.go_on-in-Call.ensures in record { state = λ rs ps. rw c.in-Call.is (w.state rs ps ∙ rw (c.sub-offset.ensures, c.no_transfer-in-Call.ensures, transfer_back transfer.Nothing)); transfer = w.transfer ∙ c.no_transfer-in-Call.ensures; load = w.load; products = w.products }

pub returns-in-Block : goal.returns-in-Block
unfolding transferred
returns-in-Block c = let w = c.go_on-in-Block.ensures in record { state = λ rs ps. rw c.in-Block.is (w.state rs ps ∙ rw (c.no_transfer-in-Block.ensures, transfer_back transfer.Nothing)); transfer = w.transfer ∙ c.no_transfer-in-Block.ensures; load = w.load; products = w.products }

pub returns-in-Xret : goal.returns-in-Xret
unfolding transferred
returns-in-Xret c = let w = c.go_on-in-Xret.ensures in record { state = λ rs ps. rw c.in-Xret.is (w.state rs ps ∙ rw (c.no_transfer-in-Xret.ensures, transfer_back transfer.Nothing)); transfer = w.transfer ∙ c.no_transfer-in-Xret.ensures; load = w.load; products = w.products }
