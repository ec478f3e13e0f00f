use mathlib.Core.Path.{sym}
use Rattle.core_state.specs.CoreLaws.{no_transfer, some_transfer}
use Rattle.core_state.proofs.waiting.waiting_transfer.Goals as goal

pub returns-then-w-eq0 : goal.returns-then-w-eq0
returns-then-w-eq0 c = sym (no_transfer c.args.w c.if-w-eq0.true)

pub returns : goal.returns
returns c = rw (some_transfer c.args.w c.if-w-eq0.false, c.transfer_in-transfer.ensures)
