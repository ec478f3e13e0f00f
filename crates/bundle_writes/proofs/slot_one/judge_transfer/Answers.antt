use mathlib.Core.Path.{ap}
use mathlib.Core.Bool.{not}
use Rattle.settings.specs.Setup.{setup_of}
use Rattle.core_state.specs.Core.{waiting_transfer}
use Rattle.bundle_model.specs.Lookup.{bases_of, lookup_tests}
use Rattle.bundle_writes.specs.Lookup.{transfer_waits, transfer_judged}
use Rattle.bundle_writes.proofs.slot_one.judge_transfer.Goals as goal

pub returns-then-not-none_waits : goal.returns-then-not-none_waits
returns-then-not-none_waits c =
    let a = c.args in
    let ts = lookup_tests a.g.method a.code.now (bases_of (setup_of a.code.now a.g) a.t) in
    transfer_waits (waiting_transfer a.core.transfer) ts _ c.none_waits.ensures (ap not c.if-not-none_waits.true)

pub returns : goal.returns
returns c =
    let a = c.args in
    let ts = lookup_tests a.g.method a.code.now (bases_of (setup_of a.code.now a.g) a.t) in
    transfer_judged (waiting_transfer a.core.transfer) ts _ c.none_waits.ensures _ (ap not c.if-not-none_waits.false) c.judge_lookup.ensures
