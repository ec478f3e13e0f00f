use mathlib.Core.Bool.{not}
use mathlib.Core.Path.{ap}
use Rattle.bundle_writes.specs.Lookup.{looked_none, looked_one, bases_none, bases_one}
use Rattle.bundle_writes.proofs.lookup.look_up_transfer.Goals as goal

pub returns-then-not-looks_up : goal.returns-then-not-looks_up
returns-then-not-looks_up c = let a = c.args in looked_none a.g a.code.now a.t a.held.now (bases_none a.g a.code.now a.t c.looks_up.result (ap not c.if-not-looks_up.true) c.looks_up.ensures)

pub returns : goal.returns
returns c =
    let a = c.args in
    let e = bases_one a.g a.code.now a.t c.looks_up.result (ap not c.if-not-looks_up.false) c.looks_up.ensures in
    let r = c.look_up.ensures in
    looked_one a.g a.code.now a.t a.held.now _ c.look_up.result _ c.new_base.ensures e r.2 r.0 r.1
