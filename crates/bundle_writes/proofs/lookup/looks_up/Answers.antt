use mathlib.Core.Path.{refl}
use Rattle.bundle_model.specs.Lookup.{bases_of}
use Rattle.bundle_writes.proofs.lookup.looks_up.Goals as goal

pub returns-in-Br : goal.returns-in-Br
unfolding bases_of
returns-in-Br c = rw c.in-Br.is refl

pub returns-in-Call : goal.returns-in-Call
unfolding bases_of
returns-in-Call c = rw c.in-Call.is refl

pub returns-in-Block : goal.returns-in-Block
unfolding bases_of
returns-in-Block c = rw c.in-Block.is refl

pub returns-in-Xret : goal.returns-in-Xret
unfolding bases_of
returns-in-Xret c = rw c.in-Xret.is refl
