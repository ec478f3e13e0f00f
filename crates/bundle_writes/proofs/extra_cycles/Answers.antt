use mathlib.Core.Path.{refl}
use Rattle.bundle_writes.proofs.extra_cycles.Goals as goal

pub returns-then-delayed : goal.returns-then-delayed
returns-then-delayed c = rw c.if-delayed.true refl

pub returns-in-Br : goal.returns-in-Br
returns-in-Br c = rw (c.if-delayed.false, c.in-Br.is) refl

pub returns-in-Call : goal.returns-in-Call
returns-in-Call c = rw (c.if-delayed.false, c.in-Call.is) refl

pub returns-in-Block : goal.returns-in-Block
returns-in-Block c = rw (c.if-delayed.false, c.in-Block.is) refl

pub returns-in-Xret : goal.returns-in-Xret
returns-in-Xret c = rw (c.if-delayed.false, c.in-Xret.is) refl
