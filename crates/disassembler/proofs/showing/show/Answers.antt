use Rattle.disassembler.specs.Shown.{shown}
use Rattle.disassembler.proofs.showing.show.Goals as goal

pub returns-in-Multiply : goal.returns-in-Multiply
unfolding shown
returns-in-Multiply c = rw (c.in-Multiply.is, ← c.multiply_code.ensures) c.two.ensures

pub returns-in-Mts : goal.returns-in-Mts
unfolding shown
returns-in-Mts c = rw (c.in-Mts.is, ← c.special_code.ensures) c.two-in-Mts.ensures

pub returns-in-Mfs : goal.returns-in-Mfs
unfolding shown
returns-in-Mfs c = rw (c.in-Mfs.is, ← c.special_code-in-Mfs.ensures) c.two-in-Mfs.ensures

pub returns-in-Load : goal.returns-in-Load
unfolding shown
returns-in-Load c = rw (c.in-Load.is, ← c.load_type.ensures) c.three.ensures

pub returns-in-Store : goal.returns-in-Store
unfolding shown
returns-in-Store c = rw (c.in-Store.is, ← c.store_type.ensures) c.three-in-Store.ensures

pub returns-in-Trap : goal.returns-in-Trap
unfolding shown
returns-in-Trap c = rw c.in-Trap.is c.one.ensures

pub returns-in-Xret : goal.returns-in-Xret
unfolding shown
returns-in-Xret c = rw (c.in-Xret.is, ← c.bit.ensures) c.one-in-Xret.ensures
