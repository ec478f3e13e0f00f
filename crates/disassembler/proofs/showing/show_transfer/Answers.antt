use mir.Syntax.{w32}
use mir.ValLaws.{to_z-of_z}
use Rattle.disassembler.specs.Shown.{shown}
use Rattle.disassembler.specs.ShowingLaws.{complement_of}
use borrow.Author.Rules.{rules}
use Rattle.disassembler.proofs.showing.show_transfer.Goals as goal

pub returns-in-Call : goal.returns-in-Call
unfolding shown
returns-in-Call c = rw (c.in-Call.is, ← c.bit-d.ensures) c.one.ensures

pub returns-in-Br : goal.returns-in-Br
unfolding shown
returns-in-Br c = let z = c.in-Br.z in rw (c.in-Br.is, ← c.bit-d.ensures, c.one-in-Br.ensures, c.unsigned.ensures, to_z-of_z w32 z (record { sfits = search rules }), complement_of z)

pub returns-in-Brcf : goal.returns-in-Brcf
unfolding shown
returns-in-Brcf c = rw (c.in-Brcf.is, ← c.bit-d.ensures) c.one-in-Brcf.ensures

pub returns-in-Ret : goal.returns-in-Ret
unfolding shown
returns-in-Ret c = rw (c.in-Ret.is, ← c.bit-d.ensures) c.one-in-Ret.ensures

pub returns-in-CallRegister : goal.returns-in-CallRegister
unfolding shown
returns-in-CallRegister c = rw (c.in-CallRegister.is, ← c.bit-d.ensures) c.one-in-CallRegister.ensures

pub returns-in-BrRegister : goal.returns-in-BrRegister
unfolding shown
returns-in-BrRegister c = rw (c.in-BrRegister.is, ← c.bit-d.ensures) c.one-in-BrRegister.ensures

pub returns-in-BrcfRegister : goal.returns-in-BrcfRegister
unfolding shown
returns-in-BrcfRegister c = rw (c.in-BrcfRegister.is, ← c.bit-d.ensures) c.two.ensures
