use Rattle.marking_rules.specs.Rules.{asked}
use Rattle.marking_rules.proofs.private_target.Goals as goal

pub returns-in-Call : goal.returns-in-Call
unfolding asked
returns-in-Call c = rw c.in-Call.is

pub returns-in-CallRegister : goal.returns-in-CallRegister
unfolding asked
returns-in-CallRegister c = rw (c.in-CallRegister.is, ← c.private_register.ensures)

pub returns-in-Br : goal.returns-in-Br
unfolding asked
returns-in-Br c = rw c.in-Br.is

pub returns-in-BrRegister : goal.returns-in-BrRegister
unfolding asked
returns-in-BrRegister c = rw (c.in-BrRegister.is, ← c.private_register-in-BrRegister.ensures)

pub returns-in-Brcf : goal.returns-in-Brcf
unfolding asked
returns-in-Brcf c = rw c.in-Brcf.is

pub returns-in-BrcfRegister : goal.returns-in-BrcfRegister
unfolding asked
returns-in-BrcfRegister c = rw (c.in-BrcfRegister.is, ← c.private_register-in-BrcfRegister.ensures, ← c.private_register-in-BrcfRegister-2.ensures)

pub returns-in-Ret : goal.returns-in-Ret
unfolding asked
returns-in-Ret c = rw c.in-Ret.is
