use Rattle.std.proofs.Common.{div-one}
use Rattle.isa.specs.Format.{reading}
use Rattle.isa.specs.TableLaws.{upper_opcode, flow_opcode, row_then}
use Rattle.first_formats.proofs.read_special.Goals as goal

pub returns-then-opc-eq2 : goal.returns-then-opc-eq2
unfolding reading
returns-then-opc-eq2 c = rw (upper_opcode, flow_opcode, c.requires, c.if-opc-eq2.true, div-one, row_then, ← c.special.ensures, c.in_ok-special.was)

pub returns-then-opc-eq3 : goal.returns-then-opc-eq3
unfolding reading
returns-then-opc-eq3 c = rw (upper_opcode, flow_opcode, c.requires, c.if-opc-eq3.true, div-one, row_then, ← c.special-then-opc-eq3.ensures, c.in_ok-special-2.was)
