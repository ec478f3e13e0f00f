use Rattle.std.proofs.Common.{div-one}
use Rattle.isa.specs.Format.{reading}
use Rattle.isa.specs.TableLaws.{upper_opcode, flow_opcode, row_then}
use Rattle.first_formats.proofs.read_multiply.Goals as goal

pub returns : goal.returns
unfolding reading
returns c = rw (upper_opcode, flow_opcode, c.requires, c.if-w-ne2.false, div-one, row_then, ← c.multiply_function.ensures, c.in_ok-function.was)
