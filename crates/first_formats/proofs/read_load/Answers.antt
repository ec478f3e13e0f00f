use Rattle.std.proofs.Common.{div-one}
use Rattle.isa.specs.Format.{reading}
use Rattle.isa.specs.TableLaws.{upper_opcode, flow_opcode, row_then}
use Rattle.first_formats.proofs.read_load.Goals as goal

pub returns : goal.returns
unfolding reading
returns c = rw (upper_opcode, flow_opcode, c.requires, div-one, row_then, ← c.load_width.ensures, c.in_ok-width.was, row_then, ← c.access_kind.ensures, c.in_ok-kind.was)
