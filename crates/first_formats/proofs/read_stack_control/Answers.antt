use Rattle.std.proofs.Common.{arith, div-one, ◌≡◌, ◌/◌, ◌%◌}
use Rattle.isa.specs.Format.{reading, row}
use Rattle.isa.specs.TableLaws.{upper_opcode, flow_opcode}
use Rattle.first_formats.proofs.read_stack_control.Goals as goal

pub returns-in_default : goal.returns-in_default
unfolding reading row
returns-in_default c =
    let w = c.args.w in
    let e : w / 1048576 % 4 ≡ 3 = omega arith in
    rw (upper_opcode, flow_opcode, c.requires, c.if-form-eq0.true, e, div-one, c.stack_control-in_default.ensures)
