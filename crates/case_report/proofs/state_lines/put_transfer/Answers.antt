use Rattle.std.proofs.Common.{ne_eqb}
use Rattle.case_report.specs.StateLines.{transfer_line}
use Rattle.case_report.proofs.state_lines.put_transfer.Goals as goal

pub returns-in-3 : goal.returns-in-3
unfolding transfer_line
returns-in-3 c = rw (← c.number-kind.ensures, c.in-3.is) c.say_kept-in-3.ensures

pub returns-in_default : goal.returns-in_default
unfolding transfer_line
returns-in_default c = let n = c.in_default.in_default-own.rest in
    rw (← c.number-kind.ensures, ne_eqb _ _ n.1, ne_eqb _ _ n.0.1, ne_eqb _ _ n.0.0.1, ne_eqb _ _ n.0.0.0.1) c.put.ensures
