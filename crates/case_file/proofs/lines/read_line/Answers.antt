use Rattle.std.proofs.Common.{rules}
use Rattle.case_file.specs.Line.{line_of}
use Rattle.case_file.specs.LineLaws.{line_named}
use Rattle.case_file.proofs.lines.read_line.Goals as goal

-- src/lines.rt:163:1
pub returns-clause-line : goal.returns-clause-line
unfolding line_of
returns-clause-line c = search rules

-- src/lines.rt:163:1
pub returns-clause-named : goal.returns-clause-named
returns-clause-named c = rw (returns-clause-line c) (line_named _)
