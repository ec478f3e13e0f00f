use borrow.Author.Tests.{lt-ltb, le-ltb}
use Rattle.text.specs.Table.{table}
use Rattle.assembly.specs.Operands.{specials}
use Rattle.assembly.proofs.operands.special_number.Goals as goal

pub returns-then-row-lt11 : goal.returns-then-row-lt11
unfolding specials table
returns-then-row-lt11 c = rw (← c.row_of-row.ensures, lt-ltb _ _ c.if-row-lt11.true)

pub returns : goal.returns
unfolding specials table
returns c = rw (← c.row_of-row.ensures, le-ltb _ _ c.if-row-lt11.false)
