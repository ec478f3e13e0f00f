use borrow.Author.Tests.{lt-ltb, le-ltb, eq-eqb, ne_eqb}
use Rattle.text.proofs.table.matched.Goals as goal

pub returns-then-s-j : goal.returns-then-s-j
returns-then-s-j c = rw (le-ltb _ _ c.if-s-j.true)

pub returns-then-s-j-2 : goal.returns-then-s-j-2
returns-then-s-j-2 c = rw (lt-ltb _ _ c.if-s-j.false, ne_eqb _ _ c.if-s-j-2.true)

pub returns : goal.returns
returns c = rw (lt-ltb _ _ c.if-s-j.false, eq-eqb _ _ c.if-s-j-2.false)
