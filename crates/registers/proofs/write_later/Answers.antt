use mathlib.Core.Path.{sym}
use borrow.Author.Tests.{ne_eqb}
use lib.Seq.{set_out}
use borrow.Author.Rules.{rules}
use Rattle.registers.proofs.write_later.Goals as goal

pub returns-then-at-eq0 : goal.returns-then-at-eq0
returns-then-at-eq0 g c = rw c.if-at-eq0.true

pub returns-then-k-places : goal.returns-then-k-places
returns-then-k-places g c = rw (ne_eqb _ _ c.if-at-eq0.false)

pub returns : goal.returns
returns g c = rw (ne_eqb _ _ c.if-at-eq0.false) (sym (set_out _ _ _ c.if-k-places.false))
