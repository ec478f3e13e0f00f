use Prim.Native.Nat.{◌+◌, ◌*◌}
use Prim.Native.Char.{code}
use mathlib.Core.Path.{sym}
use lib.ListN.{get_or-eq_default}
use Rattle.assembly.specs.TableLaws.{get_or_within}
use Rattle.assembly.specs.Forms.{forms, letters}
use Rattle.assembly.proofs.table.letter.Goals as goal

pub returns-then-at-lt108 : goal.returns-then-at-lt108
unfolding forms letters
returns-then-at-lt108 c = let a = c.args in get_or_within (letters forms) (4 * a.form + a.operand) 0 (code " ") c.if-at-lt108.true

pub returns : goal.returns
unfolding forms letters
returns c = let a = c.args in sym (get_or-eq_default (letters forms) (code " ") c.if-at-lt108.false)
