use native.Mathlib.Omega.{arith}
use Rattle.std.specs.Prelude.{Some}
use Rattle.assembly.specs.TableLaws.{row_within}
use Rattle.text.specs.Table.{table}
use Rattle.assembly.specs.Forms.{forms, mnemonics}
use Rattle.assembly.specs.Forms.{mnemonic_table, mnemonic_of}
use Rattle.assembly.proofs.table.mnemonic_of.Goals as goal

pub overflow_cast-row_of : goal.overflow_cast-row_of
unfolding table mnemonics forms
overflow_cast-row_of c = let s = c.args.s.now in omega (arith, c.row_of.ensures, row_within mnemonic_table s (Some s))

pub returns : goal.returns
unfolding mnemonic_of table mnemonics forms
returns c = rw (← c.row_of.ensures) c.mnemonic_at.ensures
