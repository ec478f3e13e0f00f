use native.Mathlib.Omega.{arith}
use mathlib.Core.Path.{◌≡◌, refl, sym, ◌∙◌}
use lib.ListN.{length}
use Rattle.text.specs.FieldLaws.{spaces_step, spaces_stop, spaces_end}
use Rattle.text.proofs.fields.after_spaces.Goals as goal

pub loop-i-init : goal.loop-i-init
loop-i-init c = (omega arith, c.requires, refl)

pub returns-then-line-i-ne32 : goal.returns-then-line-i-ne32
returns-then-line-i-ne32 c = let l = c.loop-i in (spaces_stop _ l.i (omega arith) c.if-line-i-ne32.true ∙ l.invariant.2, omega arith)

pub loop-i-preserved : goal.loop-i-preserved
loop-i-preserved c = let l = c.loop-i in (omega arith, omega arith, spaces_step _ l.i (omega arith) c.if-line-i-ne32.false ∙ l.invariant.2)

pub returns : goal.returns
returns c = let l = c.loop-i in
    let e : l.i ≡ length c.args.line.now = omega arith in
    (sym e ∙ spaces_end _ l.i (omega arith) ∙ l.invariant.2, omega arith)
