use native.Mathlib.Omega.{arith}
use mathlib.Core.Path.{◌≡◌, refl, sym, ◌∙◌}
use lib.ListN.{length}
use Rattle.text.specs.FieldLaws.{field_step, field_stop, field_end}
use Rattle.text.proofs.fields.after_field.Goals as goal

pub loop-i-init : goal.loop-i-init
loop-i-init c = (omega arith, c.requires, refl)

pub returns-then-c : goal.returns-then-c
returns-then-c c = let l = c.loop-i in (field_stop _ l.i (omega arith) c.if-c.true ∙ l.invariant.2, omega arith, omega arith)

pub loop-i-preserved : goal.loop-i-preserved
loop-i-preserved c = let l = c.loop-i in (omega arith, omega arith, field_step _ l.i (omega arith) c.if-c.false ∙ l.invariant.2)

pub returns : goal.returns
returns c = let l = c.loop-i in
    let e : l.i ≡ length c.args.line.now = omega arith in
    (sym e ∙ field_end _ l.i (omega arith) ∙ l.invariant.2, omega arith, omega arith)
