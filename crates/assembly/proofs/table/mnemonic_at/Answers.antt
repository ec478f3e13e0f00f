use native.Mathlib.Omega.{arith}
use Prim.Native.Nat.{ℕ}
use mathlib.Core.Path.{◌≡◌, refl, ap, ◌∙◌}
use borrow.Author.Rules.{rules}
use Rattle.assembly.specs.Forms.{forms, sizes}
use Rattle.assembly.specs.TableLaws.{mnemonic, mnemonic_here, mnemonic_next, mnemonic_none}
use Rattle.assembly.proofs.table.mnemonic_at.Goals as goal

pub loop-form-init : goal.loop-form-init
loop-form-init c = (omega arith, search rules, refl)

pub overflow_cast-size : goal.overflow_cast-size
overflow_cast-size c = omega arith

pub offset_bounds-form : goal.offset_bounds-form
offset_bounds-form c = omega arith

pub returns-then-function-size : goal.returns-then-function-size
unfolding sizes forms
returns-then-function-size c = let l = c.loop-form in mnemonic_here (sizes forms) l.form l.form l.function (omega arith) c.if-function-size.true ∙ l.invariant.2

pub loop-form-preserved : goal.loop-form-preserved
unfolding sizes forms
loop-form-preserved c = let l = c.loop-form in (omega arith, omega arith, mnemonic_next (sizes forms) l.form l.form l.function (omega arith) c.if-function-size.false ∙ l.invariant.2)

pub returns : goal.returns
unfolding sizes forms
returns c = let l = c.loop-form in
    let e : 27 ≡ l.form = omega arith in
    ap (λ (k : ℕ). mnemonic k l.function) e ∙ mnemonic_none (sizes forms) l.form l.form l.function (omega arith) ∙ l.invariant.2
