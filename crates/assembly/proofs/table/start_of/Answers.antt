use native.Mathlib.Omega.{arith}
use native.Mathlib.Nat.{zero-add, sub-zero}
use Prim.Native.Nat.{ℕ, ◌<◌, ◌+◌, ◌-◌}
use mathlib.Core.Path.{◌≡◌, ap, ◌∙◌}
use lib.ListN.{drop, get_or}
use Rattle.assembly.specs.Forms.{forms, sizes, start_of}
use Rattle.assembly.specs.TableLaws.{start_here, start_next, start_end, all_rows}
use Rattle.assembly.proofs.table.start_of.Goals as goal

next : (i form : ℕ) → i < 27 → i < form → start_of (drop i (sizes forms)) (form - i) ≡ get_or (sizes forms) i 0 + start_of (drop (i + 1) (sizes forms)) (form - (i + 1))
unfolding sizes forms
next i form h less = start_next (sizes forms) i form h less

pub loop-i-init : goal.loop-i-init
loop-i-init c = (omega arith, omega arith, zero-add _ ∙ ap (start_of (sizes forms)) (sub-zero _))

pub returns-then-i-form : goal.returns-then-i-form
returns-then-i-form c =
    let l = c.loop-i in
    let e = start_here (sizes forms) l.i c.args.form c.if-i-form.true in
    omega (arith, e, l.invariant.2)

pub overflow_cast-start : goal.overflow_cast-start
overflow_cast-start c = omega arith

pub offset_bounds-i : goal.offset_bounds-i
offset_bounds-i c = omega arith

pub overflow_cast-start-in-loop-i : goal.overflow_cast-start-in-loop-i
unfolding sizes forms
overflow_cast-start-in-loop-i c =
    let l = c.loop-i in
    let k = c.args.form in
    let e = next l.i k (omega arith) (omega (arith, l.invariant.1, c.if-i-form.false)) in
    omega (arith, e, all_rows k, l.invariant.2)

pub overflow_add-start : goal.overflow_add-start
unfolding sizes forms
overflow_add-start c =
    let l = c.loop-i in
    let k = c.args.form in
    let e = next l.i k (omega arith) (omega (arith, l.invariant.1, c.if-i-form.false)) in
    omega (arith, e, all_rows k, l.invariant.2)

pub loop-i-preserved : goal.loop-i-preserved
unfolding sizes forms
loop-i-preserved c =
    let l = c.loop-i in
    let k = c.args.form in
    let less : l.i < k = omega (arith, l.invariant.1, c.if-i-form.false) in
    let e = next l.i k (omega arith) less in
    (omega arith, omega (arith, less), omega (arith, e, l.invariant.2))

pub returns : goal.returns
unfolding sizes forms
returns c =
    let l = c.loop-i in
    let e = start_end (sizes forms) l.i (c.args.form - l.i) (omega arith) in
    omega (arith, e, l.invariant.2)
