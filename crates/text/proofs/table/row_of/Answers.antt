use native.Mathlib.Omega.{arith}
use native.Mathlib.Nat.{zero-add, add-zero}
use Prim.Native.Nat.{ℕ, ◌+◌, ◌<◌}
use mathlib.Core.Path.{sym, ap, ◌∙◌}
use mathlib.Core.List.{List}
use Rattle.std.specs.Prelude.{Option}
use lib.ListN.{length, get_or}
use borrow.Author.Tests.{eq-eqb, ne_eqb}
use Rattle.text.specs.Table.{row_from, left_at}
use Rattle.text.specs.TableLaws.{met_to_lem, left_all, left_met, scan_over, scan_found, scan_next, scan_byte}
use Rattle.text.proofs.table.row_of.Goals as goal
use Rattle.text.proofs.table.row_of.Goals.{then-b-eq10+else-j-s, else-b-eq10}

pub loop-b-init : goal.loop-b-init
loop-b-init c = let a = c.args in
    (omega arith, zero-add _ ∙ ap (λ (left : Option (List ℕ)). row_from a.table.now a.s.now left) (left_all a.s.now))

pub returns-then-j-s : goal.returns-then-j-s
returns-then-j-s c = let l = c.loop-b in
    let a = c.args in
    let e = scan_found a.table.now a.s.now (left_at a.s.now l.j) l.b-index (omega arith) c.if-b-eq10.true (left_met a.s.now l.j ∙ eq-eqb l.j (length a.s.now) c.if-j-s.true) in
    sym (add-zero l.row) ∙ sym (ap (λ (n : ℕ). l.row + n) e) ∙ l.invariant.1

pub overflow_add-row : goal.overflow_add-row
overflow_add-row c = let p = c.loop-b.invariant.0 in omega arith

pub loop-b-preserved : goal.loop-b-preserved
loop-b-preserved c = let l = c.loop-b in
    let a = c.args in
    let t = a.table.now in
    let s = a.s.now in
    let h : l.b-index < length t = omega arith in
    let left = left_at s l.j in
    elim c.if-b-eq10.branch [
      | then-b-eq10+else-j-s w ↦ let e = scan_next t s left l.b-index h w.if-b-eq10.true (left_met s l.j ∙ ne_eqb l.j (length s) w.if-j-s.false) in
          rw (w.row-is, w.j-is, left_all s) (omega (arith, l.invariant.0), omega (arith, e, l.invariant.1))
      | else-b-eq10 w ↦ let e = scan_byte t s left l.b-index h w.if-b-eq10.false in
          rw (w.row-is, w.j-is, w.matched-j.ensures, met_to_lem s l.j (get_or t l.b-index 0)) (omega (arith, l.invariant.0), ap (λ (n : ℕ). l.row + n) (sym e) ∙ l.invariant.1)
    ]

pub returns : goal.returns
returns c = let l = c.loop-b in
    let a = c.args in
    omega (arith, scan_over a.table.now a.s.now (left_at a.s.now l.j) l.b-index (omega arith), l.invariant.1)
