use native.Mathlib.Omega.{arith}
use Prim.Native.Nat.{◌+◌, ◌*◌}
use mathlib.Core.Path.{◌≡◌, sym, ap, ◌∙◌}
use lib.ListN.{drop_of_length-le}
use Rattle.text.specs.Number.{digit, number_from}
use Rattle.text.specs.NumberLaws.{number_step, number_not_digit, number_too_great, number_end, digit_told, digit_refused}
use Rattle.text.proofs.numbers.digits.Goals as goal

pub returns-in_err-d : goal.returns-in_err-d
returns-in_err-d c = let l = c.loop-c in
    c.from_residual.ensures ∙ number_not_digit c.args.base l.v l.c-index _ (omega arith) _ (ap digit c.from.ensures) (digit_refused _ _ c.requires.1 (omega (arith, c.in_err-d.ensures.value))) ∙ l.invariant

pub returns-in_err-checked_mul : goal.returns-in_err-checked_mul
returns-in_err-checked_mul c = let l = c.loop-c in
    c.from_residual-in_err-checked_mul.ensures ∙ number_too_great c.args.base l.v l.c-index _ (omega arith) _ (ap digit c.from.ensures) (rw (← digit_told _ _ c.requires.1 c.in_ok-d.ensures.value.0) c.in_ok-d.ensures.value.0) (omega (arith, c.in_err-checked_mul.ensures)) ∙ l.invariant

pub returns-in_err-v : goal.returns-in_err-v
returns-in_err-v c = let l = c.loop-c in
    let e = digit_told _ _ c.requires.1 c.in_ok-d.ensures.value.0 in
    c.from_residual-in_err-v.ensures
    ∙ number_too_great c.args.base l.v l.c-index _ (omega arith) c.in_ok-d.d (c.in_ok-d.ensures.value.1 ∙ e ∙ ap digit c.from.ensures) (omega (arith, c.in_ok-d.ensures.value)) (omega (arith, c.in_ok-checked_mul.ensures, c.in_err-v.ensures))
    ∙ l.invariant

pub loop-c-preserved : goal.loop-c-preserved
loop-c-preserved c = let l = c.loop-c in
    let e = digit_told _ _ c.requires.1 c.in_ok-d.ensures.value.0 in
    let v : c.in_ok-v.v ≡ l.v * c.args.base + c.in_ok-d.d = omega (arith, c.in_ok-checked_mul.ensures, c.in_ok-v.ensures) in
    let step = number_step c.args.base l.v l.c-index _ (omega arith) c.in_ok-d.d (c.in_ok-d.ensures.value.1 ∙ e ∙ ap digit c.from.ensures) (omega (arith, c.in_ok-d.ensures.value)) (omega (arith, c.in_ok-checked_mul.ensures, c.in_ok-v.ensures)) in
    rw v (step ∙ l.invariant)

pub returns : goal.returns
returns c = let l = c.loop-c in
    sym (number_end c.args.base l.v) ∙ ap (number_from c.args.base l.v) (sym (drop_of_length-le c.args.s.now {i = l.c-index} (omega arith))) ∙ l.invariant
