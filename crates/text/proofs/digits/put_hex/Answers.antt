use native.Mathlib.Omega.{arith}
use Prim.Native.Nat.{ℕ}
use mathlib.Core.Path.{◌≡◌, sym, ap, ◌∙◌}
use mathlib.Core.List.{◌∷◌}
use lib.ListN.{length, drop, drop_of_length-le}
use Rattle.text.specs.Number.{hex_before}
use Rattle.text.specs.NumberLaws.{put_before, hex_step, hex_none}
use Rattle.text.proofs.digits.put_hex.Goals as goal

pub loop-at-init : goal.loop-at-init
loop-at-init c = ap (hex_before _ c.args.n) (drop_of_length-le c.args.out.now {i = length c.args.out.now} (omega arith))

pub loop-at-preserved : goal.loop-at-preserved
loop-at-preserved c = let l = c.loop-at in
    ap (hex_before _ _) (put_before l.out l.at _ c.loop-at-test.true (omega arith) ∙ ap (λ (d : ℕ). d ∷ drop l.at l.out) c.glyph.ensures) ∙ hex_step _ _ _ c.loop-at-test.true ∙ l.invariant

pub returns : goal.returns
returns c = let l = c.loop-at in
    let z : l.at ≡ 0 = omega arith in
    ap (λ (k : ℕ). drop k l.out) (sym z) ∙ hex_none _ _ _ z ∙ l.invariant
