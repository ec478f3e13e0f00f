use native.Mathlib.Omega.{arith}
use Prim.Native.Nat.{◌-◌, ◌*◌}
use mathlib.Core.Path.{refl, ◌∙◌}
use lib.ListN.{length, take, drop}
use Rattle.text.specs.FieldLaws.{same_pointwise}
use Rattle.case_report.specs.ChangesLaws.{same_four, last_word}
use Rattle.case_report.proofs.changes.is_same_word.Goals as goal

pub returns-then-after-a-lt4 : goal.returns-then-after-a-lt4
returns-then-after-a-lt4 c = let a = c.args in
    let e = last_word a.after.now (length a.after.now) a.k refl c.if-after-a-lt4.true in
    let f = last_word a.before.now (length a.before.now) a.k refl (omega (arith, c.requires.1, c.if-after-a-lt4.true)) in
    c.eq.ensures
    ∙ same_pointwise (take (length a.after.now - 4 * a.k) (drop (4 * a.k) a.after.now)) (take (length a.before.now - 4 * a.k) (drop (4 * a.k) a.before.now))
    ∙ rw (e, f)

pub returns : goal.returns
returns c = let a = c.args in
    same_four a.after.now a.before.now (4 * a.k) (omega (arith, c.requires.0, c.if-after-a-lt4.false)) (omega (arith, c.requires.0, c.requires.1, c.if-after-a-lt4.false))
