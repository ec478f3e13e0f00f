use Rattle.std.specs.Prelude.{◌≡◌, ◌+◌, ◌*◌, ◌-◌, min, length}
use Rattle.std.proofs.Common.{arith, sym, ◌∙◌}
use Rattle.case_report.specs.ChangesLaws.{changed_text}
use Rattle.case_report.proofs.changes.put_if_changed.Goals as goal

pub returns : goal.returns
returns c = let a = c.args in
    let g : 4 * a.k + c.min.result ≡ 4 * a.k + min 4 (length a.after.now - 4 * a.k) = omega (arith, c.min.ensures) in
    rw (changed_text a.label.now a.after.now a.before.now a.k _ (sym c.is_same_word.ensures ∙ c.if-is_same_word.false) c.requires.0 g) c.put_change.ensures
