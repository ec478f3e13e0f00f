use mathlib.Core.Path.{refl, sym, ap, ◌∙◌}
use Rattle.word.specs.BoolLaws.{and_left}
use Rattle.settings.specs.Settings.{admits}
use Rattle.settings.specs.Setup.{setup, settings}
use Rattle.settings.specs.SettingsLaws.{code_small}
use Rattle.single_path.specs.Check.{checked}
use Rattle.single_path.proofs.check.Goals as goal

pub walk-requires : goal.walk-requires
walk-requires c =
    let a = c.args in
    let g = settings (setup a.code.now a.config) a.main a.local a.words in
    code_small g (ap admits (sym c.settings.ensures) ∙ sym c.admits.ensures ∙ and_left c.admits.result c.is_ok.result c.if-admits-is_ok.true)

pub returns-then-admits-is_ok : goal.returns-then-admits-is_ok
unfolding checked
returns-then-admits-is_ok c = (rw (← c.settings.ensures, ← c.admits.ensures, ← c.is_ok.ensures, c.if-admits-is_ok.true) c.walk.ensures.0, c.walk.ensures.1)

pub returns : goal.returns
unfolding checked
returns c = (rw (← c.settings.ensures, ← c.admits.ensures, ← c.is_ok.ensures, c.if-admits-is_ok.false), refl)
