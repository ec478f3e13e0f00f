use Rattle.entries.specs.Entries.{called_of, called}
use Rattle.resume_model.specs.Resume.{restepped}
use Rattle.settings.specs.Setup.{replaying, setup}
use Rattle.settings.specs.declared.Config.{Config}
use Prim.Native.Nat.{ℕ, ◌-◌}
use mathlib.Core.Path.{ap, ◌∙◌}
use borrow.Author.Rules.{rules}
use Rattle.entries.proofs.running.laqemdit_step.Goals as goal

pub returns : goal.returns
returns c =
    let a = c.args in
    let r = c.restep-r in
    ap (λ (n : ℕ). called_of n r.new.main r.new.local r.new.out) c.number_of.ensures
    ∙ ap called r.ensures
    ∙ ap (λ (k : Config). called (restepped (replaying a.list.now a.table.now (setup a.code.now k)) a.words a.stopped.now a.main.now a.local.now a.out.now)) c.config_of-config.ensures
