use Rattle.resume_model.specs.StepLaws.{as_stepped, restep_resume}
use Rattle.resume_model.specs.Resume.{resumed_of}
use Rattle.answers.specs.Answer.{Returned}
use Rattle.settings.specs.Setup.{given_setup}
use mathlib.Core.Path.{sym, ap, ◌∙◌}
use borrow.Author.Rules.{rules}
use Rattle.resume.proofs.restep.Goals as goal

pub returns : goal.returns
returns c =
    let a = c.args in
    let x = given_setup a.given.now in
    let r = c.resume-r in
    ap (λ (y : Returned). resumed_of y r.result.counts r.result.written r.new.main r.new.local r.new.out) c.as_step.ensures
    ∙ ap as_stepped r.ensures
    ∙ sym (restep_resume x a.words a.bytes.now a.main.now a.local.now a.out.now)
