use Rattle.bundle_model.specs.declared.Counts.{Counts}
use Rattle.resume_model.specs.Resume.{resumed_of}
use Rattle.answers.specs.Refusal.{number}
use Rattle.answers.specs.Answer.{refused}
use mathlib.Core.Path.{ap}
use borrow.Author.Rules.{rules}
use Rattle.resume.proofs.turned_away.Goals as goal

pub returns : goal.returns
returns c = λ main local out. ap (λ (n : Counts). resumed_of (refused (number c.args.refusal)) n 0 main local out) c.no_counts.ensures
