use Rattle.std.specs.Prelude.{Ok, Err}
use mathlib.Core.Bool.{Bool, cond}
use mathlib.Core.Path.{sym, ap, ◌∙◌}
use borrow.Author.Rules.{rules}
use borrow.Author.Tests.{eq-eqb, ne_eqb}
use Rattle.answers.specs.Test.{Verdict, verdict}
use Rattle.bundle_model.specs.Lookup.{bases_of}
use Rattle.bundle.proofs.attempt.judge_entry.Goals as goal

pub returns-then-handler-eq0 : goal.returns-then-handler-eq0
unfolding verdict
returns-then-handler-eq0 c = rw (eq-eqb _ _ c.if-handler-eq0.true)

pub returns : goal.returns
unfolding verdict bases_of
returns c = rw (ne_eqb _ _ c.if-handler-eq0.false) c.judge_lookup.ensures
