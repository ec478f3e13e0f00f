use mathlib.Core.Path.{sym}
use Rattle.core_state.specs.CoreLaws.{no_load, some_load}
use Rattle.core_state.proofs.waiting.waiting_load.Goals as goal

pub returns-then-l-eq0 : goal.returns-then-l-eq0
returns-then-l-eq0 c = sym (no_load c.args.l c.if-l-eq0.true)

pub returns : goal.returns
returns c = sym (some_load c.args.l c.if-l-eq0.false)
