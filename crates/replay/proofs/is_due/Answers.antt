use mathlib.Core.Path.{sym}
use Rattle.replay.specs.ReplayLaws.{due_end, due_before}
use Rattle.replay.proofs.is_due.Goals as goal

pub returns-then-list-replay : goal.returns-then-list-replay
returns-then-list-replay c = sym (due_end c.args.list.now c.args.replay c.if-list-replay.true)

pub returns : goal.returns
returns c = due_before c.args.list.now c.args.replay _ c.if-list-replay.false c.word_at-number.ensures
