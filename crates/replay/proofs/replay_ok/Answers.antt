use Rattle.replay.specs.ReplayLaws.{replay_judged}
use Rattle.replay.proofs.replay_ok.Goals as goal

pub returns : goal.returns
returns c = replay_judged c.args.list.now c.args.table.now _ c.records_ok.ensures
