use Rattle.core_state.specs.CoreLaws.{none_waits_lem}
use Rattle.core_state.proofs.waiting.none_waits.Goals as goal

pub returns : goal.returns
returns c = none_waits_lem c.args.w
