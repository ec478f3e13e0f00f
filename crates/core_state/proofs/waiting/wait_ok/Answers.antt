use Rattle.core_state.specs.CoreLaws.{wait_ok_lem}
use Rattle.core_state.proofs.waiting.wait_ok.Goals as goal

pub returns : goal.returns
returns c = wait_ok_lem c.args.w
