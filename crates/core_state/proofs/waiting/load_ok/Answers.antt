use Rattle.core_state.specs.CoreLaws.{load_ok_lem}
use Rattle.core_state.proofs.waiting.load_ok.Goals as goal

pub returns : goal.returns
returns c = load_ok_lem c.args.l
