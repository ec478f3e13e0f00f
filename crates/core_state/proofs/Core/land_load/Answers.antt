use mathlib.Core.Path.{ap, ◌∙◌}
use Rattle.core_state.specs.State.{State, landed, with_register, with_load}
use Rattle.core_state.specs.declared.WaitingLoad.TheVariants as load
use Rattle.core_state.specs.Core.{waiting_load}
use Rattle.core_state.specs.CoreLaws.{no_load, some_load}
use Rattle.core_state.proofs.WordLaws.{load_back}
use Rattle.core_state.proofs.Core.land_load.Goals as goal

pub returns-then-load-eq0 : goal.returns-then-load-eq0
unfolding landed with_register
returns-then-load-eq0 c = record { state = λ ps. c.with_load.ensures.state _ ps ∙ rw (c.no_load.ensures, load_back load.Nothing, no_load c.args.self.load c.if-load-eq0.true); transfer = c.with_load.ensures.transfer; load = c.with_load.ensures.load ∙ c.no_load.ensures; products = c.with_load.ensures.products }

pub returns : goal.returns
unfolding landed with_register
returns c = record { state = λ ps. c.with_load-2.ensures.state _ ps ∙ ap (λ (s : State). with_load s (waiting_load c.no_load-2.result)) (c.write_register.ensures.state ps) ∙ rw (c.no_load-2.ensures, load_back load.Nothing, some_load c.args.self.load c.if-load-eq0.false); transfer = c.with_load-2.ensures.transfer ∙ c.write_register.ensures.transfer; load = c.with_load-2.ensures.load ∙ c.no_load-2.ensures; products = c.with_load-2.ensures.products ∙ c.write_register.ensures.products }
