use Rattle.single_path.specs.Check.{CheckAnswer, checked}
use Rattle.marking.specs.declared.Marking.{Marking}
use Rattle.settings.specs.Setup.{setup}
use Rattle.settings.specs.declared.Config.{Config}
use Rattle.check_entry.specs.CheckEntry.{marking_of, Told}
use mathlib.Core.Path.{subst}
use borrow.Author.Rules.{rules}
use Rattle.check_entry.proofs.laqemdit_check.Goals as goal

pub returns : goal.returns
returns c =
    let a = c.args in
    let code = a.code.now in
    let m = c.marking_of-marking in
    let k = c.config_of-config in
    let t = c.told.ensures m.result code c.check-c.ensures.1 in
    let first = subst (λ (y : CheckAnswer). Told m.result code y c.told.result) c.check-c.ensures.0 t in
    let second = subst (λ (y : Marking). Told y code (checked (setup code k.result) a.main a.local a.words y) c.told.result) m.ensures first in
    let marking = marking_of a.registers a.predicates a.others in
    subst (λ (y : Config). Told marking code (checked (setup code y) a.main a.local a.words marking) c.told.result) k.ensures second
