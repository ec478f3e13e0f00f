use Rattle.answers.specs.declared.Refusal.TheVariants as refusal
use Rattle.std.specs.Prelude.{Ok, Err}
use mathlib.Core.Path.{sym, ap, ◌∙◌}
use mathlib.Core.Bool.{Bool, cond, not}
use Rattle.bundle_writes.specs.Lookup.{bases_none, bases_one, judged_none, judged_one}
use Rattle.bundle_writes.proofs.lookup.judge_lookup.Goals as goal

pub returns-then-not-looks_up : goal.returns-then-not-looks_up
returns-then-not-looks_up c = let a = c.args in judged_none a.g a.code.now a.t (bases_none a.g a.code.now a.t c.looks_up.result (ap not c.if-not-looks_up.true) c.looks_up.ensures)

pub returns-then-is_bad : goal.returns-then-is_bad
returns-then-is_bad c =
    let a = c.args in
    let e = bases_one a.g a.code.now a.t c.looks_up.result (ap not c.if-not-looks_up.false) c.looks_up.ensures in
    sym (ap (λ (u : Bool). cond u (Err refusal.NoBlock) (Ok tt)) c.if-is_bad.true) ∙ judged_one a.g a.code.now a.t _ _ c.new_base.ensures e c.is_bad.ensures

pub returns : goal.returns
returns c =
    let a = c.args in
    let e = bases_one a.g a.code.now a.t c.looks_up.result (ap not c.if-not-looks_up.false) c.looks_up.ensures in
    sym (ap (λ (u : Bool). cond u (Err refusal.NoBlock) (Ok tt)) c.if-is_bad.false) ∙ judged_one a.g a.code.now a.t _ _ c.new_base.ensures e c.is_bad.ensures
