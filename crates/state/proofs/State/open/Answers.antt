use mathlib.Core.Path.{◌≡◌, sym, ap, ◌∙◌}
use mathlib.Core.Bool.{true, false}
use native.Mathlib.Omega.{arith}
use borrow.Author.Tests.{not-true, not-false}
use Rattle.settings.specs.Settings.{admits}
use Rattle.settings.specs.SettingsLaws.{code_small}
use Rattle.settings.specs.Setup.{buffers, lent, setup}
use Rattle.answers.specs.Answer.{accepted, refused}
use Rattle.core_state.specs.State.{State}
use Rattle.state.specs.Open.{open_of}
use Rattle.state.specs.OpenLaws.{settings_refused, entry_refused, nothing_refused}
use borrow.Author.Rules.{rules}
use Rattle.state.proofs.State.open.Goals as goal

pub returns-then-not-admitted : goal.returns-then-not-admitted
returns-then-not-admitted c =
    let a = c.args in
    let x = setup a.code.now a.config in
    let l = buffers a.main.now a.local.now a.cache.now in
    let no : admits (lent x l) ≡ false = cc in
    let none = settings_refused x l a.entry no in
    record { opened = ap (λ (s : State). open_of (refused 1) s a.cache.now) c.blank.ensures.0 ∙ sym none; fixed = c.blank.ensures.1 }

pub returns-then-not-inside : goal.returns-then-not-inside
returns-then-not-inside c =
    let a = c.args in
    let x = setup a.code.now a.config in
    let l = buffers a.main.now a.local.now a.cache.now in
    let yes : admits (lent x l) ≡ true = cc in
    let none = entry_refused x l a.entry yes (c.if-not-inside.true) in
    record { opened = ap (λ (s : State). open_of (refused 2) s a.cache.now) c.blank-then-not-inside.ensures.0 ∙ sym none; fixed = c.blank-then-not-inside.ensures.1 }

pub overflow_cast-code : goal.overflow_cast-code
overflow_cast-code c =
    let a = c.args in
    let x = setup a.code.now a.config in
    let l = buffers a.main.now a.local.now a.cache.now in
    let yes : admits (lent x l) ≡ true = cc in
    omega (arith, code_small (lent x l) yes)

pub returns : goal.returns
returns c =
    let a = c.args in
    let x = setup a.code.now a.config in
    let l = buffers a.main.now a.local.now a.cache.now in
    let yes : admits (lent x l) ≡ true = cc in
    let built = nothing_refused x l a.entry yes (c.if-not-inside.false) in
    record { opened = (λ i. open_of accepted (c.fresh.ensures.0 i) (c.fill.ensures.after (λ y e. e) i)) ∙ sym built; fixed = c.fresh.ensures.1 }
