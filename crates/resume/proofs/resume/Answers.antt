use Rattle.resume.specs.GoingLaws.{bad_settings, no_room, room_of, short_of}
use Rattle.settings.specs.Settings.{admits}
use Rattle.settings.specs.Setup.{given_setup, settings}
use borrow.Author.Tests.{not-true, not-false}
use lib.ListN.{length}
use mathlib.Core.Path.{sym, ap, ◌∙◌}
use borrow.Author.Rules.{rules}
use Rattle.resume.proofs.resume.Goals as goal

pub returns-then-not-admits : goal.returns-then-not-admits
returns-then-not-admits c =
    let a = c.args in
    let x = given_setup a.given.now in
    let g = settings x (length a.main.now) (length a.local.now) a.words in
    let refused = ap admits (sym c.settings-g.ensures) ∙ sym c.admits.ensures ∙ c.if-not-admits.true in
    c.turned_away.ensures _ _ _ ∙ bad_settings x a.budget a.words a.bytes.now a.main.now a.local.now a.out.now refused

pub returns-then-out-longest : goal.returns-then-out-longest
returns-then-out-longest c =
    let a = c.args in
    let x = given_setup a.given.now in
    let g = settings x (length a.main.now) (length a.local.now) a.words in
    let admitted = ap admits (sym c.settings-g.ensures) ∙ sym c.admits.ensures ∙ c.if-not-admits.false in
    c.turned_away-then-out-longest.ensures _ _ _ ∙ no_room x a.budget a.words a.bytes.now a.main.now a.local.now a.out.now admitted
    (short_of g (length a.out.now) c.longest.result admitted c.longest.ensures c.if-out-longest.true)

pub with_cache-requires : goal.with_cache-requires
with_cache-requires c =
    let a = c.args in
    let x = given_setup a.given.now in
    let g = settings x (length a.main.now) (length a.local.now) a.words in
    let admitted = ap admits (sym c.settings-g.ensures) ∙ sym c.admits.ensures ∙ c.if-not-admits.false in
    (admitted, room_of g (length a.out.now) c.longest.result admitted c.longest.ensures c.if-out-longest.false)
