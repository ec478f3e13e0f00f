use Rattle.settings.specs.SettingsLaws.{size_words, size_made}
use Rattle.record.specs.Written.{longest_of}
use Rattle.settings.specs.SettingsLaws.{size_refused}
use native.Mathlib.Omega.{arith}
use mathlib.Core.Path.{sym, ◌∙◌}
use borrow.Author.Rules.{rules}
use Rattle.record.proofs.writing.longest.Goals as goal

pub returns-in-Err : goal.returns-in-Err
unfolding longest_of
returns-in-Err c = rw (size_refused c.args.words (sym c.new.ensures ∙ c.in-Err.is))

pub returns-in-Ok : goal.returns-in-Ok
unfolding longest_of
returns-in-Ok c =
    let w = c.args.words in
    let e = sym c.new.ensures ∙ c.in-Ok.is in
    rw (size_made w e) (omega (arith, size_words w e))
