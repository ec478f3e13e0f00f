use mathlib.Core.Bool.{true, false}
use mathlib.Core.Path.{◌≡◌, sym}
use borrow.Author.Tests.{ne_eqb, lt-ltb, le-ltb}
use Rattle.answers.specs.Test.{verdict}
use Rattle.fetch.specs.Fetch.{bundle_at, outside_code, is_undecodable, fetched}
use Rattle.fetch.specs.FetchLaws.{fetched_undecodable, fetched_found}
use borrow.Author.Rules.{rules}
use Rattle.fetch.proofs.fetch.Goals as goal

pub returns-then-address-ne0 : goal.returns-then-address-ne0
unfolding fetched outside_code verdict
returns-then-address-ne0 c = rw (ne_eqb _ _ c.if-address-ne0.true)

pub returns-then-code-following : goal.returns-then-code-following
unfolding fetched outside_code verdict
returns-then-code-following c = rw (c.if-address-ne0.false, ← c.read_word-first.ensures, ← c.words_of.ensures.0, lt-ltb _ _ c.if-code-following.true)

pub returns-then-is_undecodable : goal.returns-then-is_undecodable
unfolding outside_code
returns-then-is_undecodable c =
    let k = c.args.code.now in
    let a = c.args.address in
    let o : outside_code k a ≡ false = rw (c.if-address-ne0.false, ← c.read_word-first.ensures, ← c.words_of.ensures.0, le-ltb _ _ c.if-code-following.false) in
    let u : is_undecodable (bundle_at k a) ≡ true = rw (← c.read_word-first.ensures, ← c.add.ensures, ← c.read_word.ensures, ← c.decode-bundle.ensures, ← c.is_undecodable.ensures) c.if-is_undecodable.true in
    sym (fetched_undecodable k a o u)

pub returns : goal.returns
unfolding outside_code
returns c =
    let k = c.args.code.now in
    let a = c.args.address in
    let o : outside_code k a ≡ false = rw (c.if-address-ne0.false, ← c.read_word-first.ensures, ← c.words_of.ensures.0, le-ltb _ _ c.if-code-following.false) in
    let u : is_undecodable (bundle_at k a) ≡ false = rw (← c.read_word-first.ensures, ← c.add.ensures, ← c.read_word.ensures, ← c.decode-bundle.ensures, ← c.is_undecodable.ensures) c.if-is_undecodable.false in
    rw (fetched_found k a o u, c.decode-bundle.ensures, c.read_word.ensures, c.add.ensures, c.words_of.ensures.0, c.read_word-first.ensures)
