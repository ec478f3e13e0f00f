use mathlib.Core.Bool.{true, false}
use Rattle.record.specs.Read.{reading_of, reading}
use Rattle.record_model.proofs.RecordLaws.{form_of}
use Rattle.record_model.specs.Record.{box, box_in, counts_of_words}
use borrow.Author.Tests.{not-true, not-false}
use Rattle.record.specs.CopyLaws.{over_all}
use Rattle.sections.specs.Words.{words_in}
use lib.ListN.{length}
use native.Mathlib.Omega.{arith}
use mathlib.Core.Path.{sym, ap, ◌∙◌}
use borrow.Author.Rules.{rules}
use Rattle.record.proofs.reading.read_record.Goals as goal

pub returns-then-not-has_form : goal.returns-then-not-has_form
unfolding reading
returns-then-not-has_form c =
    let a = c.args in
    let none = sym c.has_form.ensures ∙ c.if-not-has_form.true in
    record { read = rw none (λ i. reading_of false (box (c.blank.ensures.0 i) a.cache.now (c.no_counts.ensures i))); fixed = c.blank.ensures.1 }

pub copy_words-requires : goal.copy_words-requires
copy_words-requires c =
    let a = c.args in
    let form = form_of (length a.cache.now) a.bytes.now (sym c.has_form.ensures ∙ c.if-not-has_form.false) in
    omega (arith, ap length c.section_at.ensures.0, form.cache)

pub state_in-state-requires : goal.state_in-state-requires
state_in-state-requires c =
    let a = c.args in
    let form = form_of (length a.cache.now) a.bytes.now (sym c.has_form.ensures ∙ c.if-not-has_form.false) in
    (form.registers, form.held)

pub returns : goal.returns
unfolding reading box_in
returns c =
    let a = c.args in
    let has = sym c.has_form.ensures ∙ c.if-not-has_form.false in
    let form = form_of (length a.cache.now) a.bytes.now has in
    let l = words_in a.bytes.now in
    let part = c.section_at.ensures.0 in
    let cache = c.copy_words.ensures ∙ over_all a.cache.now (words_in c.section_at.result.now) (ap length part ∙ form.cache) ∙ part in
    let counts = c.counts_in-counts.ensures ∙ ap counts_of_words c.section_at-2.ensures.0 in
    record { read = rw has (λ i. reading_of true (box (c.state_in-state.ensures.0 i) (cache i) (counts i))); fixed = c.state_in-state.ensures.1 }
