use borrow.Author.Tests.{not-true, not-false}
use Rattle.resume.specs.GoingLaws.{no_form, turned_by, gone_on, read_refused, read_formed}
use Rattle.resume.specs.Resumed.{judged_by}
use Rattle.record.specs.Read.{read_with}
use Rattle.record_model.specs.Record.{Box}
use Rattle.run.specs.Ran.{whole}
use Rattle.settings.specs.Setup.{given_setup, buffers}
use Rattle.answers.specs.Answer.{Returned}
use Rattle.run_model.specs.Run.{run}
use Rattle.resume_model.specs.Resume.{resumed_of}
use borrow.Author.Tests.{not-true, not-false}
use lib.ListN.{length}
use mathlib.Core.Path.{sym, ap, ◌∙◌}
use borrow.Author.Rules.{rules}
use Rattle.resume.proofs.go_on.Goals as goal

pub returns-then-not-read : goal.returns-then-not-read
returns-then-not-read c =
    let a = c.args in
    let x = given_setup a.given.now in
    let w = length a.cache.now in
    let r = c.read_record-read in
    let none = read_refused a.bytes.now a.cache.now (read_with r.result r.new.cache) r.ensures.read (not-true _ c.if-not-read.true) in
    c.turned_away.ensures _ _ _ ∙ no_form x a.budget w a.bytes.now a.main.now a.local.now a.out.now c.requires.0 c.requires.1 none

pub returns-in-Err : goal.returns-in-Err
returns-in-Err c =
    let a = c.args in
    let x = given_setup a.given.now in
    let w = length a.cache.now in
    let r = c.read_record-read in
    let has = read_formed a.bytes.now a.cache.now (read_with r.result r.new.cache) r.ensures.read (not-false _ c.if-not-read.false) in
    let by = sym c.in-Err.is ∙ c.judged.ensures ∙ ap (λ (p : Box). judged_by x p.state) has.1 in
    c.turned_away-in-Err.ensures _ _ _ ∙ turned_by x a.budget w a.bytes.now a.main.now a.local.now a.out.now c.requires.0 c.requires.1 c.in-Err.refusal has.0 by

pub shape_of-cache : goal.shape_of-cache
shape_of-cache c = c.run-r.auto.cache ∙ c.read_record-read.auto.cache

pub returns : goal.returns
returns c =
    let a = c.args in
    let x = given_setup a.given.now in
    let w = length a.cache.now in
    let k = c.read_record-read in
    let has = read_formed a.bytes.now a.cache.now (read_with k.result k.new.cache) k.ensures.read (not-false _ c.if-not-read.false) in
    let fine = sym (c.judged.ensures ∙ ap (λ (p : Box). judged_by x p.state) has.1) ∙ c.in_default.is in
    let r = c.run-r in
    let put = c.write_record-written in
    let o = whole r.result (buffers r.new.main r.new.local r.new.cache) in
    let ran = r.ensures.ran ∙ ap (λ (p : Box). run x a.budget p.state (buffers a.main.now a.local.now p.cache)) has.1 in
    ap (λ (y : Returned). resumed_of y o.counts put.result o.buffers.main o.buffers.local put.new.out) c.from.ensures
    ∙ gone_on x a.budget w a.bytes.now a.main.now a.local.now a.out.now c.requires.0 c.requires.1 o put.result put.new.out
    has.0 fine ran (r.auto.cache ∙ k.auto.cache) put.ensures
