use Prim.Native.Nat.{ℕ, ◌-◌, ◌<◌, ◌≤◌}
use mathlib.Core.List.{List}
use mathlib.Core.Path.{◌≡◌, sym, ap, ◌∙◌}
use native.Mathlib.Omega.{arith}
use borrow.Author.Tests.{not-true, not-false}
use lib.ListN.{length, take, replicate, length-replicate}
use Rattle.settings.specs.declared.Config.{Config}
use Rattle.settings.specs.Settings.{admits}
use Rattle.settings.specs.SettingsLaws.{size_ok, words_small}
use Rattle.settings.specs.Setup.{setup, settings}
use Rattle.state.specs.Whole.{state_of}
use Rattle.record_model.specs.Record.{box, longest}
use Rattle.bundle_model.specs.declared.Counts.{Counts}
use Rattle.bundle_model.specs.Counts.{no_counts}
use Rattle.record.specs.Written.{written_of, writing}
use Rattle.record.specs.RoomLaws.{size_longest}
use Rattle.resume.specs.GoingLaws.{part_long}
use Rattle.entries.specs.Entries.{called, called_of}
use Rattle.open_entry.specs.OpenEntry.{opened_record}
use Rattle.open_entry.specs.OpenLaws.{not_admitted, no_room, not_opened, is_opened, part_again, part_fits}
use borrow.Author.Rules.{rules}
use Rattle.open_entry.proofs.laqemdit_open.Goals as goal

pub returns-then-not-admits : goal.returns-then-not-admits
returns-then-not-admits c =
    let a = c.args in
    let k = c.config_of-config.result in
    let x = setup a.code.now k in
    let same = c.config_of-config.ensures in
    let judged : admits (settings x (length a.main.now) (length a.local.now) a.words) ≡ c.admits.result = sym (c.admits.ensures ∙ ap admits c.settings-g.ensures) in
    ap (λ (n : ℕ). called_of n a.main.now a.local.now a.out.now) c.number.ensures
    ∙ not_admitted x a.words a.entry a.main.now a.local.now a.out.now (judged ∙ c.if-not-admits.true) ∙ ap (λ (y : Config). called (opened_record (setup a.code.now y) a.words a.entry a.main.now a.local.now a.out.now)) same

pub returns-then-out-longest : goal.returns-then-out-longest
returns-then-out-longest c =
    let a = c.args in
    let k = c.config_of-config.result in
    let x = setup a.code.now k in
    let same = c.config_of-config.ensures in
    let judged : admits (settings x (length a.main.now) (length a.local.now) a.words) ≡ c.admits.result = sym (c.admits.ensures ∙ ap admits c.settings-g.ensures) in
    let yes = judged ∙ c.if-not-admits.false in
    let room : length a.out.now < longest a.words = omega (arith, c.if-out-longest.true, c.longest.ensures, size_longest a.words (size_ok (settings x (length a.main.now) (length a.local.now) a.words) yes)) in
    ap (λ (n : ℕ). called_of n a.main.now a.local.now a.out.now) c.number-then-out-longest.ensures
    ∙ no_room x a.words a.entry a.main.now a.local.now a.out.now yes room ∙ ap (λ (y : Config). called (opened_record (setup a.code.now y) a.words a.entry a.main.now a.local.now a.out.now)) same

pub slice_bounds-cache-end : goal.slice_bounds-cache-end
slice_bounds-cache-end c =
    let a = c.args in
    let k = c.config_of-config.result in
    let x = setup a.code.now k in
    let same = c.config_of-config.ensures in
    let judged : admits (settings x (length a.main.now) (length a.local.now) a.words) ≡ c.admits.result = sym (c.admits.ensures ∙ ap admits c.settings-g.ensures) in
    omega (arith, words_small (settings x (length a.main.now) (length a.local.now) a.words) (judged ∙ c.if-not-admits.false))

pub slice_bounds-write_record-end : goal.slice_bounds-write_record-end
slice_bounds-write_record-end c =
    let a = c.args in
    let k = c.config_of-config.result in
    let x = setup a.code.now k in
    let same = c.config_of-config.ensures in
    let judged : admits (settings x (length a.main.now) (length a.local.now) a.words) ≡ c.admits.result = sym (c.admits.ensures ∙ ap admits c.settings-g.ensures) in
    let g = settings x (length a.main.now) (length a.local.now) a.words in
    let small = words_small g (judged ∙ c.if-not-admits.false) in
    let z : List ℕ = replicate 512 0 in
    let o = c.open-opened in
    let many : length z ≡ 512 = length-replicate {A = ℕ} 512 0 in
    part_fits o.new.cache _ a.words (o.auto.cache ∙ part_long z a.words (omega (arith, many, small)))

pub returns-in-Err : goal.returns-in-Err
returns-in-Err c =
    let a = c.args in
    let k = c.config_of-config.result in
    let x = setup a.code.now k in
    let same = c.config_of-config.ensures in
    let judged : admits (settings x (length a.main.now) (length a.local.now) a.words) ≡ c.admits.result = sym (c.admits.ensures ∙ ap admits c.settings-g.ensures) in
    let yes = judged ∙ c.if-not-admits.false in
    let g = settings x (length a.main.now) (length a.local.now) a.words in
    let room : longest a.words ≤ length a.out.now = omega (arith, c.if-out-longest.false, c.longest.ensures, size_longest a.words (size_ok g yes)) in
    let z : List ℕ = replicate 512 0 in
    let long = part_long z a.words (omega (arith, length-replicate {A = ℕ} 512 0, words_small g yes)) in
    let o = c.open-opened in
    ap (λ (n : ℕ). called_of n a.main.now a.local.now a.out.now) c.number-in-Err.ensures
    ∙ not_opened x a.words a.entry a.main.now a.local.now a.out.now (take (a.words - 0) z) o.new.cache o.result long o.ensures.opened yes room _ c.in-Err.is ∙ ap (λ (y : Config). called (opened_record (setup a.code.now y) a.words a.entry a.main.now a.local.now a.out.now)) same

pub returns-in-Ok : goal.returns-in-Ok
returns-in-Ok c =
    let a = c.args in
    let k = c.config_of-config.result in
    let x = setup a.code.now k in
    let same = c.config_of-config.ensures in
    let judged : admits (settings x (length a.main.now) (length a.local.now) a.words) ≡ c.admits.result = sym (c.admits.ensures ∙ ap admits c.settings-g.ensures) in
    let yes = judged ∙ c.if-not-admits.false in
    let g = settings x (length a.main.now) (length a.local.now) a.words in
    let room : longest a.words ≤ length a.out.now = omega (arith, c.if-out-longest.false, c.longest.ensures, size_longest a.words (size_ok g yes)) in
    let z : List ℕ = replicate 512 0 in
    let long = part_long z a.words (omega (arith, length-replicate {A = ℕ} 512 0, words_small g yes)) in
    let o = c.open-opened in
    let l = o.new.cache in
    let put : written_of c.write_record.result c.write_record.new.out ≡ writing (box (state_of o.result.state) l no_counts) a.out.now =
    c.write_record.ensures
    ∙ ap (λ (q : List ℕ). writing (box (state_of o.result.state) q c.no_counts.result) a.out.now) (part_again l _ a.words (o.auto.cache ∙ long))
    ∙ ap (λ (n : Counts). writing (box (state_of o.result.state) l n) a.out.now) c.no_counts.ensures in
    is_opened x a.words a.entry a.main.now a.local.now a.out.now (take (a.words - 0) z) l o.result long o.ensures.opened yes room _ _ c.in-Ok.is put ∙ ap (λ (y : Config). called (opened_record (setup a.code.now y) a.words a.entry a.main.now a.local.now a.out.now)) same
