use Rattle.resume.specs.GoingLaws.{part_long}
use Rattle.record_model.specs.Record.{longest}
use Rattle.settings.specs.SettingsLaws.{words_small}
use Rattle.resume_model.specs.Resume.{resumed}
use Rattle.settings.specs.Settings.{admits}
use Rattle.settings.specs.Setup.{given_setup, settings}
use Prim.Native.Nat.{ℕ, ◌≤◌}
use lib.ListN.{length}
use native.Mathlib.Omega.{arith}
use mathlib.Core.Path.{◌≡◌, sym, ap, subst, ◌∙◌}
use borrow.Author.Rules.{rules}
use Rattle.resume.proofs.with_cache.Goals as goal

pub slice_bounds-cache-end : goal.slice_bounds-cache-end
slice_bounds-cache-end c =
    let a = c.args in
    let long : length a.scratch ≡ 512 = search rules in
    let small = words_small (settings (given_setup a.given.now) (length a.main.now) (length a.local.now) a.words) c.requires.0 in
    omega (arith, long, small)

pub go_on-requires : goal.go_on-requires
go_on-requires c =
    let a = c.args in
    let long : length a.scratch ≡ 512 = search rules in
    let small = words_small (settings (given_setup a.given.now) (length a.main.now) (length a.local.now) a.words) c.requires.0 in
    let n = part_long a.scratch a.words (omega (arith, long, small)) in (
      ap (λ (k : ℕ). admits (settings (given_setup a.given.now) (length a.main.now) (length a.local.now) k)) n ∙ c.requires.0,
      subst (λ (k : ℕ). longest k ≤ length a.out.now) (sym n) c.requires.1,
    )

pub returns : goal.returns
returns c =
    let a = c.args in
    let long : length a.scratch ≡ 512 = search (rules, c.well_formed.1.1.1.1.1.1.1.0) in
    let small = words_small (settings (given_setup a.given.now) (length a.main.now) (length a.local.now) a.words) c.requires.0 in
    let n = part_long a.scratch a.words (omega (arith, long, small)) in
    c.go_on.ensures ∙ ap (λ (k : ℕ). resumed (given_setup a.given.now) a.budget k a.bytes.now a.main.now a.local.now a.out.now) n
