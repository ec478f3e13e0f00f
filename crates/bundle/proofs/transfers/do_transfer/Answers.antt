use Prim.Native.Nat.{◌<◌, ◌^◌}
use mathlib.Core.Path.{refl, sym, ◌∙◌}
use Rattle.std.proofs.lemmas.Result.{err_from_is_err_and}
use Rattle.std.specs.Prelude.{Result, Ok}
use Rattle.answers.specs.declared.Refusal.{Refusal}
use Rattle.core_state.specs.State.{with_held}
use Rattle.core_state.specs.Core.{joined}
use Rattle.bundle_model.specs.declared.Carried.{Carried}
use Rattle.bundle_model.specs.Counts.{few_words, counts_in}
use Rattle.bundle_model.specs.TallyLaws.{tallied_refused}
use Rattle.bundle_model.proofs.ExecuteLaws.{extra_few}
use native.Mathlib.Omega.{arith}
use borrow.Author.Rules.{rules}
use Rattle.method_cache.specs.Words.{held_in}
use Rattle.settings.specs.SettingsLaws.{capacity_ok_lem}
use Rattle.settings.specs.Setup.{setup_of}
use Rattle.effects.specs.declared.Effect.TheVariants as effect
use Rattle.bundle_writes.specs.Transfers.{transfer_carried, transfer_tallied}
use Rattle.bundle.proofs.transfers.do_transfer.Goals as goal

pub returns-in_err-judge_transfer : goal.returns-in_err-judge_transfer
returns-in_err-judge_transfer c =
    let a = c.args in
    let p = err_from_is_err_and c.from_residual.result c.from_residual.ensures.1 in
    rw (p.1, p.2)
    (λ rs ps b. (
      transfer_carried a.g (setup_of a.code.now a.g) (with_held (joined rs ps a.core) (held_in a.held.now)) a.delayed a.transfer b _ (sym c.in_err-judge_transfer.was ∙ c.judge_transfer.ensures),
      tallied_refused _ a.g (setup_of a.code.now a.g) (joined rs ps a.core) a.held.now a.counts.now (effect.Transfer a.delayed a.transfer),
    ))

pub add-requires : goal.add-requires
add-requires c =
    let a = c.args in
    let few = c.requires.1 in
    let misses : c.look_up_transfer-looked.result.misses < 2 ^ 32 = search (rules, c.look_up_transfer-looked.type_inv) in
    let fetched : c.look_up_transfer-looked.result.fetched < 2 ^ 32 = search (rules, c.look_up_transfer-looked.type_inv) in
    few_words (counts_in a.counts.now) _ few (omega arith) (omega (arith, extra_few a.delayed a.transfer, c.extra_cycles.ensures)) (omega arith) (omega arith) misses fetched

pub returns : goal.returns
returns c =
    let a = c.args in
    let p = c.requires.0 in
    rw c.nothing.ensures
    (λ rs ps b.
    let s = with_held (joined rs ps a.core) (held_in a.held.now) in (
      transfer_carried a.g (setup_of a.code.now a.g) s a.delayed a.transfer b (Ok tt) (sym c.in_ok-judge_transfer.was ∙ c.judge_transfer.ensures),
      transfer_tallied a.g a.code.now (joined rs ps a.core) a.delayed a.transfer a.held.now _ a.counts.now _ _ _ _ refl (capacity_ok_lem a.g p) c.look_up_transfer-looked.ensures c.extra_cycles.ensures c.add.ensures,
    ))
