use Rattle.record_model.specs.Record.{box_in, specials_in, transfer_in, load_in, products_in, replay_in}
use Rattle.state.specs.Whole.{state_of}
use Rattle.core_state.specs.State.{state, further, predicates_of}
use Rattle.method_cache.proofs.WordLaws.{words_back, words_fixed}
use Rattle.method_cache.specs.Words.{held_in, held_words, FixedHeld}
use lib.ListN.{get_or}
use Rattle.sections.specs.Sections.{section_at}
use Rattle.sections.specs.Words.{words_in}
use Prim.Native.Nat.{ℕ, ◌≤◌}
use lib.ListN.{length}
use mathlib.Core.Path.{sym, ap, subst, ◌∙◌}
use mathlib.Core.List.{List}
use borrow.Author.Rules.{rules}
use Rattle.record.proofs.reading.state_in.Goals as goal

pub registers_in-requires : goal.registers_in-requires
registers_in-requires c = ap length c.section_at-2.ensures.0 ∙ c.requires.0

pub held_in-requires : goal.held_in-requires
held_in-requires c = subst (λ (l : List ℕ). length l ≤ 16) (sym c.section_at-7.ensures.0) c.requires.1

pub returns : goal.returns
unfolding state_of box_in
returns c =
    let l = words_in c.args.bytes.now in
    let flow = c.section_at-flow.ensures.0 in
    let registers = c.registers_in.ensures ∙ c.section_at-2.ensures.0 in
    let predicates = c.predicates_in.ensures ∙ ap (predicates_of 8) (c.word_at-word.ensures ∙ ap (λ (m : List ℕ). get_or m 0 0) c.section_at.ensures.0) in
    let specials = c.specials_in.ensures ∙ ap specials_in c.section_at-3.ensures.0 in
    let fetch = c.word_at.ensures ∙ ap (λ (m : List ℕ). get_or m 0 0) flow in
    let base = c.word_at-2.ensures ∙ ap (λ (m : List ℕ). get_or m 1 0) flow in
    let transfer = c.transfer_in.ensures ∙ ap transfer_in c.section_at-4.ensures.0 in
    let load = c.load_in.ensures ∙ ap load_in c.section_at-5.ensures.0 in
    let products = c.products_in.ensures ∙ ap products_in c.section_at-6.ensures.0 in
    let replay = c.replay_in.ensures ∙ ap replay_in c.section_at-8.ensures.0 in
    let few = c.requires.1 in
    let words = c.held_in.ensures ∙ ap held_words c.section_at-7.ensures.0 in
    let held = ap held_in words ∙ words_back (section_at 9 l) few in (
      (λ i. state (registers i) (predicates i) (specials i) (fetch i) (base i) (transfer i) (load i) (further (products i) (held i) (replay i))),
      subst FixedHeld (sym words) (words_fixed (section_at 9 l) few),
    )
