use Rattle.state.specs.Whole.{state_of}
use Rattle.method_cache.specs.Words.{held_in}
use Rattle.record_model.specs.PartLaws.{transfer_few, load_few, products_few}
use Rattle.record_model.specs.Record.{specials_section, transfer_section, load_section, product_section, count_section, replay_section, record_sections}
use Rattle.alu_effects.specs.AluEffects.{predicates_word}
use Rattle.record.specs.PutLaws.{put_then, put_end}
use Prim.Native.Nat.{◌-◌, ◌+◌}
use lib.ListN.{length}
use native.Mathlib.Omega.{arith}
use mathlib.Core.Path.{◌≡◌}
use mathlib.Core.List.{[], ◌∷◌, ◌++◌}
use borrow.Author.Rules.{rules}
use Rattle.record.proofs.writing.put_record.Goals as goal

pub put_section-second-requires : goal.put_section-second-requires
put_section-second-requires c =
    let a = c.args in
    let s = a.state in
    let long : length s.registers ≡ 32 = search rules in
    let numbers = (s.fetch ∷ s.base ∷ []) ∷ s.registers ∷ (predicates_word s.predicates ∷ []) ∷ specials_section s.specials ∷ [] in
    omega (arith, c.requires, long, put_end numbers c.put_registers-first.ensures)

pub put_waiting-third-requires : goal.put_waiting-third-requires
put_waiting-third-requires c =
    let a = c.args in
    let s = a.state in
    let long : length s.registers ≡ 32 = search rules in
    let numbers = (s.fetch ∷ s.base ∷ []) ∷ s.registers ∷ (predicates_word s.predicates ∷ []) ∷ specials_section s.specials ∷ [] in
    omega (arith, c.requires, long, put_end numbers c.put_registers-first.ensures, put_end (a.cache.now ∷ []) c.put_section-second.ensures)

pub put_last-requires : goal.put_last-requires
put_last-requires c =
    let a = c.args in
    let s = a.state in
    let long : length s.registers ≡ 32 = search rules in
    let numbers = (s.fetch ∷ s.base ∷ []) ∷ s.registers ∷ (predicates_word s.predicates ∷ []) ∷ specials_section s.specials ∷ [] in
    let waiting = transfer_section s.transfer ∷ load_section s.load ∷ product_section s.products ∷ [] in
    omega (arith, c.requires, long, put_end numbers c.put_registers-first.ensures, put_end (a.cache.now ∷ []) c.put_section-second.ensures, put_end waiting c.put_waiting-third.ensures, transfer_few s.transfer, load_few s.load, products_few s.products)

pub returns : goal.returns
unfolding record_sections state_of
returns c =
    let a = c.args in
    let s = a.state in
    let numbers = (s.fetch ∷ s.base ∷ []) ∷ s.registers ∷ (predicates_word s.predicates ∷ []) ∷ specials_section s.specials ∷ [] in
    let waiting = transfer_section s.transfer ∷ load_section s.load ∷ product_section s.products ∷ [] in
    let last = count_section a.counts ∷ held_in s.held ∷ replay_section s.replay ∷ [] in
    put_then numbers (a.cache.now ∷ (waiting ++ last)) c.put_registers-first.ensures
    (put_then (a.cache.now ∷ []) (waiting ++ last) c.put_section-second.ensures
    (put_then waiting last c.put_waiting-third.ensures c.put_last.ensures))
