use Rattle.record_model.specs.Record.{specials_section}
use Rattle.alu_effects.specs.AluEffects.{special, predicates_word}
use Rattle.record.specs.PutLaws.{put_then, put_end}
use Prim.Native.Nat.{ℕ, ◌-◌}
use lib.ListN.{length}
use Rattle.record.specs.PutLaws.{put_then, put_end}
use Rattle.record.specs.Written.{Put}
use Prim.Native.Nat.{ℕ, ◌-◌}
use lib.ListN.{length}
use native.Mathlib.Omega.{arith}
use mathlib.Core.Path.{◌≡◌, subst}
use mathlib.Core.List.{[], ◌∷◌}
use borrow.Author.Rules.{rules}
use Rattle.record.proofs.putting.put_registers.Goals as goal

pub put_section-second-requires : goal.put_section-second-requires
put_section-second-requires c = let n : length c.args.registers ≡ 32 = search rules in omega (arith, put_end _ c.put_section-first.ensures, n)

pub put_section-third-requires : goal.put_section-third-requires
put_section-third-requires c = let n : length c.args.registers ≡ 32 = search rules in omega (arith, put_end _ c.put_section-first.ensures, put_end (c.args.registers ∷ []) c.put_section-second.ensures, n)

pub put_section-requires : goal.put_section-requires
put_section-requires c = let n : length c.args.registers ≡ 32 = search rules in omega (arith, put_end _ c.put_section-first.ensures, put_end (c.args.registers ∷ []) c.put_section-second.ensures, put_end _ c.put_section-third.ensures, n)

pub returns : goal.returns
unfolding special
returns c =
    let a = c.args in
    let word : c.read_special-word.result ≡ predicates_word a.predicates = c.read_special-word.ensures in
    subst (λ (w : ℕ). Put a.out.now c.put_section.new.out 0 c.put_section.result ((a.fetch ∷ a.base ∷ []) ∷ a.registers ∷ (w ∷ []) ∷ specials_section a.specials ∷ [])) word
    (put_then ((a.fetch ∷ a.base ∷ []) ∷ []) (a.registers ∷ (c.read_special-word.result ∷ []) ∷ specials_section a.specials ∷ []) c.put_section-first.ensures
    (put_then (a.registers ∷ []) ((c.read_special-word.result ∷ []) ∷ specials_section a.specials ∷ []) c.put_section-second.ensures
    (put_then ((c.read_special-word.result ∷ []) ∷ []) (specials_section a.specials ∷ []) c.put_section-third.ensures c.put_section.ensures)))
