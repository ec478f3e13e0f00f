use Rattle.record.specs.Written.{Put}
use Prim.Native.Nat.{ℕ, ◌-◌}
use lib.ListN.{length, take}
use native.Mathlib.Omega.{arith}
use mathlib.Core.Path.{◌≡◌, subst}
use mathlib.Core.List.{[], ◌∷◌}
use borrow.Author.Rules.{rules}
use Rattle.record.proofs.putting.put_few.Goals as goal

pub slice_bounds-put_section-end : goal.slice_bounds-put_section-end
slice_bounds-put_section-end c = let n : length c.args.few.words ≡ 6 = search rules in omega (arith, c.requires.1, n)

pub returns : goal.returns
returns c =
    let few = c.args.few in
    let n : few.count - 0 ≡ few.count = omega arith in
    subst (λ (k : ℕ). Put c.args.out.now c.put_section.new.out c.args.at c.put_section.result (take k few.words ∷ [])) n c.put_section.ensures
