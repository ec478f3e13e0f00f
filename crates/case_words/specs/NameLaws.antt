-- What a field of a letter and a number is, by its first byte and the rest.
use Rattle.std.specs.Prelude.{ℕ, ◌-◌, ◌≡◌, refl, None, cond, List, [], ◌∷◌, length, drop, take, get_or, eqb}
use Rattle.std.proofs.Common.{sub-one, arith}
use Rattle.std.proofs.Math.Seq.{take-length}
use Rattle.text.specs.Number.{decimal_of}
use Rattle.case_words.specs.Names.{numbered, at_most}

pub numbered_none : (letter greatest : ℕ) (s : List ℕ) → length s ≡ 0 → None ≡ numbered letter greatest s
unfolding numbered
numbered_none letter greatest [] e = refl
numbered_none letter greatest (c ∷ cs) e = absurd (omega arith)

pub numbered_some : (letter greatest : ℕ) (s : List ℕ) → (length s ≡ 0 → ⊥)
    → numbered letter greatest s ≡ cond (eqb (get_or s 0 0) letter) (at_most greatest (decimal_of (take (length s - 1) (drop 1 s)))) None
unfolding numbered
numbered_some letter greatest [] h = absurd (h refl)
numbered_some letter greatest (c ∷ cs) h = rw (sub-one, take-length cs)
