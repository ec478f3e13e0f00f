-- The words that a struct Few holds.
use Rattle.std.specs.Prelude.{ℕ, ◌≤◌, List, ◌++◌, ◌≡◌, length, take, replicate}
use Rattle.std.proofs.Common.{sym, subst, ◌∙◌, take-take}
use Rattle.std.proofs.Math.Seq.{take-append_seam}
use Rattle.record_parts.specs.declared.Few.{Few}

abbrev pub few_in : Few → List ℕ
few_in r = take r.count r.words

-- The struct of up to six words: behind them 0.
abbrev pub few_of : List ℕ → Few
few_of ws = record { words = take 6 (ws ++ replicate 6 0); count = length ws }

-- That a struct holds these words, and no more than it has room for.
pub record Holds (r : Few) (ws : List ℕ) : Type 0 where
  pub words : few_in r ≡ ws
  pub room : r.count ≤ 6

pub holds : (r : Few) (ws : List ℕ) → r ≡ few_of ws → length ws ≤ 6 → Holds r ws
holds r ws e p =
    subst (λ (q : Few). Holds q ws) (sym e) (record { words = take-take (length ws) 6 (ws ++ replicate 6 0) p ∙ take-append_seam ws (replicate 6 0); room = p })
