use Rattle.check_entry.specs.BitLaws.{bit_next, bit_last}
use Rattle.core_state.specs.State.{predicates_of}
use lib.ListN.{length, take, length-set}
use borrow.Author.Rules.{rules}
use Prim.Native.Nat.{◌-◌, ◌≤◌}
use native.Mathlib.Omega.{arith}
use mathlib.Core.Path.{◌≡◌, refl, sym, ◌∙◌}
use mathlib.Core.List.{◌++◌}
use Rattle.check_entry.proofs.numbers.bits_of.Given as goal

abbrev pub invariant-loop-i : goal.invariant-loop-i
invariant-loop-i l = (l.i ≤ 32) × (length l.bits ≡ 32) × (take l.i l.bits ++ predicates_of (32 - l.i) l.rest ≡ predicates_of 32 l.word)
