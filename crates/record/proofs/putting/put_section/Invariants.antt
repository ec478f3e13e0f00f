use Rattle.big_endian.specs.BytesLaws.{length_put_number}
use Rattle.record.specs.PutLaws.{put_next, put_none, put_one}
use Rattle.sections.specs.Words.{put_words}
use lib.ListN.{length, get_or, drop}
use mathlib.Core.List.{List}
use Prim.Native.Nat.{ℕ, ◌+◌, ◌-◌, ◌*◌, ◌≤◌}
use borrow.Author.Rules.{rules}
use native.Mathlib.Omega.{arith}
use mathlib.Core.Path.{◌≡◌, refl, sym, ap, ◌∙◌}
use Rattle.record.proofs.putting.put_section.Given as goal

abbrev pub invariant-loop-word : goal.invariant-loop-word
invariant-loop-word l =
    (l.word-index ≤ length l.words) × (l.next ≡ l.initial.next + 4 * l.word-index) × (length l.out ≡ length l.initial.out) × (put_words l.out l.next (drop l.word-index l.words) ≡ put_words l.initial.out l.initial.next l.words)
