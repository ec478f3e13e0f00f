-- Laws of the predicates as a word.
use Rattle.std.specs.Prelude.{ℕ, suc, ◌+◌, ◌*◌, ◌<◌, Bool, true, false, cond, not, List, ◌≡◌, refl, length, get_or, drop}
use Rattle.std.specs.Bool.{beq}
use Rattle.std.proofs.Common.{◌∙◌, drop_of_length-le, drop-cons, arith}
use Rattle.alu_effects.specs.AluEffects.{predicates_word}

abbrev pub bit_of : Bool → ℕ
bit_of b = cond b 1 0

word_step : (l : List Bool) (k : ℕ) → k < length l → predicates_word (drop k l) ≡ bit_of (get_or l k false) + 2 * predicates_word (drop (suc k) l)
unfolding predicates_word
word_step l k h = rw (drop-cons l k false h)

-- eight predicates as a word, bit by bit
pub word_of_eight : (l : List Bool) → length l ≡ 8 → predicates_word l ≡
    bit_of (get_or l 0 false) + 2 * (bit_of (get_or l 1 false) + 2 * (bit_of (get_or l 2 false) + 2 * (bit_of (get_or l 3 false)
    + 2 * (bit_of (get_or l 4 false) + 2 * (bit_of (get_or l 5 false) + 2 * (bit_of (get_or l 6 false) + 2 * bit_of (get_or l 7 false)))))))
unfolding predicates_word
word_of_eight l e =
    let z : predicates_word (drop 8 l) ≡ 0 = rw (drop_of_length-le l {i = 8} (omega arith)) in
    let s7 = word_step l 7 (omega arith) in
    let e7 : predicates_word (drop 7 l) ≡ bit_of (get_or l 7 false) = s7 ∙ omega arith in
    word_step l 0 (omega arith) ∙ rw (word_step l 1 (omega arith), word_step l 2 (omega arith), word_step l 3 (omega arith), word_step l 4 (omega arith), word_step l 5 (omega arith), word_step l 6 (omega arith), e7)

-- a predicate operand that names no predicate reads false
pub not_beq_false : (n : Bool) → not (beq n false) ≡ n
not_beq_false true = refl
not_beq_false false = refl
