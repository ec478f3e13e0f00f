use Rattle.std.proofs.Common.{◌≡◌, ℕ, ◌*◌, ◌%◌, ◌^◌, sym, arith}
use lib.Bits.{bit_and, or_zero_r}
use Rattle.word.specs.Word.{copy_bit}
use Rattle.word.specs.WordLaws.{bit_word}
use Rattle.word.proofs.bits.copy_bit.Goals as goal

bit : (n : ℕ) → 1 * 2 ^ (n % 32) % 4294967296 ≡ 2 ^ (n % 32)
bit n = omega (arith, bit_word n)

pub returns : goal.returns
unfolding copy_bit
returns c = let a = c.args in
    rw (bit a.n, c.if-b.false) (sym (or_zero_r (bit_and a.a (2 ^ (a.n % 32)))))
