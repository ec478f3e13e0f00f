-- Sums that the encoder makes fit their types.
use Rattle.std.specs.Prelude.{ℕ, ◌+◌, ◌-◌, ◌*◌, ◌<◌, ◌≤◌, ◌^◌, Bool, true, false}
use Rattle.std.proofs.Common.{mul-le-mul, arith}
use Rattle.fields.specs.Fields.{bit}

-- A word and a product of two words, in 64 bits.
pub grown_fits : (w n place : ℕ) → w < 2 ^ 32 → n < 2 ^ 32 → place < 2 ^ 32 → w + n * place < 2 ^ 64
grown_fits w n place o p q =
    let x : n ≤ 2 ^ 32 - 1 = omega arith in
    let y : place ≤ 2 ^ 32 - 1 = omega arith in
    omega (arith, mul-le-mul x y)

-- A bit beside a code of a transfer.
pub bit_fits : (n : ℕ) (b : Bool) → n ≤ 4 → n + bit b < 2 ^ 32
bit_fits n true h = omega arith
bit_fits n false h = omega arith
