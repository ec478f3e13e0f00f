-- The results of the functions of tables 2.1 to 2.4, on words.
use Rattle.std.specs.Prelude.{ℕ, Bool, not, ◌&&◌, ◌||◌, eqb, ltb, leb}
use Rattle.std.specs.Bool.{beq}
use Rattle.std.specs.Int.Bits.{bit_and, bit_or, bit_xor}
use Rattle.word.specs.Word.{add, sub, nor, shift_left, shift_right, shift_right_signed, less_signed, less_equal_signed, test_bit, product, product_signed}
use Rattle.isa.specs.declared.AluFunction.{AluFunction}
use Rattle.isa.specs.declared.AluFunction.TheVariants.{Add, Sub, Xor, Sl, Sr, Sra, Or, And, Nor, Shadd, Shadd2}
use Rattle.isa.specs.declared.CompareFunction.{CompareFunction}
use Rattle.isa.specs.declared.CompareFunction.TheVariants.{Cmpeq, Cmpneq, Cmplt, Cmple, Cmpult, Cmpule, Btest}
use Rattle.isa.specs.declared.PredicateFunction.{PredicateFunction}
use Rattle.isa.specs.declared.PredicateFunction.TheVariants.{Por, Pand, Pxor}
use Rattle.isa.specs.declared.MultiplyFunction.{MultiplyFunction}
use Rattle.isa.specs.declared.MultiplyFunction.TheVariants.{Mul, Mulu}

-- Table 2.1, of Rs1 and Op2.
unfoldable pub arithmetic : AluFunction → ℕ → ℕ → ℕ
arithmetic Add a b = add a b
arithmetic Sub a b = sub a b
arithmetic Xor a b = bit_xor a b
arithmetic Sl a b = shift_left a b
arithmetic Sr a b = shift_right a b
arithmetic Sra a b = shift_right_signed a b
arithmetic Or a b = bit_or a b
arithmetic And a b = bit_and a b
arithmetic Nor a b = nor a b
arithmetic Shadd a b = add (shift_left a 1) b
arithmetic Shadd2 a b = add (shift_left a 2) b

-- Table 2.2: the 64 bits of the product.
unfoldable pub multiply : MultiplyFunction → ℕ → ℕ → ℕ
multiply Mul a b = product_signed a b
multiply Mulu a b = product a b

-- Table 2.3.
unfoldable pub compare : CompareFunction → ℕ → ℕ → Bool
compare Cmpeq a b = eqb a b
compare Cmpneq a b = not (eqb a b)
compare Cmplt a b = less_signed a b
compare Cmple a b = less_equal_signed a b
compare Cmpult a b = ltb a b
compare Cmpule a b = leb a b
compare Btest a b = test_bit a b

-- Table 2.4.
unfoldable pub combine : PredicateFunction → Bool → Bool → Bool
combine Por a b = a || b
combine Pand a b = a && b
combine Pxor a b = not (beq a b)
