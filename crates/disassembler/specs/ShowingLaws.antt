-- What the numbers of a load, a store and a branch are bounded by, and the word of a branch.
use Rattle.std.specs.Prelude.{◌≤◌, ◌≡◌, refl, ℤ, pos, negsuc}
use Rattle.std.proofs.Common.{arith, of_z}
use Rattle.std.specs.Int.{w32}
use Rattle.fields.specs.Fields.{kind_code, load_code, store_code}
use Rattle.disassembler.specs.Shown.{complement}
use Rattle.isa.specs.declared.AccessKind.{AccessKind}
use Rattle.isa.specs.declared.AccessKind.TheVariants.{Stack, Local, Cached, Main}
use Rattle.isa.specs.declared.LoadWidth.{LoadWidth}
use Rattle.isa.specs.declared.LoadWidth.TheVariants.{Word, Half, Byte, HalfUnsigned, ByteUnsigned}
use Rattle.isa.specs.declared.StoreWidth.{StoreWidth}
use Rattle.isa.specs.declared.StoreWidth.TheVariants as store

pub complement_of : (z : ℤ) → of_z w32 z ≡ complement z
complement_of (pos n) = refl
complement_of (negsuc n) = refl

-- The numbers of widths and memories are small.
pub load_small : (w : LoadWidth) → load_code w ≤ 4
load_small Word = omega arith
load_small Half = omega arith
load_small Byte = omega arith
load_small HalfUnsigned = omega arith
load_small ByteUnsigned = omega arith

pub store_small : (w : StoreWidth) → store_code w ≤ 2
store_small store.Word = omega arith
store_small store.Half = omega arith
store_small store.Byte = omega arith

pub kind_small : (k : AccessKind) → kind_code k ≤ 3
kind_small Stack = omega arith
kind_small Local = omega arith
kind_small Cached = omega arith
kind_small Main = omega arith
