-- The codes and the tables: a code's row is its own.
use Rattle.std.specs.Prelude.{Bool, true, false, ◌≡◌, refl, Option}
use Rattle.isa.specs.Format.{row}
use Rattle.isa.specs.Formats.{is_set}
use Rattle.isa.specs.Tables.{alu_table, multiply_table, compare_table, predicate_table, special_table, kind_table, load_table, store_table}
use Rattle.isa.specs.declared.AluFunction.{AluFunction}
use Rattle.isa.specs.declared.AluFunction.TheVariants.{Add, Sub, Xor, Sl, Sr, Sra, Or, And, Nor, Shadd, Shadd2}
use Rattle.isa.specs.declared.MultiplyFunction.{MultiplyFunction}
use Rattle.isa.specs.declared.MultiplyFunction.TheVariants.{Mul, Mulu}
use Rattle.isa.specs.declared.CompareFunction.{CompareFunction}
use Rattle.isa.specs.declared.CompareFunction.TheVariants.{Cmpeq, Cmpneq, Cmplt, Cmple, Cmpult, Cmpule, Btest}
use Rattle.isa.specs.declared.PredicateFunction.{PredicateFunction}
use Rattle.isa.specs.declared.PredicateFunction.TheVariants.{Por, Pand, Pxor}
use Rattle.isa.specs.declared.Special.{Special}
use Rattle.isa.specs.declared.Special.TheVariants as special
use Rattle.isa.specs.declared.AccessKind.{AccessKind}
use Rattle.isa.specs.declared.AccessKind.TheVariants.{Stack, Local, Cached, Main}
use Rattle.isa.specs.declared.LoadWidth.{LoadWidth}
use Rattle.isa.specs.declared.LoadWidth.TheVariants.{Word, Half, Byte, HalfUnsigned, ByteUnsigned}
use Rattle.isa.specs.declared.StoreWidth.{StoreWidth}
use Rattle.isa.specs.declared.StoreWidth.TheVariants as store
use Rattle.fields.specs.Fields.{alu_code, multiply_code, compare_code, predicate_code, special_code, kind_code, load_code, store_code, bit}

-- The row of a code is that of the function, special register, memory or width that has the code.
pub alu_row_lem : {B : Type 0} (x : AluFunction) (make : AluFunction → Option B) → row alu_table (alu_code x) make ≡ make x
unfolding row
alu_row_lem Add make = refl
alu_row_lem Sub make = refl
alu_row_lem Xor make = refl
alu_row_lem Sl make = refl
alu_row_lem Sr make = refl
alu_row_lem Sra make = refl
alu_row_lem Or make = refl
alu_row_lem And make = refl
alu_row_lem Nor make = refl
alu_row_lem Shadd make = refl
alu_row_lem Shadd2 make = refl

pub multiply_row_lem : {B : Type 0} (x : MultiplyFunction) (make : MultiplyFunction → Option B) → row multiply_table (multiply_code x) make ≡ make x
unfolding row
multiply_row_lem Mul make = refl
multiply_row_lem Mulu make = refl

pub compare_row_lem : {B : Type 0} (x : CompareFunction) (make : CompareFunction → Option B) → row compare_table (compare_code x) make ≡ make x
unfolding row
compare_row_lem Cmpeq make = refl
compare_row_lem Cmpneq make = refl
compare_row_lem Cmplt make = refl
compare_row_lem Cmple make = refl
compare_row_lem Cmpult make = refl
compare_row_lem Cmpule make = refl
compare_row_lem Btest make = refl

pub predicate_row_lem : {B : Type 0} (x : PredicateFunction) (make : PredicateFunction → Option B) → row predicate_table (predicate_code x) make ≡ make x
unfolding row
predicate_row_lem Por make = refl
predicate_row_lem Pand make = refl
predicate_row_lem Pxor make = refl

pub special_row_lem : {B : Type 0} (x : Special) (make : Special → Option B) → row special_table (special_code x) make ≡ make x
unfolding row
special_row_lem special.S0 make = refl
special_row_lem special.Sl make = refl
special_row_lem special.Sh make = refl
special_row_lem special.Ss make = refl
special_row_lem special.St make = refl
special_row_lem special.Srb make = refl
special_row_lem special.Sro make = refl
special_row_lem special.Sxb make = refl
special_row_lem special.Sxo make = refl

pub kind_row : {B : Type 0} (x : AccessKind) (make : AccessKind → Option B) → row kind_table (kind_code x) make ≡ make x
unfolding row
kind_row Stack make = refl
kind_row Local make = refl
kind_row Cached make = refl
kind_row Main make = refl

pub load_row : {B : Type 0} (x : LoadWidth) (make : LoadWidth → Option B) → row load_table (load_code x) make ≡ make x
unfolding row
load_row Word make = refl
load_row Half make = refl
load_row Byte make = refl
load_row HalfUnsigned make = refl
load_row ByteUnsigned make = refl

pub store_row : {B : Type 0} (x : StoreWidth) (make : StoreWidth → Option B) → row store_table (store_code x) make ≡ make x
unfolding row
store_row store.Word make = refl
store_row store.Half make = refl
store_row store.Byte make = refl

pub set_bit : (d : Bool) → is_set (bit d) ≡ d
set_bit true = refl
set_bit false = refl
