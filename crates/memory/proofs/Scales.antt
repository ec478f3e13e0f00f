-- An access has 1, 2 or 4 bytes.
use Rattle.std.specs.Prelude.{ℕ, zero, suc, ◌*◌, ◌%◌, ◌^◌, ◌<◌, ◌≤◌, ◌≡◌}
use Rattle.std.proofs.Common.{arith}
use Rattle.isa.specs.declared.LoadWidth.{LoadWidth}
use Rattle.isa.specs.declared.LoadWidth.TheVariants.{Word, Half, Byte, HalfUnsigned, ByteUnsigned}
use Rattle.isa.specs.declared.StoreWidth.{StoreWidth}
use Rattle.isa.specs.declared.StoreWidth.TheVariants as store
use Rattle.memory.specs.Access.{load_scale, store_scale}

pub load_few : (w : LoadWidth) → load_scale w ≤ 2
unfolding load_scale
load_few Word = omega arith
load_few Half = omega arith
load_few Byte = omega arith
load_few HalfUnsigned = omega arith
load_few ByteUnsigned = omega arith

pub store_few : (w : StoreWidth) → store_scale w ≤ 2
unfolding store_scale
store_few store.Word = omega arith
store_few store.Half = omega arith
store_few store.Byte = omega arith

pub shifted : (k r : ℕ) → r ≡ k → k ≤ 2 → (1 * 2 ^ r % 4294967296 ≡ 2 ^ k) × (0 < 1 * 2 ^ r % 4294967296)
shifted k r e p = rw e (go k p)
  where
    go : (k : ℕ) → k ≤ 2 → (1 * 2 ^ k % 4294967296 ≡ 2 ^ k) × (0 < 1 * 2 ^ k % 4294967296)
    go zero p = (omega arith, omega arith)
    go (suc zero) p = (omega arith, omega arith)
    go (suc (suc zero)) p = (omega arith, omega arith)
    go (suc (suc (suc k))) p = absurd (omega arith)
