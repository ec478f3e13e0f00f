use Rattle.std.proofs.Common.{arith}
use Rattle.std.proofs.Math.Nat.{one-le-pow}
use Rattle.stack_cache.specs.Stack.{part_of, put_part}
use Rattle.stack_cache.specs.StackLaws.{put_part_word, size_of}
use Rattle.stack_cache.proofs.access.store_part.Goals as goal

pub with_part-w-requires : goal.with_part-w-requires
unfolding part_of put_part
with_part-w-requires g c = let a = c.before.args in
    let w = c.cache_word in
    let k = g.row.BYTES in (
      c.bits_below.ensures.1,
      rw (size_of k (omega (arith, c.requires))) (one-le-pow k 256 (omega arith)),
      rw (c.bits_below.ensures.0, size_of k (omega (arith, c.requires))) (put_part_word k w.result a.address a.v (omega (arith, c.requires)) (omega (arith, w.type_inv))),
    )
