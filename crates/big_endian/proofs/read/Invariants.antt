use Rattle.std.proofs.Common.{◌≡◌}
use Rattle.big_endian.specs.Bytes.{number_at}
use Rattle.big_endian.proofs.read.Given as goal

abbrev pub invariant-loop-k : goal.invariant-loop-k
invariant-loop-k g l = l.v ≡ number_at l.k l.s l.at

abbrev pub invariant-loop-k-2 : goal.invariant-loop-k-2
invariant-loop-k-2 g l = l.v ≡ number_at l.k l.s l.at
