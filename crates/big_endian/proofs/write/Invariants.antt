use Rattle.std.proofs.Common.{◌≡◌}
use Rattle.big_endian.specs.Bytes.{put_number}
use Rattle.big_endian.proofs.write.Given as goal

abbrev pub invariant-loop-k : goal.invariant-loop-k
invariant-loop-k g l = put_number l.k l.s l.at l.rest ≡ put_number g.row.N l.initial.s l.at l.v

abbrev pub invariant-loop-k-2 : goal.invariant-loop-k-2
invariant-loop-k-2 g l = put_number l.k l.s l.at l.rest ≡ put_number g.row.N l.initial.s l.at l.v
