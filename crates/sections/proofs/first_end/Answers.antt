use Rattle.std.proofs.Common.{le-leb}
use Rattle.std.proofs.lemmas.Bool.{lt-leb}
use Rattle.sections.specs.FoundLaws.{none_first, first_whole}
use Rattle.sections.proofs.first_end.Goals as goal

pub returns-then-bytes-lt4 : goal.returns-then-bytes-lt4
returns-then-bytes-lt4 c = rw (none_first c.args.bytes.now c.if-bytes-lt4.true)

pub returns-then-bytes-n : goal.returns-then-bytes-n
returns-then-bytes-n c = rw (← first_whole c.args.bytes.now c.word_at-n.result c.if-bytes-lt4.false c.word_at-n.ensures, lt-leb _ _ c.if-bytes-n.true)

pub returns : goal.returns
returns c = rw (← first_whole c.args.bytes.now c.word_at-n.result c.if-bytes-lt4.false c.word_at-n.ensures, le-leb _ _ c.if-bytes-n.false, c.word_at-n.ensures)
