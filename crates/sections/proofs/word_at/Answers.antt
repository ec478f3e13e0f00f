use mathlib.Core.Path.{◌∙◌}
use Rattle.sections.specs.FoundLaws.{word_found, word_past}
use Rattle.sections.proofs.word_at.Goals as goal

pub returns-then-i-bytes : goal.returns-then-i-bytes
returns-then-i-bytes c = c.read_word.ensures ∙ word_found c.args.bytes.now c.args.i c.if-i-bytes.true

pub returns : goal.returns
returns c = word_past c.args.bytes.now c.args.i c.if-i-bytes.false
