use Rattle.decoder.specs.Decode.{is_two_words}
use mathlib.Core.Path.{sym}
use Rattle.decoder.specs.DecodeLaws.{words_one, words_two, decode_by_long, either_way}
use Rattle.decoder.proofs.decode.Goals as goal

pub returns-in-Some : goal.returns-in-Some
returns-in-Some c = rw (decode_by_long c.args.first c.args.second _ (sym c.long.ensures), c.in-Some.is, c.guard_of.ensures)

pub returns-in_default-slot_one : goal.returns-in_default-slot_one
returns-in_default-slot_one c = rw (decode_by_long c.args.first c.args.second _ (sym c.long.ensures), c.in_default.is, ← c.slot_one.ensures, c.in_default-slot_one.is) (sym (either_way (is_two_words c.args.first) _))

pub returns-then-bundle_words-eq1 : goal.returns-then-bundle_words-eq1
returns-then-bundle_words-eq1 c = rw (decode_by_long c.args.first c.args.second _ (sym c.long.ensures), c.in_default.is, ← c.slot_one.ensures, c.in-Some-slot_one.is, words_one c.args.first (rw c.bundle_words.ensures at c.if-bundle_words-eq1.true), c.guard_of-2.ensures)

pub returns-in_default-slot_two : goal.returns-in_default-slot_two
returns-in_default-slot_two c = rw (decode_by_long c.args.first c.args.second _ (sym c.long.ensures), c.in_default.is, ← c.slot_one.ensures, c.in-Some-slot_one.is, words_two c.args.first (rw c.bundle_words.ensures at c.if-bundle_words-eq1.false), ← c.slot_two.ensures, c.in_default-slot_two.is)

pub returns : goal.returns
returns c = rw (decode_by_long c.args.first c.args.second _ (sym c.long.ensures), c.in_default.is, ← c.slot_one.ensures, c.in-Some-slot_one.is, words_two c.args.first (rw c.bundle_words.ensures at c.if-bundle_words-eq1.false), ← c.slot_two.ensures, c.in-Some-slot_two.is, c.guard_of-3.ensures, c.guard_of-2.ensures)
