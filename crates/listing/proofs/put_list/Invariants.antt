use Rattle.std.specs.Prelude.{◌-◌, ◌*◌, ◌≤◌}
use Rattle.text.specs.PageLaws.{Leaves}
use Rattle.listing.specs.Listing.{lines_text}
use Rattle.listing.proofs.put_list.Given as goal

abbrev pub invariant-loop : goal.invariant-loop
invariant-loop l = record {
  near : l.address ≤ 8 * l.counter;
  left : Leaves l.initial.page l.page (lines_text (16384 - l.counter) l.code l.address) (lines_text 16384 l.code 0);
}
