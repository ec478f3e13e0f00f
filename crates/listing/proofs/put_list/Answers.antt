use Rattle.std.specs.Prelude.{◌-◌}
use Rattle.std.proofs.Common.{arith}
use Rattle.text.specs.PageLaws.{puts_then, leaves_less, leaves_none}
use Rattle.listing.specs.Listing.{list_text}
use Rattle.listing.specs.ListingLaws.{lines_over, lines_out, lines_more}
use Rattle.listing.proofs.put_list.Goals as goal

pub returns-then-code-address : goal.returns-then-code-address
unfolding list_text
returns-then-code-address c = let l = c.loop in
    puts_then _ _ _ _ _ c.put.ensures (leaves_none _ _ _ _ l.invariant.left (lines_over (16384 - l.counter) _ l.address c.if-code-address.true))

pub loop-preserved : goal.loop-preserved
loop-preserved c = let l = c.loop in record {
  near = omega (arith, l.invariant.near, c.following-address.ensures.1);
  left = leaves_less _ _ _ _ _ _ _ l.invariant.left (lines_more _ _ _ _ _ (omega (arith, c.loop-test.true)) c.following-address.ensures.0 c.if-code-address.false) c.put_line.ensures;
}

pub returns : goal.returns
unfolding list_text
returns c = let l = c.loop in
    puts_then _ _ _ _ _ c.put.ensures (leaves_none _ _ _ _ l.invariant.left (lines_out (16384 - l.counter) _ l.address (omega (arith, c.loop-test.false))))
