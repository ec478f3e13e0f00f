use mathlib.Core.Path.{◌∙◌}
use Rattle.core_state.specs.Core.{begun_words}
use Rattle.core_state.proofs.WordLaws.{transfer_back}
use Rattle.core_state.proofs.Core.begin.Goals as goal

pub returns-then-delayed : goal.returns-then-delayed
unfolding begun_words
returns-then-delayed c =
    let w = c.go_on.ensures in
    let t = c.transfer_waits.ensures in
    record {
      state = λ rs ps. w.state rs ps ∙ rw (c.if-delayed.true, t, transfer_back _, c.delay_slots-wait.ensures);
      transfer = w.transfer ∙ t ∙ rw (c.if-delayed.true, c.delay_slots-wait.ensures);
      load = w.load;
      products = w.products;
    }

pub returns : goal.returns
unfolding begun_words
returns c = let w = c.transfer.ensures in record { state = λ rs ps. rw (c.if-delayed.false, ← w.state rs ps); transfer = w.transfer ∙ rw c.if-delayed.false; load = w.load; products = w.products }
