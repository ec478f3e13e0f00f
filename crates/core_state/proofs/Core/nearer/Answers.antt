use borrow.Author.Tests.{eq-eqb, ne_eqb, le-leb, lt-leb}
use mathlib.Core.Path.{◌∙◌}
use Rattle.core_state.specs.Core.{nearer_words}
use Rattle.core_state.specs.CoreLaws.{no_transfer, some_transfer}
use Rattle.core_state.proofs.WordLaws.{one_nearer}
use borrow.Author.Rules.{rules}
use Rattle.core_state.proofs.Core.nearer.Goals as goal

pub returns-then-waiting-eq0 : goal.returns-then-waiting-eq0
unfolding nearer_words
returns-then-waiting-eq0 c = let w = c.go_on.ensures in record { state = λ rs ps. w.state rs ps ∙ rw (no_transfer c.args.waiting c.if-waiting-eq0.true); transfer = w.transfer ∙ rw (eq-eqb _ _ c.if-waiting-eq0.true); load = w.load; products = w.products }

pub returns-then-waiting-le1 : goal.returns-then-waiting-le1
unfolding nearer_words
returns-then-waiting-le1 c = let w = c.transfer.ensures in record { state = λ rs ps. w.state rs ps ∙ rw (some_transfer c.args.waiting c.if-waiting-eq0.false, le-leb _ _ c.if-waiting-le1.true, c.transfer_in.ensures); transfer = w.transfer ∙ rw (ne_eqb _ _ c.if-waiting-eq0.false, le-leb _ _ c.if-waiting-le1.true); load = w.load; products = w.products }

pub returns : goal.returns
unfolding nearer_words
returns c = let w = c.go_on-2.ensures in record { state = λ rs ps. w.state rs ps ∙ rw (some_transfer c.args.waiting c.if-waiting-eq0.false, lt-leb _ _ c.if-waiting-le1.false, c.one_less.ensures, one_nearer c.args.waiting c.if-waiting-eq0.false); transfer = w.transfer ∙ rw (c.one_less.ensures, ne_eqb _ _ c.if-waiting-eq0.false, lt-leb _ _ c.if-waiting-le1.false); load = w.load; products = w.products }
