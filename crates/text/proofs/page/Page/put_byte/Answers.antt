use Rattle.std.proofs.Common.{refl, lt-ltb, le-ltb}
use Rattle.text.specs.Page.{with_text}
use Rattle.text.proofs.page.Page.put_byte.Goals as goal

pub returns-then-self : goal.returns-then-self
unfolding with_text
returns-then-self c = record { same = refl; put = rw (lt-ltb _ _ c.if-self.true) refl }

pub returns-else-self : goal.returns-else-self
unfolding with_text
returns-else-self c = record { same = refl; put = rw (le-ltb _ _ c.if-self.false) refl }
