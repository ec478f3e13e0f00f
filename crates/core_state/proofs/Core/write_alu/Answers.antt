use mathlib.Core.Path.{refl}
use Rattle.core_state.specs.Writes.{write_alu}
use borrow.Author.Rules.{rules}
use Rattle.core_state.proofs.Core.write_alu.Goals as goal

pub returns-in-Nothing : goal.returns-in-Nothing
unfolding write_alu
returns-in-Nothing c = record { state = rw c.in-Nothing.is; transfer = refl; load = refl; products = refl }

pub returns-in-Register : goal.returns-in-Register
unfolding write_alu
returns-in-Register c = let w = c.write_register.ensures in record { state = rw c.in-Register.is (w.state _); transfer = w.transfer; load = w.load; products = w.products }

pub returns-in-Predicate : goal.returns-in-Predicate
unfolding write_alu
returns-in-Predicate c = let w = c.write_predicate.ensures in record { state = rw c.in-Predicate.is (w.state _); transfer = w.transfer; load = w.load; products = w.products }
