-- Laws of the rules: what the rows of the table have in common, and that a bundle keeps the rules if it breaks none.
use Rattle.std.specs.Prelude.{Bool, true, false, ◌||◌, ◌≡◌, refl}
use Rattle.std.proofs.lemmas.Bool.{false≢true, not-true, not-false}
use Rattle.std.proofs.Common.{sym}
use Rattle.isa.specs.declared.AluOperation.{AluOperation}
use Rattle.isa.specs.declared.AluOperation.TheVariants.{Arithmetic, Compare, Predicate, BitCopy}
use Rattle.isa.specs.declared.StackOperation.{StackOperation}
use Rattle.isa.specs.declared.StackOperation.TheVariants.{Sres, Sens, Sfree, Sspill}
use Rattle.isa.specs.declared.Target.{Target}
use Rattle.isa.specs.declared.Target.TheVariants.{Call, CallRegister, Br, BrRegister, Brcf, BrcfRegister, Ret}
use Rattle.isa.specs.declared.Operation.TheVariants.{Alu, StackControl, Transfer}
use Rattle.isa.specs.declared.Bundle.{Bundle}
use Rattle.marking.specs.declared.Marking.{Marking}
use Rattle.marking_rules.specs.declared.Rule.{Rule}
use Rattle.marking_rules.specs.declared.Rule.TheVariants.{A, B, C, D, E}
use Rattle.marking_rules.specs.Rules.{of_result, controlling, asked, breaks, keeps}

-- Of an ALU operation only B asks, and of stack control and of a transfer only A and E.
pub alu_row_lem : (m : Marking) (o : AluOperation) → asked m (Alu o) ≡ of_result (asked m (Alu o)).destination (asked m (Alu o)).source
unfolding asked
alu_row_lem m (Arithmetic f rd a o) = refl
alu_row_lem m (Compare f pd a o) = refl
alu_row_lem m (Predicate f pd p q) = refl
alu_row_lem m (BitCopy rd a bit p) = refl

pub stack_row : (m : Marking) (o : StackOperation) → asked m (StackControl o) ≡ controlling (asked m (StackControl o)).operand
unfolding asked
stack_row m (Sres n) = refl
stack_row m (Sens a) = refl
stack_row m (Sfree n) = refl
stack_row m (Sspill a) = refl

-- Delayed or not.
pub transfer_row : (m : Marking) (d : Bool) (t : Target) → asked m (Transfer d t) ≡ controlling (asked m (Transfer true t)).operand
unfolding asked
transfer_row m d (Call n) = refl
transfer_row m d (CallRegister r) = refl
transfer_row m d (Br z) = refl
transfer_row m d (BrRegister r) = refl
transfer_row m d (Brcf n) = refl
transfer_row m d (BrcfRegister b o) = refl
transfer_row m d Ret = refl

-- A bundle that keeps the rules breaks none, and one that does not breaks some.
pub keeps_each : (m : Marking) (b : Bundle) → keeps m b ≡ true → (r : Rule) → breaks m b r ≡ false
unfolding keeps
keeps_each m b e = go (breaks m b A) (breaks m b B) (breaks m b C) (breaks m b D) (breaks m b E) refl refl refl refl refl (not-true _ e)
  where
    go : (x y z u v : Bool) → breaks m b A ≡ x → breaks m b B ≡ y → breaks m b C ≡ z → breaks m b D ≡ u → breaks m b E ≡ v
        → x || (y || (z || (u || v))) ≡ false → (r : Rule) → breaks m b r ≡ false
    go false false false false false i j k l n f A = i
    go false false false false false i j k l n f B = j
    go false false false false false i j k l n f C = k
    go false false false false false i j k l n f D = l
    go false false false false false i j k l n f E = n
    go true y z u v i j k l n f r = absurd (false≢true (sym f))
    go false true z u v i j k l n f r = absurd (false≢true (sym f))
    go false false true u v i j k l n f r = absurd (false≢true (sym f))
    go false false false true v i j k l n f r = absurd (false≢true (sym f))
    go false false false false true i j k l n f r = absurd (false≢true (sym f))

pub breaks_some : (m : Marking) (b : Bundle) → keeps m b ≡ false → (r : Rule) × (breaks m b r ≡ true)
unfolding keeps
breaks_some m b e = go (breaks m b A) (breaks m b B) (breaks m b C) (breaks m b D) (breaks m b E) refl refl refl refl refl (not-false _ e)
  where
    go : (x y z u v : Bool) → breaks m b A ≡ x → breaks m b B ≡ y → breaks m b C ≡ z → breaks m b D ≡ u → breaks m b E ≡ v
        → x || (y || (z || (u || v))) ≡ true → (r : Rule) × (breaks m b r ≡ true)
    go true y z u v i j k l n f = (A, i)
    go false true z u v i j k l n f = (B, j)
    go false false true u v i j k l n f = (C, k)
    go false false false true v i j k l n f = (D, l)
    go false false false false true i j k l n f = (E, n)
    go false false false false false i j k l n f = absurd (false≢true f)
