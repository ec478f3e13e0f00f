-- Laws of what the forms make, and of the numbers by which instructions are shown.
use Rattle.std.specs.Prelude.{ℕ, zero, suc, ◌+◌, ◌≤◌, ◌<◌, ◌≡◌, refl, Bool, true, false, cond, ◌&&◌, List, [], ◌∷◌, leb, ltb, length, Option, None}
use Rattle.std.proofs.Common.{sym, arith, lt-ltb, le-ltb, le-leb, leb-true, ltb-false}
use Rattle.fields.specs.Place.{at}
use Rattle.isa.specs.declared.Operation.{Operation}
use Rattle.assembly.specs.declared.Operand.{Operand}
use Rattle.assembly.specs.declared.Mnemonic.{Mnemonic}
use Rattle.assembly.specs.Forms.{forms, made}
use Rattle.making.specs.InForms.{in_forms}

-- A number that is none of n numbers from first on.
abbrev pub Apart : ℕ → ℕ → ℕ → Type 0
Apart first zero k = Unit {0}
Apart first (suc n) k = Apart first n k × (k ≡ first + n → ⊥)

behind : (first n k : ℕ) → first ≤ k → Apart first n k → first + n ≤ k
behind first zero k h a = omega arith
behind first (suc n) k h a =
    let e = behind first n k h a.0 in
    let f : k ≡ first + n → ⊥ = a.1 in
    omega arith

pub not_in_forms : (first n k : ℕ) (o : Option Operation) → Apart first n k → None ≡ in_forms first (first + n) k o
not_in_forms first n k o a = go (leb first k) refl
  where
    go : (t : Bool) → leb first k ≡ t → None ≡ cond (t && ltb k (first + n)) o None
    go false e = refl
    go true e = rw (le-ltb k (first + n) (behind first n k (leb-true first k e) a))

at_behind : {A : Type 0} (l : List A) (k : ℕ) → length l ≤ k → at l k ≡ None
at_behind [] k h = refl
at_behind (a ∷ l) zero h = absurd (omega arith)
at_behind (a ∷ l) (suc k) h = at_behind l k (omega arith)

module _ (m : Mnemonic) (a b c d : Operand) where
  made_behind : 27 ≤ m.form → made m a b c d ≡ None
  unfolding made forms
  made_behind h = rw (at_behind forms m.form h)

  pub made_within : (first last : ℕ) → first ≤ m.form → m.form < last → in_forms first last m.form (made m a b c d) ≡ made m a b c d
  made_within first last h l = rw (le-leb first m.form h, lt-ltb m.form last l)

  pub made_last : (first : ℕ) → first ≤ m.form → in_forms first 27 m.form (made m a b c d) ≡ made m a b c d
  made_last first h = rw (le-leb first m.form h) (go (ltb m.form 27) refl)
    where
      go : (t : Bool) → ltb m.form 27 ≡ t → cond t (made m a b c d) None ≡ made m a b c d
      go true e = refl
      go false e = sym (made_behind (ltb-false m.form 27 e))
