-- Laws of operands: what a field is by its first byte and the rest.
use Rattle.std.specs.Prelude.{ℕ, ◌-◌, ◌^◌, ◌≡◌, refl, None, Err, cond, List, [], ◌∷◌, length, drop, take, get_or, eqb}
use Prim.Native.Char.{code}
use Rattle.std.proofs.Common.{ap, ◌∙◌, sub-one, arith}
use Rattle.std.proofs.Math.Seq.{take-length}
use Rattle.text.specs.Number.{decimal_of}
use Rattle.text.specs.Page.{Page, with_byte, with_text}
use Rattle.case_file.specs.declared.Reason.TheVariants.{NotAPredicate}
use Rattle.assembly.specs.Operands.{plain, negation, up_to, opposite, signed_number, or_why, lettered, predicate_read}

-- A field without its first byte.
abbrev pub rest : List ℕ → List ℕ
rest s = take (length s - 1) (drop 1 s)

rest_cons : (c : ℕ) (s : List ℕ) → rest (c ∷ s) ≡ s
rest_cons c s = rw (sub-one, take-length s)

pub signed_none : (s : List ℕ) → length s ≡ 0 → None ≡ signed_number s
unfolding signed_number
signed_none [] e = refl
signed_none (c ∷ s) e = absurd (omega arith)

pub signed_some : (s : List ℕ) → (length s ≡ 0 → ⊥)
    → signed_number s ≡ cond (eqb (get_or s 0 0) (code "-")) (opposite (up_to (2 ^ 31) (decimal_of (rest s)))) (up_to (2 ^ 31 - 1) (decimal_of s))
unfolding signed_number
signed_some [] h = absurd (h refl)
signed_some (c ∷ s) h = rw (rest_cons c s)

pub predicate_none : (s : List ℕ) (next : ℕ) → length s ≡ 0 → Err NotAPredicate ≡ predicate_read s next
unfolding predicate_read
predicate_none [] next e = refl
predicate_none (c ∷ s) next e = absurd (omega arith)

pub predicate_some : (s : List ℕ) (next : ℕ) → (length s ≡ 0 → ⊥)
    → predicate_read s next ≡ cond (eqb (get_or s 0 0) (code "!"))
    (or_why NotAPredicate negation (lettered (code "p") (rest s)) next)
    (or_why NotAPredicate plain (lettered (code "p") s) next)
unfolding predicate_read
predicate_some [] next h = absurd (h refl)
predicate_some (c ∷ s) next h = rw (rest_cons c s)

-- A byte and a text put one after the other are put as one.
pub byte_then : (p q r : Page) (b : ℕ) (t : List ℕ) → q ≡ with_byte p b → r ≡ with_text q t → r ≡ with_text p (b ∷ t)
unfolding with_text
byte_then p q r b t e f = f ∙ ap (λ (x : Page). with_text x t) e
