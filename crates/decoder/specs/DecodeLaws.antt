-- What those who use the decoder need of its definition.
use Rattle.std.specs.Prelude.{ℕ, Bool, true, false, cond, ◌≡◌, refl, Option, None, Some}
use Rattle.std.proofs.Common.{ap, arith}
use Rattle.isa.specs.Format.{reading}
use Rattle.isa.specs.Formats.{long_formats, applied}
use Rattle.decoder.specs.Decode.{is_two_words, bundle_words, guard_of, slot_one, slot_two, one, two, long, decode}
use Rattle.isa.specs.declared.AluOperation.{AluOperation}
use Rattle.isa.specs.declared.Operation.{Operation}
use Rattle.isa.specs.declared.Instruction.{Instruction}
use Rattle.isa.specs.declared.AluInstruction.{AluInstruction}
use Rattle.isa.specs.declared.Bundle.{Bundle}
use Rattle.isa.specs.declared.Bundle.TheVariants.{Undecodable, One, Two, Long}

-- The number of words tells whether there are two.
pub words_one : (first : ℕ) → bundle_words first ≡ 1 → is_two_words first ≡ false
unfolding bundle_words
words_one first = go (is_two_words first)
  where
    go : (t : Bool) → ◌≡◌ {A = ℕ} (cond t 2 1) 1 → t ≡ false
    go true e = absurd (omega arith)
    go false e = refl

pub words_two : (first : ℕ) → (bundle_words first ≡ 1 → ⊥) → is_two_words first ≡ true
unfolding bundle_words
words_two first = go (is_two_words first)
  where
    go : (t : Bool) → (◌≡◌ {A = ℕ} (cond t 2 1) 1 → ⊥) → t ≡ true
    go true e = refl
    go false e = absurd (e refl)

-- A bundle of one word does not depend on the word after it.
pub decode_alone : (first s t : ℕ) → bundle_words first ≡ 1 → decode first s ≡ decode first t
unfolding decode
decode_alone first s t e = rw (words_one first e)

-- What is decoded, by whether it is a long immediate.
pub decode_by_long : (first second : ℕ) (r : Option AluOperation) → cond (is_two_words first) (applied (reading long_formats first) second) None ≡ r
    → decode first second ≡ long (guard_of first) r (cond (is_two_words first) (two (guard_of first) (slot_one first) (guard_of second) (slot_two second)) (one (guard_of first) (slot_one first)))
unfolding decode
decode_by_long first second r = go (is_two_words first)
  where
    go : (t : Bool) → cond t (applied (reading long_formats first) second) None ≡ r
        → cond t (long (guard_of first) (applied (reading long_formats first) second) (two (guard_of first) (slot_one first) (guard_of second) (slot_two second))) (one (guard_of first) (slot_one first))
        ≡ long (guard_of first) r (cond t (two (guard_of first) (slot_one first) (guard_of second) (slot_two second)) (one (guard_of first) (slot_one first)))
    go true e = ap (λ (x : Option AluOperation). long (guard_of first) x (two (guard_of first) (slot_one first) (guard_of second) (slot_two second))) e
    go false e = ap (λ (x : Option AluOperation). long (guard_of first) x (one (guard_of first) (slot_one first))) e

pub either_way : (t : Bool) (b : Bundle) → cond t b b ≡ b
either_way true b = refl
either_way false b = refl

-- The number of words that a decoded bundle has. Of an undecodable one nothing is said.
abbrev pub HasWords : ℕ → Bundle → Type 0
HasWords n Undecodable = Unit {0}
HasWords n (One i) = n ≡ 1
HasWords n (Two i j) = n ≡ 2
HasWords n (Long i) = n ≡ 2

pub decode_words : (first second : ℕ) → HasWords (bundle_words first) (decode first second)
unfolding decode bundle_words
decode_words first second = go (is_two_words first) (applied (reading long_formats first) second) (slot_one first) (slot_two second)
  where
    go : (t : Bool) (l : Option AluOperation) (o : Option Operation) (a : Option AluOperation)
        → HasWords (cond t 2 1) (cond t (long (guard_of first) l (two (guard_of first) o (guard_of second) a)) (one (guard_of first) o))
    go true (Some l) o a = refl
    go true None (Some o) (Some a) = refl
    go true None (Some o) None = tt
    go true None None a = tt
    go false l (Some o) a = refl
    go false l None a = tt

-- The same by the form of the bundle.
pub decode_one_words : (first second : ℕ) {i : Instruction} → decode first second ≡ One i → bundle_words first ≡ 1
decode_one_words first second e = rw e at (decode_words first second)

pub decode_two_words : (first second : ℕ) {i : Instruction} {j : AluInstruction} → decode first second ≡ Two i j → bundle_words first ≡ 2
decode_two_words first second e = rw e at (decode_words first second)

pub decode_long_words : (first second : ℕ) {i : Instruction} → decode first second ≡ Long i → bundle_words first ≡ 2
decode_long_words first second e = rw e at (decode_words first second)
