-- Asking for an instruction, or for two: what is refused is what no words decode to, the rules of the slots included.
use Rattle.std.specs.Prelude.{ℕ, ◌<◌, ◌^◌, ◌↔◌, ◌≡◌, refl, Option, None, Some, Ok, Err}
use mathlib.Core.List.{List, [], ◌∷◌, cons≢nil, nil≢cons, head-eq_of_cons-eq, tail-eq_of_cons-eq}
use Rattle.std.proofs.Common.{sym, ap, ap₂, ◌∙◌, subst, arith}
use Rattle.answers.specs.declared.Refusal.TheVariants as refusal
use Rattle.decoder.specs.Decode.{guard_of, decode}
use Rattle.fields.specs.Place.{writing}
use Rattle.encoder.specs.Encode.{either_slot, constant_of, in_slot, slot_word, long_word, alone, beside, written, of_length, single, beside_alu, pair, Written}
use Rattle.encoder_laws.specs.SlotLaws.{by_slot, by_decode, alu_written, slot_written, long_written}
use Rattle.encoder_laws.specs.EncodeLaws.{Decodes, written_decodes, IsWords, slot_two_reads, decoded_written, refused_twelve, refused_iff, ConstantBelow, Below, written_below}
use Rattle.isa.specs.declared.PredicateOperand.{PredicateOperand}
use Rattle.isa.specs.declared.Op2.TheVariants as op2
use Rattle.isa.specs.declared.AluOperation.{AluOperation}
use Rattle.isa.specs.declared.AluOperation.TheVariants.{Arithmetic, Compare, Predicate, BitCopy}
use Rattle.isa.specs.declared.Operation.{Operation}
use Rattle.isa.specs.declared.Operation.TheVariants.{Alu}
use Rattle.isa.specs.declared.Instruction.{Instruction}
use Rattle.isa.specs.declared.Bundle.{Bundle}
use Rattle.isa.specs.declared.Bundle.TheVariants as bundle
use Rattle.encoder.specs.declared.CodeWords.TheVariants.{One, Two}

-- The instructions of a bundle, in the order of their slots.
abbrev pub instructions_of : Bundle → List Instruction
instructions_of bundle.Undecodable = []
instructions_of (bundle.One i) = i ∷ []
instructions_of (bundle.Two i j) = i ∷ (record { guard = j.guard; operation = Alu j.operation }) ∷ []
instructions_of (bundle.Long i) = i ∷ []

pub not_undecodable : (b : Bundle) (i : Instruction) (is : List Instruction) → instructions_of b ≡ i ∷ is → b ≡ bundle.Undecodable → ⊥
not_undecodable b i is e u = cons≢nil (sym e ∙ ap instructions_of u)

-- Words that decode to one instruction decode to the bundle that is written for it: a bundle of one word has no long constant, for
-- no format of a slot holds one, and a long immediate has one.
pub no_constant : (start : Option ℕ) (o : Operation) → IsWords (alone (in_slot start o (either_slot o))) → constant_of (either_slot o) ≡ None
unfolding writing
no_constant start = by_slot (λ o x. IsWords (alone (in_slot start o x)) → constant_of x ≡ None) alu (λ o h. refl)
  where
    alu : (a : AluOperation) → IsWords (alone (in_slot start (Alu a) (Some a))) → constant_of (Some a) ≡ None
    alu (Arithmetic f rd rs1 (op2.Long n)) h = absurd h
    alu (Arithmetic f rd rs1 (op2.Immediate n)) h = refl
    alu (Arithmetic f rd rs1 (op2.Register r)) h = refl
    alu (Compare f pd rs1 o) h = refl
    alu (Predicate f pd p q) h = refl
    alu (BitCopy rd rs1 n p) h = refl

of_single : (b : Bundle) (i : Instruction) → instructions_of b ≡ i ∷ [] → IsWords (written b) → b ≡ single i
unfolding written single slot_word
of_single bundle.Undecodable i e h = absurd h
of_single (bundle.One k) i e h = ap (of_length k) (sym (no_constant _ k.operation h)) ∙ ap single (head-eq_of_cons-eq e)
of_single (bundle.Two k l) i e h = absurd (cons≢nil (tail-eq_of_cons-eq e))
of_single (bundle.Long k) i e h =
    let x = either_slot k.operation in
    go (long_word k.guard x) (constant_of x) h ∙ ap single (head-eq_of_cons-eq e)
  where
    go : (x y : Option ℕ) → IsWords (beside x y) → bundle.Long k ≡ of_length k y
    go None y h = absurd h
    go (Some w) None h = absurd h
    go (Some w) (Some n) h = refl

pub single_decoded : (w v : ℕ) (i : Instruction) → instructions_of (decode w v) ≡ i ∷ [] → decode w v ≡ single i
single_decoded w v i e = of_single (decode w v) i e (decoded_written w v (not_undecodable (decode w v) i [] e))

-- The same for two instructions.
of_pair : (b : Bundle) (i j : Instruction) → instructions_of b ≡ i ∷ j ∷ [] → b ≡ pair i j
unfolding pair
of_pair bundle.Undecodable i j e = absurd (nil≢cons e)
of_pair (bundle.One k) i j e = absurd (nil≢cons (tail-eq_of_cons-eq e))
of_pair (bundle.Two k l) i j e = ap₂ pair (head-eq_of_cons-eq e) (head-eq_of_cons-eq (tail-eq_of_cons-eq e))
of_pair (bundle.Long k) i j e = absurd (nil≢cons (tail-eq_of_cons-eq e))

pub pair_decoded : (w v : ℕ) (i j : Instruction) → instructions_of (decode w v) ≡ i ∷ j ∷ [] → decode w v ≡ pair i j
pair_decoded w v = of_pair (decode w v)

-- Every instruction that the decoder gives has words of its own, also one that stands in a pair.
abbrev pub AllWritten : List Instruction → Type 0
AllWritten [] = Unit {0}
AllWritten (i ∷ is) = IsWords (written (single i)) × AllWritten is

slot_single : (g : PredicateOperand) (o : Operation) (w : ℕ) → slot_word 0 g o ≡ Some w → IsWords (written (single (record { guard = g; operation = o })))
unfolding written single slot_word
slot_single g o w e =
    let h : IsWords (alone (slot_word 0 g o)) = subst (λ x. IsWords (alone x)) (sym e) tt in
    subst (λ x. IsWords (written (of_length (record { guard = g; operation = o }) x))) (sym (no_constant _ o h)) h

long_single : (g : PredicateOperand) (a : AluOperation) (w n : ℕ) → long_word g (Some a) ≡ Some w → constant_of (Some a) ≡ Some n
    → IsWords (written (single (record { guard = g; operation = Alu a })))
unfolding written single
long_single g a w n e c = rw (c, e, c) tt

pub instruction_written : (first second : ℕ) → AllWritten (instructions_of (decode first second))
instruction_written first second = by_decode (λ t b. AllWritten (instructions_of b)) first second
    (λ t. tt)
    (λ a e. let v = long_written first second a e in (long_single (guard_of first) a v.0 second v.1 v.2, tt))
    (λ o a p f g.
    let v = slot_written 0 first o (omega arith) f in
    let u = alu_written 0 second a (omega arith) (slot_two_reads second a g) in
    (slot_single (guard_of first) o v.0 v.1, (slot_single (guard_of second) (Alu a) u.0 u.1, tt)))
    (λ o p f. let v = slot_written 0 first o (omega arith) f in (slot_single (guard_of first) o v.0 v.1, tt))

-- 12 is answered exactly where no words decode to the instructions that were asked for.
abbrev NoWords : List Instruction → Type 0
NoWords is = (w v : ℕ) → instructions_of (decode w v) ≡ is → ⊥

asked : (b : Bundle) (i : Instruction) (is : List Instruction) → instructions_of b ≡ i ∷ is
    → ((w v : ℕ) → instructions_of (decode w v) ≡ i ∷ is → decode w v ≡ b) → ((written b ≡ Err refusal.NoWords) ↔ NoWords (i ∷ is))
asked b i is e d =
    let r = refused_iff b (not_undecodable b i is e) in
    (λ x w v q. r.0 x w v (d w v q), λ n. r.1 (λ w v q. n w v (ap instructions_of q ∙ e)))

single_instructions : (i : Instruction) → instructions_of (single i) ≡ i ∷ []
unfolding single
single_instructions i = go (constant_of (either_slot i.operation))
  where
    go : (x : Option ℕ) → instructions_of (of_length i x) ≡ i ∷ []
    go None = refl
    go (Some n) = refl

pub single_refused : (i : Instruction) → ((written (single i) ≡ Err refusal.NoWords) ↔ ((w v : ℕ) → instructions_of (decode w v) ≡ i ∷ [] → ⊥))
single_refused i = asked (single i) i [] (single_instructions i) (λ w v. single_decoded w v i)

-- What slot two cannot hold is refused too, as in `nop ; mul`: no words have it there.
pub pair_refused : (i j : Instruction) → ((written (pair i j) ≡ Err refusal.NoWords) ↔ ((w v : ℕ) → instructions_of (decode w v) ≡ i ∷ j ∷ [] → ⊥))
unfolding pair written
pair_refused i j =
    by_slot (λ o x. let k : Instruction = record { guard = j.guard; operation = o } in
    ((w v : ℕ) → instructions_of (decode w v) ≡ i ∷ k ∷ [] → decode w v ≡ beside_alu i j.guard x)
    → ((written (beside_alu i j.guard x) ≡ Err refusal.NoWords) ↔ NoWords (i ∷ k ∷ [])))
    (λ a. asked _ i _ refl)
    (λ o d. (λ x w v q. not_undecodable (decode w v) i _ q (d w v q), λ n. refl))
    j.operation (λ w v. pair_decoded w v i j)

-- A bundle that no words of 32 bits decode to is refused.
pub refused_words : (b : Bundle) → ConstantBelow b
    → ((w v : ℕ) → w < 2 ^ 32 → v < 2 ^ 32 → decode w v ≡ b → ⊥) → written b ≡ Err refusal.NoWords
refused_words b c n = go (written b) refl (written_decodes b) (written_below b)
  where
    go : (x : Written) → written b ≡ x → Decodes x b → Below (ConstantBelow b) x → written b ≡ Err refusal.NoWords
    go (Ok (One w)) e q l = absurd (n w 0 l (omega arith) (q 0))
    go (Ok (Two w v)) e q l = absurd (n w v l.0 (l.1 c) q)
    go (Err m) e q l = e ∙ ap Err (refused_twelve b m e)
