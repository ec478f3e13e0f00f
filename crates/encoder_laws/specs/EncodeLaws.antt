-- Writing a bundle and decoding it: the decoder reads back what is written, every bundle that it gives can be written, and what is
-- refused is what no words decode to.
use Rattle.std.specs.Prelude.{ℕ, ◌<◌, ◌^◌, Bool, true, false, cond, ◌↔◌, ◌≡◌, refl, Option, None, Some, IfSome, Ok, Err}
use Rattle.std.proofs.lemmas.Option.{none-some}
use Rattle.std.proofs.Common.{sym, ap, ◌∙◌, subst, arith}
use Rattle.answers.specs.declared.Refusal.{Refusal}
use Rattle.answers.specs.declared.Refusal.TheVariants as refusal
use Rattle.isa.specs.Format.{reading}
use Rattle.isa.specs.Formats.{alu_formats}
use Rattle.decoder.specs.Decode.{is_two_words, slot_two, decode}
use Rattle.encoder.specs.Encode.{either_slot, constant_of, slot_word, long_word, written, Written}
use Rattle.encoder_laws.specs.SlotLaws.{by_words, by_decode, long_of, alu_read, slot_read, long_read, alu_written, slot_written, long_written}
use Rattle.isa.specs.declared.PredicateOperand.{PredicateOperand}
use Rattle.isa.specs.declared.AluOperation.{AluOperation}
use Rattle.isa.specs.declared.Operation.TheVariants.{Alu}
use Rattle.isa.specs.declared.Instruction.{Instruction}
use Rattle.isa.specs.declared.AluInstruction.{AluInstruction}
use Rattle.isa.specs.declared.Bundle.{Bundle}
use Rattle.isa.specs.declared.Bundle.TheVariants as bundle
use Rattle.encoder.specs.declared.CodeWords.TheVariants.{One, Two}

-- The words that are written decode to the bundle: one word whatever stands after it.
abbrev pub Decodes : Written → Bundle → Type 0
Decodes (Ok (One w)) b = (second : ℕ) → decode w second ≡ b
Decodes (Ok (Two w v)) b = decode w v ≡ b
Decodes (Err n) b = Unit {0}

one_decodes : (i : Instruction) (w s : ℕ) → slot_word 0 i.guard i.operation ≡ Some w → decode w s ≡ bundle.One i
unfolding decode
one_decodes i w s e = let r = slot_read 0 i.guard i.operation w e in rw (r.length, r.guard, r.operation) refl

two_decodes : (i : Instruction) (j : AluInstruction) (w v : ℕ)
    → slot_word 1 i.guard i.operation ≡ Some w → slot_word 0 j.guard (Alu j.operation) ≡ Some v → decode w v ≡ bundle.Two i j
unfolding decode slot_two
two_decodes i j w v e f =
    let r = slot_read 1 i.guard i.operation w e in
    let s = slot_read 0 j.guard (Alu j.operation) v f in
    rw (r.length, r.not_long, r.guard, r.operation, s.length, s.guard, alu_read 0 j.guard j.operation v f) refl

long_decodes : (g : PredicateOperand) (a : AluOperation) (w n : ℕ) → long_word g (Some a) ≡ Some w → constant_of (Some a) ≡ Some n
    → decode w n ≡ long_of g (Alu a)
unfolding decode
long_decodes g a w n e c = let r = long_read g a n w e c in rw (r.length, r.operation, r.guard) refl

pub written_decodes : (b : Bundle) → Decodes (written b) b
written_decodes = by_words (λ b x. Decodes x b) (λ b. tt) (λ i w e s. one_decodes i w s e) two_decodes long_decodes

-- Every bundle that the decoder gives has words.
abbrev pub IsWords : Written → Type 0
IsWords (Ok (One w)) = Unit {0}
IsWords (Ok (Two w v)) = Unit {0}
IsWords (Err n) = ⊥

pub slot_two_reads : (w : ℕ) (a : AluOperation) → slot_two w ≡ Some a → reading alu_formats w ≡ Some a
unfolding slot_two
slot_two_reads w a = go (is_two_words w)
  where
    go : (t : Bool) → cond t None (reading alu_formats w) ≡ Some a → reading alu_formats w ≡ Some a
    go true e = absurd (none-some a e)
    go false e = e

pub decoded_written : (first second : ℕ) → (decode first second ≡ bundle.Undecodable → ⊥) → IsWords (written (decode first second))
unfolding written
decoded_written first second = by_decode (λ t b. (b ≡ bundle.Undecodable → ⊥) → IsWords (written b)) first second
    (λ t d. absurd (d refl))
    (λ a e d. let v = long_written first second a e in rw (v.1, v.2) tt)
    (λ o a p f g d.
    let v = slot_written 1 first o (omega arith) f in
    let u = alu_written 0 second a (omega arith) (slot_two_reads second a g) in
    rw (v.1, u.1) tt)
    (λ o p f d. let v = slot_written 0 first o (omega arith) f in rw v.1 tt)

-- The fixed form of two words: what they decode to, written. The fixed form decodes to the same, and is its own fixed form.
unfoldable pub fixed_form : ℕ → ℕ → Written
fixed_form first second = written (decode first second)

pub fixed_form_same : (first second : ℕ) → Decodes (fixed_form first second) (decode first second)
unfolding fixed_form
fixed_form_same first second = written_decodes (decode first second)

abbrev pub Again : Written → Type 0
Again (Ok (One w)) = (s : ℕ) → fixed_form w s ≡ Ok (One w)
Again (Ok (Two w v)) = fixed_form w v ≡ Ok (Two w v)
Again (Err n) = Unit {0}

pub fixed_form_again : (first second : ℕ) → Again (fixed_form first second)
unfolding fixed_form
fixed_form_again first second = go (fixed_form first second) refl (fixed_form_same first second)
  where
    go : (x : Written) → written (decode first second) ≡ x → Decodes x (decode first second) → Again x
    go (Ok (One w)) e d = λ s. ap written (d s) ∙ e
    go (Ok (Two w v)) e d = ap written d ∙ e
    go (Err n) e d = tt

-- A refusal is 12, and what is refused is what no two words decode to. (Undecodable words decode to `Undecodable`, which has no words.)
abbrev IsTwelve : Written → Type 0
IsTwelve (Ok (One w)) = Unit {0}
IsTwelve (Ok (Two w v)) = Unit {0}
IsTwelve (Err r) = r ≡ refusal.NoWords

pub refused_twelve : (b : Bundle) (r : Refusal) → written b ≡ Err r → r ≡ refusal.NoWords
refused_twelve b n e = subst IsTwelve e (by_words (λ b x. IsTwelve x) (λ b. refl) (λ i w e. tt) (λ i j w v e f. tt) (λ g a w n e f. tt) b)

pub refused_iff : (b : Bundle) → (b ≡ bundle.Undecodable → ⊥) → ((written b ≡ Err refusal.NoWords) ↔ ((w v : ℕ) → decode w v ≡ b → ⊥))
refused_iff b d = (no_words, λ n. go n (written b) refl (written_decodes b))
  where
    no_words : written b ≡ Err refusal.NoWords → (w v : ℕ) → decode w v ≡ b → ⊥
    no_words e w v q = subst IsWords (ap written q ∙ e) (decoded_written w v (λ u. d (sym q ∙ u)))

    go : ((w v : ℕ) → decode w v ≡ b → ⊥) → (x : Written) → written b ≡ x → Decodes x b → written b ≡ Err refusal.NoWords
    go n (Ok (One w)) e q = absurd (n w 0 (q 0))
    go n (Ok (Two w v)) e q = absurd (n w v q)
    go n (Err m) e q = e ∙ ap Err (refused_twelve b m e)

-- What is written are words: below 2 ^ 32, if the constant of a long immediate is.
abbrev pub ConstantBelow : Bundle → Type 0
ConstantBelow bundle.Undecodable = Unit {0}
ConstantBelow (bundle.One i) = Unit {0}
ConstantBelow (bundle.Two i j) = Unit {0}
ConstantBelow (bundle.Long i) = IfSome (constant_of (either_slot i.operation)) (λ n. n < 2 ^ 32)

abbrev pub Below : Type 0 → Written → Type 0
Below P (Ok (One w)) = w < 2 ^ 32
Below P (Ok (Two w v)) = (w < 2 ^ 32) × (P → v < 2 ^ 32)
Below P (Err n) = Unit {0}

pub written_below : (b : Bundle) → Below (ConstantBelow b) (written b)
written_below = by_words (λ b x. Below (ConstantBelow b) x) (λ b. tt)
    (λ i w e. (slot_read 0 i.guard i.operation w e).word)
    (λ i j w v e f. ((slot_read 1 i.guard i.operation w e).word, λ p. (slot_read 0 j.guard (Alu j.operation) v f).word))
    (λ g a w n e f. ((long_read g a n w e f).word, λ p. subst (λ (o : Option ℕ). IfSome o (λ n. n < 2 ^ 32)) f p))
