-- What the decoder reads is in range: a field's number is below 2 ^ its width, and each format keeps to that.
use Rattle.std.specs.Prelude.{ℕ, suc, ◌-◌, ◌<◌, ◌^◌, Bool, true, false, cond, List, [], ◌∷◌, ◌≡◌, eqb, Option, None, Some, IfSome}
use Rattle.std.proofs.Common.{pow_pos, mod-lt, arith}
use Rattle.word.specs.WordLaws.{signed_mag}
use Rattle.isa.specs.Format.{Range, bits, Meaning, Format, matches, said, reading, Row, row}
use Rattle.isa.specs.Formats.{long_formats, applied, alu_formats, first_formats}
use Rattle.decoder.specs.Decode.{is_two_words, guard_of, either, slot_one, slot_two, one, two, long, decode}
use Rattle.decoder_laws.specs.Ranges.{IsPredicate, AluInRange, OperationInRange, InstructionInRange, AluInstructionInRange, InRange}
use Rattle.isa.specs.declared.AccessKind.{AccessKind}
use Rattle.isa.specs.declared.LoadWidth.{LoadWidth}
use Rattle.isa.specs.declared.AluOperation.{AluOperation}
use Rattle.isa.specs.declared.Operation.{Operation}
use Rattle.isa.specs.declared.Operation.TheVariants.{Load}
use Rattle.isa.specs.declared.Instruction.{Instruction}
use Rattle.isa.specs.declared.AluInstruction.{AluInstruction}
use Rattle.isa.specs.declared.Bundle.TheVariants.{One, Two, Long}

infixr 60 ◌also◌
-- P holds of whatever the fields say, for all numbers that fit the fields.
abbrev pub Says : {A : Type 0} → (A → Type 0) → (fs : List Range) → Meaning A fs → Type 0
Says P [] m = IfSome m P
Says P (f ∷ fs) m = (n : ℕ) → n < 2 ^ (suc f.high - f.low) → Says P fs (m n)

abbrev pub AllSay : {A : Type 0} → (A → Type 0) → List (Format A) → Type 0
AllSay P [] = Unit {0}
AllSay P (f ∷ fs) = Says P f.fields f.meaning × AllSay P fs

said_says : {A : Type 0} (P : A → Type 0) (fs : List Range) (m : Meaning A fs) (w : ℕ) → Says P fs m → IfSome (said fs m w) P
said_says P [] m w s = s
said_says P (f ∷ fs) m w s = said_says P fs (m (bits f w)) w (s (bits f w) (mod-lt _ (pow_pos _)))

pub reading_says : {A : Type 0} (P : A → Type 0) (fs : List (Format A)) (w : ℕ) → AllSay P fs → IfSome (reading fs w) P
unfolding reading
reading_says P [] w s = tt
reading_says P (f ∷ fs) w s = go (matches f.fixed w) (said_says P f.fields f.meaning w s.0) (reading_says P fs w s.1)
  where
    go : (t : Bool) → IfSome (said f.fields f.meaning w) P → IfSome (reading fs w) P
        → IfSome (cond t (said f.fields f.meaning w) (reading fs w)) P
    go true p q = p
    go false p q = q

-- The same for a row of a table: if P holds of what is made of each row.
abbrev pub AllRows : {A : Type 0} → (A → Type 0) → List (Row A) → Type 0
AllRows Q [] = Unit {0}
AllRows Q (r ∷ rs) = Q r.value × AllRows Q rs

row_says : {A B : Type 0} (P : B → Type 0) (t : List (Row A)) (n : ℕ) (make : A → Option B) → AllRows (λ a. IfSome (make a) P) t → IfSome (row t n make) P
unfolding row
row_says P [] n make s = tt
row_says P (r ∷ rs) n make s = go (eqb n r.code) s.0 (row_says P rs n make s.1)
  where
    go : (t : Bool) → IfSome (make r.value) P → IfSome (row rs n make) P → IfSome (cond t (make r.value) (row rs n make)) P
    go true p q = p
    go false p q = q

-- Where the row does not matter it is enough that P holds of what is made of any value.
each : {A : Type 0} (Q : A → Type 0) (t : List (Row A)) → ((a : A) → Q a) → AllRows Q t
each Q [] q = tt
each Q (r ∷ rs) q = (q r.value, each Q rs q)

row_each : {A B : Type 0} (P : B → Type 0) (t : List (Row A)) (n : ℕ) (make : A → Option B) → ((a : A) → IfSome (make a) P) → IfSome (row t n make) P
row_each P t n make q = row_says P t n make (each _ t q)

-- A pair, to write a list of proofs one under the other.
abbrev pub ◌also◌ : {A B : Type 0} → A → B → A × B
a also b = (a, b)

-- Each of the eighteen formats, at its fields' numbers and their bounds, in the order of the lists.
long_say : AllSay (λ f. (c : ℕ) → c < 2 ^ 32 → AluInRange (f c)) long_formats
long_say = (λ rd p rs1 q func h. row_each _ _ _ _ (λ f c r. (p, q, r))) also tt

alu_say : AllSay AluInRange alu_formats
alu_say =
    (λ func h rd p rs1 q imm r. row_each _ _ _ _ (λ f. (p, q, r))) also  -- ALUi
    (λ rd p rs1 q rs2 r func h. row_each _ _ _ _ (λ f. (p, q, r))) also  -- ALUr
    (λ pd p rs1 q rs2 r func h. row_each _ _ _ _ (λ f. (p, q, r))) also  -- ALUc
    (λ pd p ps1 q ps2 r func h. row_each _ _ _ _ (λ f. (p, omega arith, omega arith))) also  -- ALUp
    (λ rd p rs1 q imm r ps h. (p, q, r, omega arith)) also  -- ALUb
    (λ pd p rs1 q imm r func h. row_each _ _ _ _ (λ f. (p, q, r))) also  -- ALUci
    tt

first_say : AllSay OperationInRange first_formats
first_say =
    (λ rs1 p rs2 q func h. row_each _ _ _ _ (λ f. (p, q))) also  -- ALUm
    (λ rs1 p sd h. row_each _ _ _ _ (λ s. p)) also  -- SPCt
    (λ rd p ss h. row_each _ _ _ _ (λ s. p)) also  -- SPCf
    (λ rd p ra q width h kind j imm r. row_each _ _ _ _ (λ t. row_each _ _ _ _ (λ k. (p, q, r)))) also  -- LDT
    (λ width h kind j ra p rs q imm r. row_each _ _ _ _ (λ t. row_each _ _ _ _ (λ k. (p, q, r)))) also  -- STT
    (λ op h imm p. row_says _ _ _ _ (p also p also p also p also tt)) also  -- STCi
    (λ op h rs p. row_says _ _ _ _ (p also p also tt)) also  -- STCr
    (λ op h imm p. row_says _ _ _ _ (p also p also signed_mag 22 imm also signed_mag 22 imm also p also p also p also tt)) also  -- CFLi
    (λ d h op j. row_says _ _ _ _ (tt also tt also tt)) also  -- CFLri
    (λ d h rs p op j. row_says _ _ _ _ (p also p also tt)) also  -- CFLrs
    (λ d h rs1 p rs2 q op j. row_says _ _ _ _ ((p, q) also tt)) also  -- CFLrt
    tt

-- The slots, the guard and the bundle.
pub guard_in_range : (w : ℕ) → IsPredicate (guard_of w)
unfolding guard_of
guard_in_range w = omega arith

pub slot_one_in_range : (w : ℕ) → IfSome (slot_one w) OperationInRange
unfolding slot_one
slot_one_in_range w = go (reading alu_formats w) (reading first_formats w) (reading_says _ alu_formats w alu_say) (reading_says _ first_formats w first_say)
  where
    go : (a : Option AluOperation) (o : Option Operation) → IfSome a AluInRange → IfSome o OperationInRange → IfSome (either a o) OperationInRange
    go None o p q = q
    go (Some a) o p q = p

pub slot_two_in_range : (w : ℕ) → IfSome (slot_two w) AluInRange
unfolding slot_two
slot_two_in_range w = go (is_two_words w)
  where
    go : (t : Bool) → IfSome (cond t None (reading alu_formats w)) AluInRange
    go true = tt
    go false = reading_says _ alu_formats w alu_say

long_in_range : (first second : ℕ) → second < 2 ^ 32 → IfSome (applied (reading long_formats first) second) AluInRange
long_in_range first second h = go (reading long_formats first) (reading_says _ long_formats first long_say)
  where
    go : (f : Option (ℕ → AluOperation)) → IfSome f (λ f. (c : ℕ) → c < 2 ^ 32 → AluInRange (f c)) → IfSome (applied f second) AluInRange
    go None p = tt
    go (Some f) p = p second h

pub decode_in_range : (first second : ℕ) → second < 2 ^ 32 → InRange (decode first second)
unfolding decode
decode_in_range first second h =
    go
    (is_two_words first)
    (applied (reading long_formats first) second)
    (slot_one first)
    (slot_two second)
    (long_in_range first second h)
    (slot_one_in_range first)
    (slot_two_in_range second)
  where
    go : (t : Bool) (l : Option AluOperation) (o : Option Operation) (a : Option AluOperation)
        → IfSome l AluInRange → IfSome o OperationInRange → IfSome a AluInRange
        → InRange (cond t (long (guard_of first) l (two (guard_of first) o (guard_of second) a)) (one (guard_of first) o))
    go true (Some l) o a p q r = (guard_in_range first, p)
    go true None (Some o) (Some a) p q r = ((guard_in_range first, q), (guard_in_range second, r))
    go true None (Some o) None p q r = tt
    go true None None a p q r = tt
    go false l (Some o) a p q r = (guard_in_range first, q)
    go false l None a p q r = tt

-- The same by the form of the bundle.
pub one_in_range : (first second : ℕ) {i : Instruction} → second < 2 ^ 32 → decode first second ≡ One i → InstructionInRange i
one_in_range first second h e = rw e at (decode_in_range first second h)

pub two_in_range : (first second : ℕ) {i : Instruction} {j : AluInstruction} → second < 2 ^ 32
    → decode first second ≡ Two i j → InstructionInRange i × AluInstructionInRange j
two_in_range first second h e = rw e at (decode_in_range first second h)

pub long_immediate_in_range : (first second : ℕ) {i : Instruction} → second < 2 ^ 32 → decode first second ≡ Long i → InstructionInRange i
long_immediate_in_range first second h e = rw e at (decode_in_range first second h)

-- The register that a load leaves waiting.
pub load_register : (i : Instruction) {k : AccessKind} {w : LoadWidth} {rd ra n : ℕ} → InstructionInRange i → i.operation ≡ Load k w rd ra n → rd < 32
load_register i p e = (rw e at p.1).0
