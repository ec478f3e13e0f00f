-- The eighteen instruction formats of section 2.5, one entry to a format: the bits that it fixes, its fields in the order of its
-- figure, its bits without a meaning, which are ignored, and what the fields' numbers say, taken in the same order.
-- Bit 31 and the guard, bits 30 to 27, belong to the bundle (Decode in decoder).
use Rattle.std.specs.Prelude.{ℕ, ◌/◌, ◌%◌, Bool, List, [], ◌∷◌, eqb, Option, None, Some}
use Rattle.isa.specs.Format.{Format, format, ◌⋯◌, ◌≔◌, row}
use Rattle.isa.specs.Tables.{alu_table, multiply_table, compare_table, predicate_table, special_table, kind_table, load_table, store_table, stack_table, stack_register_table, flow_table, flow_implicit_table, flow_single_table, flow_two_table}
use Rattle.isa.specs.declared.PredicateOperand.{PredicateOperand}
use Rattle.isa.specs.declared.Op2.TheVariants.{Register, Immediate, Long}
use Rattle.isa.specs.declared.AluOperation.{AluOperation}
use Rattle.isa.specs.declared.AluOperation.TheVariants.{Arithmetic, Compare, Predicate, BitCopy}
use Rattle.isa.specs.declared.Operation.{Operation}
use Rattle.isa.specs.declared.Operation.TheVariants.{Multiply, Mts, Mfs, Load, Store, StackControl}

abbrev pub is_set : ℕ → Bool
is_set b = eqb b 1

-- Four bits that name a predicate: the upper one negates it.
abbrev pub predicate_operand : ℕ → PredicateOperand
predicate_operand n = record { negated = is_set (n / 8); predicate = n % 8 }

-- Slot one, with the second word as a constant.
abbrev pub long_formats : List (Format (ℕ → AluOperation))
long_formats =
    -- ALUl
    format (31 ⋯ 31 ≔ 0b1 ∷ 26 ⋯ 22 ≔ 0b11111 ∷ 6 ⋯ 4 ≔ 0b000 ∷ []) (21 ⋯ 17 ∷ 16 ⋯ 12 ∷ 3 ⋯ 0 ∷ []) (11 ⋯ 7 ∷ [])
    (λ rd rs1 func. row alu_table func λ f. Some (λ constant. Arithmetic f rd rs1 (Long constant))) ∷
    []

-- The second word of a long immediate is its constant.
abbrev pub applied : Option (ℕ → AluOperation) → ℕ → Option AluOperation
applied None constant = None
applied (Some f) constant = Some (f constant)

-- Either slot.
abbrev pub alu_formats : List (Format AluOperation)
alu_formats =
    -- ALUi
    format (26 ⋯ 25 ≔ 0b00 ∷ []) (24 ⋯ 22 ∷ 21 ⋯ 17 ∷ 16 ⋯ 12 ∷ 11 ⋯ 0 ∷ []) []
    (λ func rd rs1 imm. row alu_table func λ f. Some (Arithmetic f rd rs1 (Immediate imm))) ∷
    -- ALUr
    format (26 ⋯ 22 ≔ 0b01000 ∷ 6 ⋯ 4 ≔ 0b000 ∷ []) (21 ⋯ 17 ∷ 16 ⋯ 12 ∷ 11 ⋯ 7 ∷ 3 ⋯ 0 ∷ []) []
    (λ rd rs1 rs2 func. row alu_table func λ f. Some (Arithmetic f rd rs1 (Register rs2))) ∷
    -- ALUc
    format (26 ⋯ 22 ≔ 0b01000 ∷ 6 ⋯ 4 ≔ 0b011 ∷ []) (19 ⋯ 17 ∷ 16 ⋯ 12 ∷ 11 ⋯ 7 ∷ 3 ⋯ 0 ∷ []) (21 ⋯ 20 ∷ [])
    (λ pd rs1 rs2 func. row compare_table func λ f. Some (Compare f pd rs1 (Register rs2))) ∷
    -- ALUp
    format (26 ⋯ 22 ≔ 0b01000 ∷ 6 ⋯ 4 ≔ 0b100 ∷ []) (19 ⋯ 17 ∷ 15 ⋯ 12 ∷ 10 ⋯ 7 ∷ 3 ⋯ 0 ∷ []) (21 ⋯ 20 ∷ 16 ⋯ 16 ∷ 11 ⋯ 11 ∷ [])
    (λ pd ps1 ps2 func. row predicate_table func λ f. Some (Predicate f pd (predicate_operand ps1) (predicate_operand ps2))) ∷
    -- ALUb
    format (26 ⋯ 22 ≔ 0b01000 ∷ 6 ⋯ 4 ≔ 0b101 ∷ []) (21 ⋯ 17 ∷ 16 ⋯ 12 ∷ 11 ⋯ 7 ∷ 3 ⋯ 0 ∷ []) []
    (λ rd rs1 imm ps. Some (BitCopy rd rs1 imm (predicate_operand ps))) ∷
    -- ALUci
    format (26 ⋯ 22 ≔ 0b01000 ∷ 6 ⋯ 4 ≔ 0b110 ∷ []) (19 ⋯ 17 ∷ 16 ⋯ 12 ∷ 11 ⋯ 7 ∷ 3 ⋯ 0 ∷ []) (21 ⋯ 20 ∷ [])
    (λ pd rs1 imm func. row compare_table func λ f. Some (Compare f pd rs1 (Immediate imm))) ∷
    []

-- Slot one only.
abbrev pub first_formats : List (Format Operation)
first_formats =
    -- ALUm
    format (26 ⋯ 22 ≔ 0b01000 ∷ 6 ⋯ 4 ≔ 0b010 ∷ []) (16 ⋯ 12 ∷ 11 ⋯ 7 ∷ 3 ⋯ 0 ∷ []) (21 ⋯ 17 ∷ [])
    (λ rs1 rs2 func. row multiply_table func λ f. Some (Multiply f rs1 rs2)) ∷
    -- SPCt
    format (26 ⋯ 22 ≔ 0b01001 ∷ 6 ⋯ 4 ≔ 0b010 ∷ []) (16 ⋯ 12 ∷ 3 ⋯ 0 ∷ []) (21 ⋯ 17 ∷ 11 ⋯ 7 ∷ [])
    (λ rs1 sd. row special_table sd λ s. Some (Mts s rs1)) ∷
    -- SPCf
    format (26 ⋯ 22 ≔ 0b01001 ∷ 6 ⋯ 4 ≔ 0b011 ∷ []) (21 ⋯ 17 ∷ 3 ⋯ 0 ∷ []) (16 ⋯ 7 ∷ [])
    (λ rd ss. row special_table ss λ s. Some (Mfs rd s)) ∷
    -- LDT
    format (26 ⋯ 22 ≔ 0b01010 ∷ []) (21 ⋯ 17 ∷ 16 ⋯ 12 ∷ 11 ⋯ 9 ∷ 8 ⋯ 7 ∷ 6 ⋯ 0 ∷ []) []
    (λ rd ra width kind imm. row load_table width λ t. row kind_table kind λ k. Some (Load k t rd ra imm)) ∷
    -- STT
    format (26 ⋯ 22 ≔ 0b01011 ∷ []) (21 ⋯ 19 ∷ 18 ⋯ 17 ∷ 16 ⋯ 12 ∷ 11 ⋯ 7 ∷ 6 ⋯ 0 ∷ []) []
    (λ width kind ra rs imm. row store_table width λ t. row kind_table kind λ k. Some (Store k t ra rs imm)) ∷
    -- STCi
    format (26 ⋯ 22 ≔ 0b01100 ∷ 19 ⋯ 18 ≔ 0b00 ∷ []) (21 ⋯ 20 ∷ 17 ⋯ 0 ∷ []) []
    (λ op imm. row stack_table op λ f. Some (StackControl (f imm))) ∷
    -- STCr
    format (26 ⋯ 22 ≔ 0b01100 ∷ 19 ⋯ 18 ≔ 0b01 ∷ []) (21 ⋯ 20 ∷ 16 ⋯ 12 ∷ []) (17 ⋯ 17 ∷ 11 ⋯ 0 ∷ [])
    (λ op rs. row stack_register_table op λ f. Some (StackControl (f rs))) ∷
    -- CFLi
    format (26 ⋯ 25 ≔ 0b10 ∷ []) (24 ⋯ 22 ∷ 21 ⋯ 0 ∷ []) []
    (λ op imm. row flow_table op λ f. Some (f imm)) ∷
    -- CFLri
    format (26 ⋯ 23 ≔ 0b1100 ∷ 3 ⋯ 2 ≔ 0b00 ∷ []) (22 ⋯ 22 ∷ 1 ⋯ 0 ∷ []) (21 ⋯ 4 ∷ [])
    (λ d op. row flow_implicit_table op λ f. Some (f (is_set d))) ∷
    -- CFLrs
    format (26 ⋯ 23 ≔ 0b1100 ∷ 3 ⋯ 2 ≔ 0b01 ∷ []) (22 ⋯ 22 ∷ 16 ⋯ 12 ∷ 1 ⋯ 0 ∷ []) (21 ⋯ 17 ∷ 11 ⋯ 4 ∷ [])
    (λ d rs op. row flow_single_table op λ f. Some (f (is_set d) rs)) ∷
    -- CFLrt
    format (26 ⋯ 23 ≔ 0b1100 ∷ 3 ⋯ 2 ≔ 0b10 ∷ []) (22 ⋯ 22 ∷ 16 ⋯ 12 ∷ 11 ⋯ 7 ∷ 1 ⋯ 0 ∷ []) (21 ⋯ 17 ∷ 6 ⋯ 4 ∷ [])
    (λ d rs1 rs2 op. row flow_two_table op λ f. Some (f (is_set d) rs1 rs2)) ∷
    []
