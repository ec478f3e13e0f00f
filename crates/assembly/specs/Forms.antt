-- The one table by which the text of an instruction is read and written: a form for each way to write operands.
use Rattle.std.specs.Prelude.{ℕ, zero, suc, ◌+◌, ◌-◌, ◌*◌, ◌/◌, ◌%◌, cond, List, [], ◌∷◌, ◌++◌, ltb, length, get_or, Option, None, Some}
use Prim.Native.Char.{code}
use Prim.Native.String as Text
use Rattle.word.specs.Word.{signed}
use Rattle.text.specs.Table.{table, row_text, row_of}
use Rattle.case_words.specs.Names.{bytes}
use Rattle.isa.specs.Format.{row}
use Rattle.isa.specs.Formats.{is_set}
use Rattle.isa.specs.Tables.{alu_table, multiply_table, compare_table, predicate_table, special_table, kind_table, load_table, store_table}
use Rattle.fields.specs.Place.{at}
use Rattle.assembly.specs.declared.Operand.{Operand}
use Rattle.assembly.specs.declared.Mnemonic.{Mnemonic}
use Rattle.isa.specs.declared.PredicateOperand.{PredicateOperand}
use Rattle.isa.specs.declared.Op2.TheVariants as op2
use Rattle.isa.specs.declared.AluOperation.TheVariants.{Arithmetic, Compare, Predicate, BitCopy}
use Rattle.isa.specs.declared.StackAmount.TheVariants as amount
use Rattle.isa.specs.declared.StackOperation.TheVariants.{Sres, Sens, Sfree, Sspill}
use Rattle.isa.specs.declared.Target.TheVariants.{Call, CallRegister, Br, BrRegister, Brcf, BrcfRegister, Ret}
use Rattle.isa.specs.declared.Operation.{Operation}
use Rattle.isa.specs.declared.Operation.TheVariants.{Alu, Multiply, Mts, Mfs, Load, Store, StackControl, Transfer, Trap, Xret}

-- What a mnemonic and its operands make: of the function's number and up to four operands.
abbrev pub Maker : Type 0
Maker = ℕ → Operand → Operand → Operand → Operand → Option Operation

-- Mnemonics by the number of the function, an empty one where a number is unused; the kinds of the operands, four letters: r a register,
-- p a predicate, q a predicate or its negation, s a special register, n a number, i one with a sign, w a word, and a space where there
-- is no operand; and what they make.
pub record Form : Type 0 where
  pub names : List Text.String
  pub kinds : Text.String
  pub makes : Maker

abbrev pub form : List Text.String → Text.String → Maker → Form
form names kinds makes = record { names = names; kinds = kinds; makes = makes }

abbrev pub predicate : Operand → PredicateOperand
predicate o = record { negated = o.negated; predicate = o.number }

-- The number of a function is that of its field; of a load or a store that of its type, of a transfer its bit d.
unfoldable pub forms : List Form
forms =
    -- ALUi
    form ("addi" ∷ "subi" ∷ "xori" ∷ "sli" ∷ "sri" ∷ "srai" ∷ "ori" ∷ "andi" ∷ []) "rrn "
    (λ func rd rs1 imm d. row alu_table func λ f. Some (Alu (Arithmetic f rd.number rs1.number (op2.Immediate imm.number)))) ∷
    -- ALUr
    form ("add" ∷ "sub" ∷ "xor" ∷ "sl" ∷ "sr" ∷ "sra" ∷ "or" ∷ "and" ∷ "" ∷ "" ∷ "" ∷ "nor" ∷ "shadd" ∷ "shadd2" ∷ []) "rrr "
    (λ func rd rs1 rs2 d. row alu_table func λ f. Some (Alu (Arithmetic f rd.number rs1.number (op2.Register rs2.number)))) ∷
    -- ALUl
    form ("addl" ∷ "subl" ∷ "xorl" ∷ "sll" ∷ "srl" ∷ "sral" ∷ "orl" ∷ "andl" ∷ "" ∷ "" ∷ "" ∷ "norl" ∷ "shaddl" ∷ "shadd2l" ∷ []) "rrw "
    (λ func rd rs1 word d. row alu_table func λ f. Some (Alu (Arithmetic f rd.number rs1.number (op2.Long word.number)))) ∷
    -- ALUm
    form ("mul" ∷ "mulu" ∷ []) "rr  "
    (λ func rs1 rs2 c d. row multiply_table func λ f. Some (Multiply f rs1.number rs2.number)) ∷
    -- ALUc
    form ("cmpeq" ∷ "cmpneq" ∷ "cmplt" ∷ "cmple" ∷ "cmpult" ∷ "cmpule" ∷ "btest" ∷ []) "prr "
    (λ func pd rs1 rs2 d. row compare_table func λ f. Some (Alu (Compare f pd.number rs1.number (op2.Register rs2.number)))) ∷
    -- ALUci
    form ("cmpeqi" ∷ "cmpneqi" ∷ "cmplti" ∷ "cmplei" ∷ "cmpulti" ∷ "cmpulei" ∷ "btesti" ∷ []) "prn "
    (λ func pd rs1 imm d. row compare_table func λ f. Some (Alu (Compare f pd.number rs1.number (op2.Immediate imm.number)))) ∷
    -- ALUp
    form ("" ∷ "" ∷ "" ∷ "" ∷ "" ∷ "" ∷ "por" ∷ "pand" ∷ "" ∷ "" ∷ "pxor" ∷ []) "pqq "
    (λ func pd ps1 ps2 d. row predicate_table func λ f. Some (Alu (Predicate f pd.number (predicate ps1) (predicate ps2)))) ∷
    -- ALUb
    form ("bcopy" ∷ []) "rrnq"
    (λ func rd rs1 imm ps. Some (Alu (BitCopy rd.number rs1.number imm.number (predicate ps)))) ∷
    -- SPCt
    form ("mts" ∷ []) "sr  "
    (λ func sd rs1 c d. row special_table sd.number λ s. Some (Mts s rs1.number)) ∷
    -- SPCf
    form ("mfs" ∷ []) "rs  "
    (λ func rd ss c d. row special_table ss.number λ s. Some (Mfs rd.number s)) ∷
    -- LDT
    form ("lws" ∷ "lwl" ∷ "lwc" ∷ "lwm" ∷ "lhs" ∷ "lhl" ∷ "lhc" ∷ "lhm" ∷ "lbs" ∷ "lbl" ∷ "lbc" ∷ "lbm"
    ∷ "lhus" ∷ "lhul" ∷ "lhuc" ∷ "lhum" ∷ "lbus" ∷ "lbul" ∷ "lbuc" ∷ "lbum" ∷ []) "rrn "
    (λ func rd ra imm d. row load_table (func / 4) λ w. row kind_table (func % 4) λ k. Some (Load k w rd.number ra.number imm.number)) ∷
    -- STT
    form ("sws" ∷ "swl" ∷ "swc" ∷ "swm" ∷ "shs" ∷ "shl" ∷ "shc" ∷ "shm" ∷ "sbs" ∷ "sbl" ∷ "sbc" ∷ "sbm" ∷ []) "rnr "
    (λ func ra imm rs d. row store_table (func / 4) λ w. row kind_table (func % 4) λ k. Some (Store k w ra.number rs.number imm.number)) ∷
    -- STCi
    form ("sres" ∷ []) "n   " (λ func imm b c d. Some (StackControl (Sres imm.number))) ∷
    form ("sens" ∷ []) "n   " (λ func imm b c d. Some (StackControl (Sens (amount.Words imm.number)))) ∷
    form ("sfree" ∷ []) "n   " (λ func imm b c d. Some (StackControl (Sfree imm.number))) ∷
    form ("sspill" ∷ []) "n   " (λ func imm b c d. Some (StackControl (Sspill (amount.Words imm.number)))) ∷
    -- STCr
    form ("sensr" ∷ []) "r   " (λ func rs b c d. Some (StackControl (Sens (amount.Register rs.number)))) ∷
    form ("sspillr" ∷ []) "r   " (λ func rs b c d. Some (StackControl (Sspill (amount.Register rs.number)))) ∷
    -- CFLi
    form ("callnd" ∷ "call" ∷ []) "n   " (λ delayed imm b c d. Some (Transfer (is_set delayed) (Call imm.number))) ∷
    form ("brnd" ∷ "br" ∷ []) "i   " (λ delayed imm b c d. Some (Transfer (is_set delayed) (Br (signed 32 imm.number)))) ∷
    form ("brcfnd" ∷ "brcf" ∷ []) "n   " (λ delayed imm b c d. Some (Transfer (is_set delayed) (Brcf imm.number))) ∷
    form ("trap" ∷ []) "n   " (λ func imm b c d. Some (Trap imm.number)) ∷
    -- CFLri
    form ("retnd" ∷ "ret" ∷ []) "    " (λ delayed a b c d. Some (Transfer (is_set delayed) Ret)) ∷
    form ("xretnd" ∷ "xret" ∷ []) "    " (λ delayed a b c d. Some (Xret (is_set delayed))) ∷
    -- CFLrs
    form ("callrnd" ∷ "callr" ∷ []) "r   " (λ delayed rs b c d. Some (Transfer (is_set delayed) (CallRegister rs.number))) ∷
    form ("brrnd" ∷ "brr" ∷ []) "r   " (λ delayed rs b c d. Some (Transfer (is_set delayed) (BrRegister rs.number))) ∷
    -- CFLrt
    form ("brcfrnd" ∷ "brcfr" ∷ []) "rr  " (λ delayed rs1 rs2 c d. Some (Transfer (is_set delayed) (BrcfRegister rs1.number rs2.number))) ∷
    []

-- All mnemonics as rows, one after the other, by which a mnemonic is found, and how many each form has.
abbrev pub texts : List Text.String → List (List ℕ)
texts [] = []
texts (w ∷ ws) = bytes w ∷ texts ws

unfoldable pub mnemonics : List Form → List (List ℕ)
mnemonics [] = []
mnemonics (f ∷ fs) = texts f.names ++ mnemonics fs

unfoldable pub sizes : List Form → List ℕ
sizes [] = []
sizes (f ∷ fs) = length (texts f.names) ∷ sizes fs

-- The form and the number of the function in a row, counted on from the form k; and the row of such a mnemonic.
unfoldable pub mnemonic_from : ℕ → List ℕ → ℕ → Mnemonic
mnemonic_from k [] r = record { form = k; function = r }
mnemonic_from k (n ∷ ns) r = cond (ltb r n) (record { form = k; function = r }) (mnemonic_from (k + 1) ns (r - n))

unfoldable pub start_of : List ℕ → ℕ → ℕ
start_of [] k = 0
start_of (n ∷ ns) zero = 0
start_of (n ∷ ns) (suc k) = n + start_of ns k

-- The letters of all forms, and the letter of a form's operand: a space where there is none.
unfoldable pub letters : List Form → List ℕ
letters [] = []
letters (f ∷ fs) = bytes f.kinds ++ letters fs

abbrev pub letter : ℕ → ℕ → ℕ
letter k operand = get_or (letters forms) (4 * k + operand) (code " ")

-- What the form k makes.
abbrev pub makes_in : Option Form → Maker
makes_in None func a b c d = None
makes_in (Some f) func a b c d = f.makes func a b c d

unfoldable pub made : Mnemonic → Operand → Operand → Operand → Operand → Option Operation
made m a b c d = makes_in (at forms m.form) m.function a b c d

-- All mnemonics as one table.
abbrev pub mnemonic_table : List ℕ
mnemonic_table = table (mnemonics forms)

unfoldable pub mnemonic_of : List ℕ → Mnemonic
mnemonic_of s = mnemonic_from 0 (sizes forms) (row_of mnemonic_table s)

unfoldable pub name_of : Mnemonic → List ℕ
name_of m = row_text mnemonic_table (start_of (sizes forms) m.form + m.function)
