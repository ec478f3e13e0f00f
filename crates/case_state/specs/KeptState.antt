-- Parts of a state among the kept numbers of a case.
use Rattle.std.specs.Prelude.{ℕ, ◌+◌, ◌-◌, ◌%◌, Bool, false, cond, List, [], ◌∷◌, length, get_or, eqb}
use Rattle.alu_effects.specs.declared.Specials.{Specials}
use Rattle.effects.specs.declared.Transfer.{Transfer}
use Rattle.products.specs.declared.Product.{Product}
use Rattle.products.specs.declared.Products.{Products}
use Rattle.products.specs.Products.{product}
use Rattle.core_state.specs.declared.WaitingTransfer.{WaitingTransfer}
use Rattle.core_state.specs.declared.WaitingLoad.{WaitingLoad}
use Rattle.case_kept.specs.Indices.{SPECIALS, TRANSFER, TARGET, BR, CALL, BLOCK, XRET, LOAD, LOADED, REGISTERS, PREDICATES, PRODUCTS, PRODUCT, HELD}
use Rattle.case_kept.specs.Kept.{kept_number, kept_word, is_set, put, flag, kept_words, put_each}
use Rattle.case_notes.specs.Waiting.{with_transfer, with_load, with_product}

abbrev pub registers_of : List ℕ → List ℕ
registers_of kept = kept_words 32 kept REGISTERS

-- The special registers stand in the order of the report.
abbrev pub specials_of : List ℕ → Specials
specials_of kept = record {
  sl = kept_word kept SPECIALS;
  sh = kept_word kept (SPECIALS + 1);
  ss = kept_word kept (SPECIALS + 2);
  st = kept_word kept (SPECIALS + 3);
  srb = kept_word kept (SPECIALS + 4);
  sro = kept_word kept (SPECIALS + 5);
  sxb = kept_word kept (SPECIALS + 6);
  sxo = kept_word kept (SPECIALS + 7);
}

abbrev pub list_of : Specials → List ℕ
list_of s = s.sl ∷ s.sh ∷ s.ss ∷ s.st ∷ s.srb ∷ s.sro ∷ s.sxb ∷ s.sxo ∷ []

abbrev pub with_words : List ℕ → ℕ → List ℕ → List ℕ
with_words kept first words = put_each first (length words) (λ i. get_or words i 0) kept

abbrev pub with_held : List ℕ → List ℕ → List ℕ
with_held kept held = with_words kept HELD held

abbrev pub with_predicates : List ℕ → List Bool → List ℕ
with_predicates kept predicates = put_each PREDICATES 8 (λ i. flag (get_or predicates i false)) kept

-- A waiting transfer by the number of its kind, and the numbers of its line.
unfoldable pub transfer_with : ℕ → ℕ → ℕ → ℕ → WaitingTransfer
transfer_with kind a b c =
    cond (eqb kind BR) (WaitingTransfer.Waits (Transfer.Br a) b)
    (cond (eqb kind CALL) (WaitingTransfer.Waits (Transfer.Call a) b)
    (cond (eqb kind BLOCK) (WaitingTransfer.Waits (Transfer.Block a b) c)
    (cond (eqb kind XRET) (WaitingTransfer.Waits (Transfer.Xret a b) c) WaitingTransfer.Nothing)))

abbrev pub transfer_of : List ℕ → WaitingTransfer
transfer_of kept = transfer_with (kept_number kept TRANSFER) (kept_word kept TARGET) (kept_word kept (TARGET + 1)) (kept_word kept (TARGET + 2))

-- The products under way stand by rising wait. In a state the second's wait is counted from the landing of the first.
abbrev pub product_of : List ℕ → ℕ → ℕ → Product
product_of kept first wait = product wait (kept_word kept (first + 1)) (kept_word kept (first + 2))

abbrev pub wait_behind : List ℕ → ℕ
wait_behind kept = (kept_number kept (PRODUCT + 3) - kept_number kept PRODUCT) % 4294967296

unfoldable pub products_of : List ℕ → Products
products_of kept =
    let first = product_of kept PRODUCT (kept_word kept PRODUCT) in
    cond (eqb (kept_number kept PRODUCTS) 0) Products.Nothing
    (cond (eqb (kept_number kept PRODUCTS) 1) (Products.One first)
    (Products.Two first (product_of kept (PRODUCT + 3) (wait_behind kept))))

-- The blocks that the method cache holds, as a state has them: how many, and behind that room for 16 bases.
abbrev pub held_of : List ℕ → List ℕ
held_of kept = kept_words 17 kept HELD

abbrev pub load_of : List ℕ → WaitingLoad
load_of kept = cond (is_set kept LOAD) (WaitingLoad.Waits (kept_word kept LOADED) (kept_word kept (LOADED + 1))) WaitingLoad.Nothing

-- A transfer as its line in a file has it: TARGET and WAIT, or TARGET, BASE and WAIT.
abbrev pub with_target : List ℕ → Transfer → ℕ → List ℕ
with_target kept (Transfer.Br target) wait = with_transfer kept BR target wait 0
with_target kept (Transfer.Call target) wait = with_transfer kept CALL target wait 0
with_target kept (Transfer.Block target base) wait = with_transfer kept BLOCK target base wait
with_target kept (Transfer.Xret target base) wait = with_transfer kept XRET target base wait

-- Where nothing waits only the kind says so.
abbrev pub with_waiting : List ℕ → WaitingTransfer → List ℕ
with_waiting kept WaitingTransfer.Nothing = put kept TRANSFER 0
with_waiting kept (WaitingTransfer.Waits t wait) = with_target kept t wait

abbrev pub with_waiting_load : List ℕ → WaitingLoad → List ℕ
with_waiting_load kept WaitingLoad.Nothing = put kept LOAD 0
with_waiting_load kept (WaitingLoad.Waits register value) = with_load kept register value

-- The products under way: how many, and the numbers of each.
unfoldable pub with_products : List ℕ → Products → List ℕ
with_products kept Products.Nothing = put kept PRODUCTS 0
with_products kept (Products.One p) = with_product (put kept PRODUCTS 1) PRODUCT p.wait p.low p.high
with_products kept (Products.Two p q) =
    with_product (with_product (put kept PRODUCTS 2) PRODUCT p.wait p.low p.high) (PRODUCT + 3) (p.wait + q.wait) q.low q.high
