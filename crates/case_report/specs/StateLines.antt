-- The lines of a report on a state, which is among the kept numbers.
use Rattle.std.specs.Prelude.{ℕ, ◌+◌, ◌*◌, min, cond, ◌||◌, List, [], ◌∷◌, ◌++◌, take, drop, eqb}
use Prim.Native.Char.{code}
use Rattle.case_words.specs.Names.{bytes}
use Rattle.case_kept.specs.Indices.{FETCH, REGISTERS, PREDICATES, SPECIALS, TRANSFER, BR, CALL, BLOCK, XRET, TARGET, LOAD, LOADED, PRODUCTS, PRODUCT, METHOD, HOLDS, HELD, REPLAYS, ACTIVE, PLACE}
use Rattle.case_kept.specs.Kept.{kept_number, is_set}
use Rattle.case_report.specs.Form.{filled}

-- The waiting transfer as a file has it.
unfoldable pub transfer_line : List ℕ → List ℕ
transfer_line kept =
    cond (eqb (kept_number kept TRANSFER) BR) (filled (bytes "transfer br % %\n") (drop TARGET kept))
    (cond (eqb (kept_number kept TRANSFER) CALL) (filled (bytes "transfer call % %\n") (drop TARGET kept))
    (cond (eqb (kept_number kept TRANSFER) BLOCK) (filled (bytes "transfer block % % %\n") (drop TARGET kept))
    (cond (eqb (kept_number kept TRANSFER) XRET) (filled (bytes "transfer xret % % %\n") (drop TARGET kept))
    (bytes "transfer none\n"))))

unfoldable pub load_line : List ℕ → List ℕ
load_line kept = cond (is_set kept LOAD) (filled (bytes "load % #\n") (drop LOADED kept)) (bytes "load none\n")

-- The products under way, by rising wait. Where there is none there is no line.
unfoldable pub products_line : List ℕ → List ℕ
products_line kept =
    cond (eqb (kept_number kept PRODUCTS) 0) []
    (cond (eqb (kept_number kept PRODUCTS) 1) (filled (bytes "products % # #\n") (drop PRODUCT kept))
    (filled (bytes "products % # # % # #\n") (drop PRODUCT kept)))

-- The bases of the blocks that the method cache holds, the oldest first. The form has room for all 16, and is cut behind the last.
unfoldable pub held_bases : List ℕ → ℕ → List ℕ
held_bases kept n =
    cond (eqb n 0) (bytes "held none\n")
    (filled (take (4 + 2 * n) (bytes "held % % % % % % % % % % % % % % % %")) (drop (HELD + 1) kept) ++ (code "\n" ∷ []))

-- There is a line only in a case that says something of the method cache.
unfoldable pub held_line : List ℕ → List ℕ
held_line kept = cond (is_set kept METHOD || is_set kept HOLDS) (held_bases kept (min (kept_number kept HELD) 16)) []

-- The list place and the bundles done in the replay. There is a line while a handler is active, and in a case that says something of
-- the replay.
unfoldable pub replay_line : List ℕ → List ℕ
replay_line kept =
    cond (is_set kept ACTIVE) (filled (bytes "replay active place % done %\n") (drop PLACE kept))
    (cond (is_set kept REPLAYS) (filled (bytes "replay idle place % done %\n") (drop PLACE kept)) [])

-- What waits, what is under way, what is held, and where the replay is.
unfoldable pub waiting_text : List ℕ → List ℕ
waiting_text kept = transfer_line kept ++ (load_line kept ++ (products_line kept ++ (held_line kept ++ replay_line kept)))

-- All lines on the state, each with the numbers that are kept from an index on.
unfoldable pub state_text : List ℕ → List ℕ
state_text kept =
    filled (bytes "fetch % base %\n") (drop FETCH kept)
    ++ (filled (bytes "regs # # # # # # # # # # # # # # # # # # # # # # # # # # # # # # # #\n") (drop REGISTERS kept)
    ++ (filled (bytes "preds % % % % % % % %\n") (drop PREDICATES kept)
    ++ (filled (bytes "specials sl # sh # ss # st # srb # sro # sxb # sxo #\n") (drop SPECIALS kept)
    ++ waiting_text kept)))
