-- The items of a private line, and the marking that they make.
use Rattle.std.specs.Prelude.{ℕ, zero, suc, ◌+◌, cond, Option, Some, None, Result, Ok, Err, List, length, ltb}
use Rattle.case_words.specs.declared.Item.{Item}
use Rattle.case_file.specs.declared.Reason.{Reason}
use Rattle.case_file.specs.Arguments.{private_entry}
use Rattle.marking.specs.declared.Marking.{Marking}
use Rattle.case_kept.specs.Indices.{PRIVATE_REGISTERS, PRIVATE_PREDICATES, PRIVATE_SL, PRIVATE_SH, PRIVATE_MAIN, PRIVATE_LOCAL, PRIVATE_STACK}
use Rattle.case_kept.specs.Kept.{is_set, put, kept_flags}
use Rattle.case_notes.specs.Description.{Noted, noted, fine}

abbrev pub with_register : List ℕ → ℕ → List ℕ
with_register kept r = cond (ltb r 32) (put kept (PRIVATE_REGISTERS + r) 1) kept

abbrev pub with_predicate : List ℕ → ℕ → List ℕ
with_predicate kept p = cond (ltb p 8) (put kept (PRIVATE_PREDICATES + p) 1) kept

-- One more private item.
abbrev pub marked : List ℕ → Item → List ℕ
marked kept (Item.Register r) = with_register kept r
marked kept (Item.Predicate p) = with_predicate kept p
marked kept Item.Sl = put kept PRIVATE_SL 1
marked kept Item.Sh = put kept PRIVATE_SH 1
marked kept Item.Main = put kept PRIVATE_MAIN 1
marked kept Item.Local = put kept PRIVATE_LOCAL 1
marked kept Item.Stack = put kept PRIVATE_STACK 1

-- What an entry of a private line does: an item is marked and the line goes on after it; a mistake or the end ends it.
abbrev pub mark_entry : Result (Option (Item × ℕ)) Reason → List ℕ → (ℕ → List ℕ → Noted) → Noted
mark_entry (Ok (Some entry)) kept rest = rest entry.1 (marked kept entry.0)
mark_entry (Err r) kept rest = noted (Err r) kept
mark_entry (Ok None) kept rest = fine kept

-- At most n entries of a private line from a position on. The items before a mistake are marked.
unfoldable pub mark_from : ℕ → List ℕ → ℕ → List ℕ → Noted
mark_from zero line at kept = fine kept
mark_from (suc n) line at kept = mark_entry (private_entry line at) kept (mark_from n line)

-- A line has no more entries than bytes.
abbrev pub mark_items : List ℕ → ℕ → List ℕ → Noted
mark_items line list kept = mark_from (length line) line list kept

-- The marking of a case: what no private line names is public.
abbrev pub marking_of : List ℕ → Marking
marking_of kept = record {
  registers = kept_flags 32 kept PRIVATE_REGISTERS;
  predicates = kept_flags 8 kept PRIVATE_PREDICATES;
  sl = is_set kept PRIVATE_SL;
  sh = is_set kept PRIVATE_SH;
  main = is_set kept PRIVATE_MAIN;
  local = is_set kept PRIVATE_LOCAL;
  stack = is_set kept PRIVATE_STACK;
}
