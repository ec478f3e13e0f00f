-- Sections put one after the other.
use Rattle.std.specs.Prelude.{ℕ, ◌+◌, ◌-◌, ◌*◌, ◌<◌, ◌≤◌, min, Bool, true, false, List, [], ◌∷◌, ◌++◌, ◌≡◌, refl, length, get_or, take, drop, leb}
use Rattle.std.proofs.Common.{sym, ap, ◌∙◌, add-one, arith, leb-true, leb-false, le-leb, length-append, length-take, drop_of_length-le, drop-cons, take_all}
use Rattle.big_endian.specs.Bytes.{put_word}
use Rattle.sections.specs.Words.{bytes_of, put_words}
use Rattle.sections.specs.WordLaws.{bytes_length, put_append, put_over}
use Rattle.sections.specs.Sections.{section, joined}
use Rattle.sections.specs.SectionLaws.{joined_append}
use Rattle.method_cache.specs.Words.{held_in}
use Rattle.stack_cache.specs.Stack.{is_cache_size}
use Rattle.products.specs.declared.Products.{Products}
use Rattle.core_state.specs.declared.WaitingTransfer.{WaitingTransfer}
use Rattle.core_state.specs.declared.WaitingLoad.{WaitingLoad}
use Rattle.record_model.specs.Record.{Box, transfer_section, load_section, product_section, record_sections, record_words, record_of, longest}
use Rattle.record_model.specs.PartLaws.{transfer_few, load_few, products_few}
use Rattle.record_parts.specs.declared.Few.{Few}
use Rattle.record_parts.specs.Few.{few_of, Holds, holds}
use Rattle.record_model.proofs.RecordLaws.{record_long}
use Rattle.record.specs.Written.{Put, written_of, writing}

-- A turn of the loop over the words, and its end.
pub put_next : (bytes : List ℕ) (a i : ℕ) (ws : List ℕ) → i < length ws
    → put_words (put_word bytes a (get_or ws i 0)) (a + 4) (drop (i + 1) ws) ≡ put_words bytes a (drop i ws)
unfolding put_words
put_next bytes a i ws p =
    ap (λ (k : ℕ). put_words (put_word bytes a (get_or ws i 0)) (a + 4) (drop k ws)) (add-one i) ∙ sym (ap (put_words bytes a) (drop-cons ws i 0 p))

pub put_none : (bytes : List ℕ) (a i : ℕ) (ws : List ℕ) → length ws ≤ i → put_words bytes a (drop i ws) ≡ bytes
unfolding put_words
put_none bytes a i ws p = ap (put_words bytes a) (drop_of_length-le ws p)

-- One section.
append_none : (l : List ℕ) → l ++ [] ≡ l
append_none [] = refl
append_none (x ∷ l) = ap (λ (m : List ℕ). x ∷ m) (append_none l)

pub put_one : (before after : List ℕ) (at end : ℕ) (ws : List ℕ) → after ≡ put_words (put_word before at (length ws)) (at + 4) ws → end ≡ at + 4 + 4 * length ws
    → Put before after at end (ws ∷ [])
unfolding put_words joined
put_one before after at end ws e n =
    record {
      bytes = e ∙ sym (ap (put_words before at) (append_none (section ws)));
      there = n ∙ omega (arith, ap length (append_none (section ws)));
    }

-- Sections behind others.
pub put_then : {before middle after : List ℕ} {at mid end : ℕ} (ws vs : List (List ℕ)) → Put before middle at mid ws → Put middle after mid end vs
    → Put before after at end (ws ++ vs)
put_then {before} {middle} {after} {at} {mid} {end} ws vs p q =
    let e = joined_append ws vs in
    record {
      bytes =
          q.bytes
          ∙ (λ i. put_words (p.bytes i) (p.there i) (joined vs))
          ∙ sym (put_append before at (joined ws) (joined vs))
          ∙ sym (ap (put_words before at) e);
      there = q.there ∙ omega (arith, p.there, ap length e, length-append (joined ws) (joined vs));
    }

-- How many words sections have with their counts, and where they end.
abbrev total : List (List ℕ) → ℕ
total [] = 0
total (w ∷ ws) = 1 + length w + total ws

joined_total : (ws : List (List ℕ)) → length (joined ws) ≡ total ws
unfolding joined
joined_total [] = refl
joined_total (w ∷ ws) = omega (arith, length-append w (joined ws), joined_total ws)

pub put_end : {before after : List ℕ} {at end : ℕ} (ws : List (List ℕ)) → Put before after at end ws → end ≡ at + 4 * total ws
put_end ws p = p.there ∙ omega (arith, joined_total ws)

pub few_end : {before after : List ℕ} {at end : ℕ} (n : ℕ) (ws : List ℕ) → n ≤ 6 → Put before after at end (take n ws ∷ []) → end ≤ at + 28
few_end n ws few p = omega (arith, put_end (take n ws ∷ []) p, length-take n ws, few)

-- Of the words of the blocks held, those that the first one counts.
pub held_part : (w : List ℕ) (n : ℕ) → length w ≡ 17 → n ≡ min (get_or w 0 0) 16 → take (1 + n - 1) (drop 1 w) ≡ held_in w
unfolding held_in
held_part [] n long e = absurd (omega (arith, long))
held_part (k ∷ w) n long e = go (leb k 16) refl
  where
    sixteen : length w ≡ 16
    sixteen = omega (arith, long)

    go : (t : Bool) → leb k 16 ≡ t → take (1 + n - 1) w ≡ take k w
    go true f = let m : 1 + n - 1 ≡ k = omega (arith, e, leb-true k 16 f) in ap (λ (j : ℕ). take j w) m
    go false f =
        let m = leb-false k 16 f in
        take_all (1 + n - 1) w (omega (arith, e, sixteen, m)) ∙ sym (take_all k w (omega (arith, sixteen, m)))

-- A record that was put whole, where there is room for the longest one.
pub put_whole : (p : Box) (out after : List ℕ) (end : ℕ) → Put out after 0 end (record_sections p) → length p.state.registers ≡ 32 → length p.state.further.held ≤ 16
    → is_cache_size (length p.cache) ≡ true → longest (length p.cache) ≤ length out → written_of end after ≡ writing p out
unfolding writing record_of
put_whole p out after end q registers few size room =
    let long = record_long p registers few in
    let n = bytes_length (record_words p) in
    let there : end ≡ length (bytes_of (record_words p)) = q.there ∙ omega (arith, n) in
    let fits : 4 * length (record_words p) ≤ length out = omega (arith, room, n, long) in
    rw (size, le-leb (longest (length p.cache)) (length out) room) (λ i. written_of (there i) ((q.bytes ∙ put_over out (record_words p) fits) i))

-- What waits and what is under way has few words.
pub transfer_holds : (r : Few) (t : WaitingTransfer) → r ≡ few_of (transfer_section t) → Holds r (transfer_section t)
transfer_holds r t e = holds r (transfer_section t) e (omega (arith, transfer_few t))

pub load_holds : (r : Few) (l : WaitingLoad) → r ≡ few_of (load_section l) → Holds r (load_section l)
load_holds r l e = holds r (load_section l) e (omega (arith, load_few l))

pub products_holds : (r : Few) (p : Products) → r ≡ few_of (product_section p) → Holds r (product_section p)
products_holds r p e = holds r (product_section p) e (products_few p)
