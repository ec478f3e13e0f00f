-- Laws of words in bytes: bytes and words are each other's, the words of a part, and words put one after the other.
use Rattle.std.specs.Prelude.{ℕ, zero, suc, ◌+◌, ◌-◌, ◌*◌, ◌/◌, ◌%◌, ◌^◌, ◌<◌, ◌≤◌, Bool, true, false, List, [], ◌∷◌, ◌++◌, ◌≡◌, refl, ltb, length, get_or, take, drop, set, replicate}
use Rattle.std.proofs.Common.{append_assoc, sym, ap, ◌∙◌, arith, add-zero, zero-add, add_assoc, ltb-true, ltb-false, length-drop, length-append, length-take-le, get_or-take, get_or-drop, drop-drop, drop_at}
use Rattle.std.proofs.Math.Nat.{div-div-eq-div-mul}
use Rattle.std.proofs.Math.Arith.{digits_div, digits_mod}
use Rattle.std.proofs.Math.ListN.{get_or-append, get_or-eq_default}
use Rattle.big_endian.specs.Bytes.{word_at, put_number, put_word}
use Rattle.big_endian.specs.BytesLaws.{number_4, put_4, number_same, number_put, number_bound, length_put_number}
use Rattle.sections.specs.Words.{bytes_of, words_from, words_in, AreBytes, AreWords, put_words, over}

-- The four bytes of a word, and the word in any four.
put_four : (w : ℕ) → put_word (replicate 4 0) 0 w ≡ w / 16777216 % 256 ∷ w / 65536 % 256 ∷ w / 256 % 256 ∷ w % 256 ∷ []
put_four w = put_4 (replicate 4 0) 0 w

word_put : (w : ℕ) (l : List ℕ) → w < 2 ^ 32 → word_at (put_word (replicate 4 0) 0 w ++ l) 0 ≡ w
word_put w l h =
    let f = put_word (replicate 4 0) 0 w in
    let n : length f ≡ 4 = length_put_number 4 (replicate 4 0) 0 w in
    number_same 4 (f ++ l) f 0 (λ i p q. get_or-append f l 0 i (omega (arith, n, q)))
    ∙ number_put 4 (replicate 4 0) 0 w (omega arith)
    ∙ omega (arith, h)

put_digits : (a b c d : ℕ) → a < 256 → b < 256 → c < 256 → d < 256
    → put_word (replicate 4 0) 0 (((a * 256 + b) * 256 + c) * 256 + d) ≡ a ∷ b ∷ c ∷ d ∷ []
put_digits a b c d ha hb hc hd =
    let w = ((a * 256 + b) * 256 + c) * 256 + d in
    let e1 : w / 256 ≡ (a * 256 + b) * 256 + c = digits_div ((a * 256 + b) * 256 + c) hd in
    let e2 : w / 65536 ≡ a * 256 + b = sym (div-div-eq-div-mul w 256 256) ∙ ap (λ (n : ℕ). n / 256) e1 ∙ digits_div (a * 256 + b) hc in
    let e3 : w / 16777216 ≡ a = sym (div-div-eq-div-mul w 65536 256) ∙ ap (λ (n : ℕ). n / 256) e2 ∙ digits_div a hb in
    let e4 : a % 256 ≡ a = omega (arith, ha) in
    put_four w ∙ (λ i. (ap (λ (n : ℕ). n % 256) e3 ∙ e4) i
    ∷ (ap (λ (n : ℕ). n % 256) e2 ∙ digits_mod a hb) i
    ∷ (ap (λ (n : ℕ). n % 256) e1 ∙ digits_mod (a * 256 + b) hc) i
    ∷ digits_mod ((a * 256 + b) * 256 + c) hd i
    ∷ [])

pub bytes_length : (ws : List ℕ) → length (bytes_of ws) ≡ 4 * length ws
unfolding bytes_of
bytes_length [] = refl
bytes_length (w ∷ ws) = rw (put_four w) (omega (arith, bytes_length ws))

-- Words are found again in their bytes, and bytes that are whole words are those of the words in them.
pub words_of_bytes : (ws : List ℕ) → AreWords ws → words_from (length ws) (bytes_of ws) ≡ ws
unfolding bytes_of words_from
words_of_bytes [] h = refl
words_of_bytes (w ∷ ws) h =
    let f = put_word (replicate 4 0) 0 w in
    let n : length f ≡ 4 = length_put_number 4 (replicate 4 0) 0 w in
    λ i. word_put w (bytes_of ws) (h 0) i ∷ (ap (words_from (length ws)) (drop_at f (bytes_of ws) 4 n) ∙ words_of_bytes ws (λ j. h (suc j))) i

pub words_again : (ws : List ℕ) → AreWords ws → words_in (bytes_of ws) ≡ ws
unfolding words_in
words_again ws h =
    let n : length (bytes_of ws) / 4 ≡ length ws = omega (arith, bytes_length ws) in
    ap (λ (k : ℕ). words_from k (bytes_of ws)) n ∙ words_of_bytes ws h

pub bytes_of_words : (k : ℕ) (l : List ℕ) → AreBytes l → length l ≡ 4 * k → bytes_of (words_from k l) ≡ l
unfolding bytes_of words_from
bytes_of_words zero [] h e = refl
bytes_of_words zero (a ∷ l) h e = absurd (omega (arith, e))
bytes_of_words (suc k) [] h e = absurd (omega (arith, e))
bytes_of_words (suc k) (a ∷ []) h e = absurd (omega (arith, e))
bytes_of_words (suc k) (a ∷ b ∷ []) h e = absurd (omega (arith, e))
bytes_of_words (suc k) (a ∷ b ∷ c ∷ []) h e = absurd (omega (arith, e))
bytes_of_words (suc k) (a ∷ b ∷ c ∷ d ∷ l) h e =
    ap (λ (w : ℕ). put_word (replicate 4 0) 0 w ++ bytes_of (words_from k l)) (number_4 (a ∷ b ∷ c ∷ d ∷ l) 0)
    ∙ ap (λ (f : List ℕ). f ++ bytes_of (words_from k l)) (put_digits a b c d (h 0) (h 1) (h 2) (h 3))
    ∙ ap (λ (m : List ℕ). a ∷ b ∷ c ∷ d ∷ m) (bytes_of_words k l (λ i. h (suc (suc (suc (suc i))))) (omega (arith, e)))

pub bytes_again : (l : List ℕ) → AreBytes l → length l % 4 ≡ 0 → bytes_of (words_in l) ≡ l
unfolding words_in
bytes_again l h e = bytes_of_words (length l / 4) l h (omega (arith, e))

-- How many words there are, the word at a place, and that each is one.
from_length : (k : ℕ) (l : List ℕ) → length (words_from k l) ≡ k
unfolding words_from
from_length zero l = refl
from_length (suc k) l = ap suc (from_length k (drop 4 l))

pub words_length : (l : List ℕ) → length (words_in l) ≡ length l / 4
unfolding words_in
words_length l = from_length (length l / 4) l

pub word_drop : (n : ℕ) (l : List ℕ) (a : ℕ) → word_at (drop n l) a ≡ word_at l (n + a)
word_drop n l a =
    number_4 (drop n l) a
    ∙ rw (get_or-drop n l a 0, get_or-drop n l (a + 1) 0, get_or-drop n l (a + 2) 0, get_or-drop n l (a + 3) 0, ← add_assoc n a 1, ← add_assoc n a 2, ← add_assoc n a 3) refl
    ∙ sym (number_4 l (n + a))

from_at : (k : ℕ) (l : List ℕ) (i : ℕ) → i < k → get_or (words_from k l) i 0 ≡ word_at l (4 * i)
unfolding words_from
from_at zero l i p = absurd (omega arith)
from_at (suc k) l zero p = refl
from_at (suc k) l (suc i) p =
    let e : 4 + 4 * i ≡ 4 * suc i = omega arith in from_at k (drop 4 l) i (omega arith) ∙ word_drop 4 l (4 * i) ∙ ap (word_at l) e

pub word_at_lem : (l : List ℕ) (i : ℕ) → i < length (words_in l) → get_or (words_in l) i 0 ≡ word_at l (4 * i)
unfolding words_in
word_at_lem l i p = from_at (length l / 4) l i (omega (arith, from_length (length l / 4) l, p))

pub are_words : (l : List ℕ) → AreBytes l → AreWords (words_in l)
are_words l h i = go (ltb i (length (words_in l))) refl
  where
    go : (t : Bool) → ltb i (length (words_in l)) ≡ t → get_or (words_in l) i 0 < 2 ^ 32
    go true e = rw (word_at_lem l i (ltb-true i (length (words_in l)) e)) (omega (arith, number_bound 4 l (4 * i) h))
    go false e = rw (get_or-eq_default (words_in l) 0 (ltb-false i (length (words_in l)) e)) (omega arith)

-- The words of a part are a part of the words.
from_drop : (a k : ℕ) (l : List ℕ) → drop a (words_from (a + k) l) ≡ words_from k (drop (4 * a) l)
unfolding words_from
from_drop zero k l = ap (λ (n : ℕ). words_from n l) (zero-add k)
from_drop (suc a) k l =
    let e : 4 + 4 * a ≡ 4 * suc a = omega arith in
    let s : suc a + k ≡ suc (a + k) = omega arith in
    ap (λ (n : ℕ). drop (suc a) (words_from n l)) s ∙ from_drop a k (drop 4 l) ∙ ap (words_from k) (drop-drop (4 * a) 4 l ∙ ap (λ (n : ℕ). drop n l) e)

pub words_drop : (a : ℕ) (l : List ℕ) → 4 * a ≤ length l → words_in (drop (4 * a) l) ≡ drop a (words_in l)
unfolding words_in
words_drop a l p =
    let k = length (drop (4 * a) l) / 4 in
    let e : a + k ≡ length l / 4 = omega (arith, length-drop (4 * a) l, p) in
    sym (from_drop a k l) ∙ ap (λ (n : ℕ). drop a (words_from n l)) e

from_take : (n k : ℕ) (l : List ℕ) → take n (words_from (n + k) l) ≡ words_from n l
unfolding words_from
from_take zero k l = refl
from_take (suc n) k l =
    let s : suc n + k ≡ suc (n + k) = omega arith in
    ap (λ (m : ℕ). take (suc n) (words_from m l)) s ∙ ap (λ (m : List ℕ). word_at l 0 ∷ m) (from_take n k (drop 4 l))

-- Bytes that are alike at the first 4 k places have the same first k words.
from_same : (k : ℕ) (l m : List ℕ) → ((i : ℕ) → i < 4 * k → get_or l i 0 ≡ get_or m i 0) → words_from k l ≡ words_from k m
unfolding words_from
from_same zero l m h = refl
from_same (suc k) l m h =
    λ i. number_same 4 l m 0 (λ j p q. h j (omega (arith, q))) i
    ∷ from_same k (drop 4 l) (drop 4 m) (λ j p. get_or-drop 4 l j 0 ∙ h (4 + j) (omega (arith, p)) ∙ sym (get_or-drop 4 m j 0)) i

pub words_take : (n : ℕ) (l : List ℕ) → 4 * n ≤ length l → words_in (take (4 * n) l) ≡ take n (words_in l)
unfolding words_in
words_take n l p =
    let k = length l / 4 - n in
    let e : n + k ≡ length l / 4 = omega (arith, p) in
    let m : length (take (4 * n) l) / 4 ≡ n = omega (arith, length-take-le (4 * n) l p) in
    ap (λ (j : ℕ). words_from j (take (4 * n) l)) m
    ∙ from_same n (take (4 * n) l) l (λ i q. get_or-take (4 * n) l i 0 q)
    ∙ sym (from_take n k l)
    ∙ ap (λ (j : ℕ). take n (words_from j l)) e

-- Words put in two goes, and words put at the beginning of bytes that have room for them.
pub put_append : (bytes : List ℕ) (a : ℕ) (xs ys : List ℕ) → put_words bytes a (xs ++ ys) ≡ put_words (put_words bytes a xs) (a + 4 * length xs) ys
unfolding put_words
put_append bytes a [] ys = ap (λ (n : ℕ). put_words bytes n ys) (sym (add-zero a))
put_append bytes a (x ∷ xs) ys =
    let e : a + 4 + 4 * length xs ≡ a + 4 * suc (length xs) = omega arith in
    put_append (put_word bytes a x) (a + 4) xs ys ∙ ap (λ (n : ℕ). put_words (put_words (put_word bytes a x) (a + 4) xs) n ys) e

-- A word put behind some bytes.
set_behind : (front : List ℕ) (rest : List ℕ) (k v : ℕ) → set (front ++ rest) (length front + k) v ≡ front ++ set rest k v
set_behind [] rest k v = ap (λ (n : ℕ). set rest n v) (zero-add k)
set_behind (x ∷ front) rest k v =
    let e : suc (length front) + k ≡ suc (length front + k) = omega arith in
    ap (λ (n : ℕ). set (x ∷ (front ++ rest)) n v) e ∙ ap (λ (l : List ℕ). x ∷ l) (set_behind front rest k v)

put_behind : (k : ℕ) (front rest : List ℕ) (w : ℕ) → put_number k (front ++ rest) (length front) w ≡ front ++ put_number k rest 0 w
unfolding put_number
put_behind zero front rest w = refl
put_behind (suc k) front rest w =
    ap (λ (l : List ℕ). set l (length front + k) (w % 256)) (put_behind k front rest (w / 256))
    ∙ set_behind front (put_number k rest 0 (w / 256)) k (w % 256)
    ∙ ap (λ (n : ℕ). front ++ set (put_number k rest 0 (w / 256)) n (w % 256)) (sym (zero-add k))

put_first : (a b c d : ℕ) (rest : List ℕ) (w : ℕ) → put_word (a ∷ b ∷ c ∷ d ∷ rest) 0 w ≡ put_word (replicate 4 0) 0 w ++ rest
put_first a b c d rest w = put_4 (a ∷ b ∷ c ∷ d ∷ rest) 0 w ∙ ap (λ (f : List ℕ). f ++ rest) (sym (put_four w))

put_front : (rest : List ℕ) (w : ℕ) → 4 ≤ length rest → put_word rest 0 w ≡ put_word (replicate 4 0) 0 w ++ drop 4 rest
put_front [] w p = absurd (omega arith)
put_front (a ∷ []) w p = absurd (omega arith)
put_front (a ∷ b ∷ []) w p = absurd (omega arith)
put_front (a ∷ b ∷ c ∷ []) w p = absurd (omega arith)
put_front (a ∷ b ∷ c ∷ d ∷ rest) w p = put_first a b c d rest w

put_from : (front rest : List ℕ) (a : ℕ) (ws : List ℕ) → a ≡ length front → 4 * length ws ≤ length rest
    → put_words (front ++ rest) a ws ≡ front ++ (bytes_of ws ++ drop (4 * length ws) rest)
unfolding put_words bytes_of
put_from front rest a [] e p = refl
put_from front rest a (w ∷ ws) e p =
    let f = put_word (replicate 4 0) 0 w in
    let n : length f ≡ 4 = length_put_number 4 (replicate 4 0) 0 w in
    let first : put_word (front ++ rest) a w ≡ (front ++ f) ++ drop 4 rest =
    ap (λ (k : ℕ). put_word (front ++ rest) k w) e ∙ put_behind 4 front rest w ∙ ap (λ (l : List ℕ). front ++ l) (put_front rest w (omega (arith, p))) ∙ sym (append_assoc front f (drop 4 rest)) in
    let there : a + 4 ≡ length (front ++ f) = omega (arith, e, length-append front f, n) in
    let left : 4 * length ws ≤ length (drop 4 rest) = omega (arith, p, length-drop 4 rest) in
    let d : 4 + 4 * length ws ≡ 4 * suc (length ws) = omega arith in
    ap (λ (l : List ℕ). put_words l (a + 4) ws) first
    ∙ put_from (front ++ f) (drop 4 rest) (a + 4) ws there left
    ∙ append_assoc front f (bytes_of ws ++ drop (4 * length ws) (drop 4 rest))
    ∙ ap (λ (l : List ℕ). front ++ (f ++ (bytes_of ws ++ l))) (drop-drop (4 * length ws) 4 rest ∙ ap (λ (k : ℕ). drop k rest) d)
    ∙ ap (λ (l : List ℕ). front ++ l) (sym (append_assoc f (bytes_of ws) (drop (4 * suc (length ws)) rest)))

pub put_over : (bytes : List ℕ) (ws : List ℕ) → 4 * length ws ≤ length bytes → put_words bytes 0 ws ≡ over bytes (bytes_of ws)
put_over bytes ws p = put_from [] bytes 0 ws refl p ∙ ap (λ (n : ℕ). bytes_of ws ++ drop n bytes) (sym (bytes_length ws))
