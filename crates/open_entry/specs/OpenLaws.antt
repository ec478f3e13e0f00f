-- A box that was opened for C goes on: a step or a run from the record that was written does what it does from the opened state.
use Prim.Native.Nat.{ℕ, zero, suc, ◌-◌, ◌<◌, ◌≤◌, ◌^◌}
use Rattle.std.specs.Prelude.{Bool, not, cond, ◌≡◌, ltb, take, replicate, Ok, Err}
use Rattle.std.proofs.Math.Bool.{true, false}
use Rattle.std.proofs.lemmas.Bool.{false≢true}
use mathlib.Core.List.{List, [], ◌∷◌, ◌++◌}
use Rattle.std.proofs.Math.Path.{refl, sym, ap}
use Rattle.std.proofs.Common.{subst, ◌∙◌, arith, length-append}
use borrow.Author.Tests.{ltb-true, lt-ltb, le-ltb, le-leb}
use Rattle.std.proofs.Math.Dec.{leb}
use Rattle.std.proofs.Math.ListN.{length, drop, length-replicate}
use Rattle.std.proofs.Math.Seq.{take-append_seam}
use Rattle.answers.specs.declared.Refusal.{Refusal}
use Rattle.answers.specs.Refusal.{number}
use Rattle.stack_cache.specs.Stack.{is_cache_size}
use Rattle.word.specs.Word.{is_multiple_of4}
use Rattle.word.specs.BoolLaws.{and_right}
use Rattle.answers.specs.Answer.{accepted, refused}
use Rattle.sections.specs.Words.{AreWords, over}
use Rattle.sections.specs.Sections.{joined}
use Rattle.settings.specs.Settings.{admits}
use Rattle.settings.specs.SettingsLaws.{code_small, size_ok, words_small, area_inside, main_small}
use Rattle.settings.specs.Setup.{Setup, Buffers, buffers, settings}
use Rattle.alu_effects.specs.AluEffects.{predicates_word}
use Rattle.replay.specs.Replay.{replay_ok}
use Rattle.core_state.specs.State.{State, predicates_of, fresh, blank}
use Rattle.bundle_model.specs.Counts.{no_counts}
use Rattle.bundle_model.specs.Bundle.{Outcome, outcome}
use Rattle.state.specs.declared.Opened.{Opened}
use Rattle.state.specs.Whole.{state_of}
use Rattle.state.specs.Open.{Open, open_of, open_with, returned, entry_ok, opening}
use Rattle.state.specs.OpenLaws.{fresh_shaped, fresh_well_formed}
use Rattle.record_model.specs.Record.{Box, box, record_sections, record_of, transfer_section, load_section, product_section, count_section, replay_section, longest, InWords}
use Rattle.record.specs.Written.{Written, written_of, writing}
use Rattle.resume_model.specs.Resume.{Resumed, as_found, handed_out, from_record}
use Rattle.resume_model.proofs.ResumeLaws.{from_box}
use Rattle.entries.specs.Entries.{answer_number, called_of, called}
use Rattle.open_entry.specs.OpenEntry.{opened_record}

-- Words behind words, and sections of words.
none_words : AreWords []
none_words i = omega arith

more_words : (n : ℕ) (l : List ℕ) → n < 2 ^ 32 → AreWords l → AreWords (n ∷ l)
more_words n l p q zero = p
more_words n l p q (suc i) = q i

append_words : (l m : List ℕ) → AreWords l → AreWords m → AreWords (l ++ m)
append_words [] m p q = q
append_words (n ∷ l) m p q = more_words n (l ++ m) (p 0) (append_words l m (λ i. p (suc i)) q)

zero_words : (n : ℕ) → AreWords (replicate n 0)
zero_words zero = none_words
zero_words (suc n) = more_words 0 (replicate n 0) (omega arith) (zero_words n)

section_words : (ws : List ℕ) (others : List (List ℕ)) → length ws ≤ 512 → AreWords ws → AreWords (joined others) → AreWords (joined (ws ∷ others))
unfolding joined
section_words ws others n p q = more_words (length ws) (ws ++ joined others) (omega (arith, n)) (append_words ws (joined others) p q)

-- The box of a fresh state: all its numbers are words.
module _ (x : Setup) (w entry : ℕ) (main local : List ℕ) where
  abbrev fresh_state : State
  fresh_state = fresh (length x.code) x.hi entry

  abbrev fresh_box : Box
  fresh_box = box fresh_state (replicate w 0) no_counts

  fresh_words : w ≤ 512 → length x.code ≤ 65536 → x.hi ≤ 65536 → entry ≤ 65536 → InWords fresh_box
  unfolding record_sections fresh predicates_of predicates_word transfer_section load_section product_section count_section replay_section joined
  fresh_words small code hi at =
      let one : (k : ℕ) (l : List ℕ) → k ≤ 65536 → AreWords l → AreWords (k ∷ l) = λ k l p q. more_words k l (omega (arith, p)) q in
      let rest : ℕ → List (List ℕ) = λ k. drop k (record_sections fresh_box) in
      section_words (entry ∷ entry ∷ []) (rest 1) (omega arith) (one entry (entry ∷ []) at (one entry [] at none_words))
      (section_words (replicate 32 0) (rest 2) (omega arith) (zero_words 32)
      (section_words (1 ∷ []) (rest 3) (omega arith) (one 1 [] (omega arith) none_words)
      (section_words (0 ∷ 0 ∷ x.hi ∷ x.hi ∷ 0 ∷ length x.code ∷ 0 ∷ 0 ∷ []) (rest 4) (omega arith)
      (append_words (replicate 2 0) (x.hi ∷ x.hi ∷ 0 ∷ length x.code ∷ 0 ∷ 0 ∷ []) (zero_words 2)
      (one x.hi (x.hi ∷ 0 ∷ length x.code ∷ 0 ∷ 0 ∷ []) hi (one x.hi (0 ∷ length x.code ∷ 0 ∷ 0 ∷ []) hi
      (one 0 (length x.code ∷ 0 ∷ 0 ∷ []) (omega arith) (one (length x.code) (0 ∷ 0 ∷ []) code (zero_words 2))))))
      (section_words (replicate w 0) (rest 5) (omega (arith, length-replicate {A = ℕ} w 0, small)) (zero_words w)
      (section_words [] (rest 6) (omega arith) none_words
      (section_words [] (rest 7) (omega arith) none_words
      (section_words [] (rest 8) (omega arith) none_words
      (section_words (replicate 12 0) (rest 9) (omega arith) (zero_words 12)
      (section_words [] (rest 10) (omega arith) none_words
      (section_words (replicate 3 0) [] (omega arith) (zero_words 3) none_words))))))))))

  -- What is written of a box that was opened; and what goes on from it, a step or a run, under the same settings and with any output that has
  -- room, over any list and table that 15 lets pass. Code and memories may have been filled since.
  abbrev judged : List ℕ → Bool → Bool → Bool → Resumed
  judged out t u v =
      cond (not t) (as_found 1 main local out)
      (cond u (as_found 14 main local out)
      (cond (not v) (as_found 2 main local out) (handed_out (outcome accepted fresh_state no_counts (buffers main local (replicate w 0))) out)))

  pub opened_goes_on : (go : State → Buffers → Outcome) (y : Setup) (main' local' out next : List ℕ) → (opened_record x w entry main local out).answer ≡ accepted
      → settings y (length main') (length local') w ≡ settings x (length main) (length local) w → longest w ≤ length next → replay_ok y.list y.table ≡ true
      → let r = opened_record x w entry main local out in
      from_record go y w (take r.written r.out) main' local' next ≡ handed_out (go fresh_state (buffers main' local' (replicate w 0))) next
  unfolding opened_record
  opened_goes_on go y main' local' out next e same room replayed =
      by (admits (settings x (length main) (length local) w)) (ltb (length out) (longest w)) (entry_ok (length x.code) entry) refl refl e
    where
      by : (t u v : Bool) → admits (settings x (length main) (length local) w) ≡ t → entry_ok (length x.code) entry ≡ v → (judged out t u v).answer ≡ accepted
          → from_record go y w (take (judged out t u v).written (judged out t u v).out) main' local' next ≡ handed_out (go fresh_state (buffers main' local' (replicate w 0))) next
      by false u v p q f = absurd (false≢true cc)
      by true true v p q f = absurd (false≢true cc)
      by true false false p q f = absurd (false≢true cc)
      by true false true p q f =
          let g = settings x (length main) (length local) w in
          let long : length (replicate {A = ℕ} w 0) ≡ w = length-replicate w 0 in
          let code = code_small g p in
          let inside = ltb-true entry (length x.code) (and_right (is_multiple_of4 entry) (ltb entry (length x.code)) q) in
          let words = fresh_words (words_small g p) code (omega (arith, area_inside g p, main_small g p)) (omega (arith, inside, code)) in
          ap (λ (l : List ℕ). from_record go y w l main' local' next) (take-append_seam (record_of fresh_box) (drop (length (record_of fresh_box)) out))
          ∙ ap (λ (k : ℕ). from_record go y k (record_of fresh_box) main' local' next) (sym long)
          ∙ from_box go y fresh_box main' local' next words (fresh_shaped (length x.code) x.hi entry) (fresh_well_formed y (length x.code) x.hi entry)
          (subst (λ (k : ℕ). admits (settings y (length main') (length local') k) ≡ true) (sym long) (ap admits same ∙ p)) (subst (λ (k : ℕ). longest k ≤ length next) (sym long) room) replayed

-- What the function for C finds out on its way: settings that are refused, no room, and what the opening over c, with W words, left as l.
module _ (x : Setup) (w entry : ℕ) (main local out : List ℕ) where
  abbrev given : Resumed
  given = opened_record x w entry main local out

  pub not_admitted : admits (settings x (length main) (length local) w) ≡ false → called_of 1 main local out ≡ called given
  unfolding opened_record answer_number
  not_admitted e = rw e

  pub no_room : admits (settings x (length main) (length local) w) ≡ true → length out < longest w → called_of 14 main local out ≡ called given
  unfolding opened_record answer_number
  no_room e h = rw (e, lt-ltb (length out) (longest w) h)

  module _ (c l : List ℕ) (r : Opened) (long : length c ≡ w) (e : open_with r l ≡ opening x (buffers main local c) entry)
      (a : admits (settings x (length main) (length local) w) ≡ true) (room : longest w ≤ length out) where
    abbrev found : Bool → Open
    found v = cond (not v) (open_of (refused 2) blank c) (open_of accepted (fresh (length x.code) x.hi entry) (replicate (length c) 0))

    opens : open_with r l ≡ found (entry_ok (length x.code) entry)
    unfolding opening
    opens = e ∙ rw (ap (λ (k : ℕ). admits (settings x (length main) (length local) k)) long ∙ a) refl

    abbrev handed : Bool → Resumed
    handed v =
        cond (not v) (as_found 2 main local out)
        (handed_out (outcome accepted (fresh (length x.code) x.hi entry) no_counts (buffers main local (replicate w 0))) out)

    hands : handed (entry_ok (length x.code) entry) ≡ given
    unfolding opened_record
    hands = rw (a, le-ltb (length out) (longest w) room) refl

    pub not_opened : (n : Refusal) → r.answer ≡ Err n → called_of (number n) main local out ≡ called given
    unfolding answer_number
    not_opened n f = go (entry_ok (length x.code) entry) opens ∙ ap called hands
      where
        go : (v : Bool) → open_with r l ≡ found v → called_of (number n) main local out ≡ called (handed v)
        go true h = let z : refused (number n) ≡ accepted = sym (ap returned f) ∙ ap (λ (o : Open). o.answer) h in absurd (false≢true cc)
        go false h = let z : refused (number n) ≡ refused 2 = sym (ap returned f) ∙ ap (λ (o : Open). o.answer) h in let same : number n ≡ 2 = cc in ap (λ (k : ℕ). called_of k main local out) same

    pub is_opened : (n : ℕ) (after : List ℕ) → r.answer ≡ Ok tt → written_of n after ≡ writing (box (state_of r.state) l no_counts) out → called_of 0 main local after ≡ called given
    unfolding answer_number writing
    is_opened n after f put = go (entry_ok (length x.code) entry) opens ∙ ap called hands
      where
        go : (v : Bool) → open_with r l ≡ found v → called_of 0 main local after ≡ called (handed v)
        go false h = let z : accepted ≡ refused 2 = sym (ap returned f) ∙ ap (λ (o : Open). o.answer) h in absurd (false≢true cc)
        go true h =
            let p : Box = box (fresh (length x.code) x.hi entry) (replicate w 0) no_counts in
            let same : box (state_of r.state) l no_counts ≡ p = ap (λ (o : Open). box o.state o.cache no_counts) h ∙ ap (λ (k : ℕ). box (fresh (length x.code) x.hi entry) (replicate k 0) no_counts) long in
            let many : length (replicate {A = ℕ} w 0) ≡ w = length-replicate w 0 in
            let size : is_cache_size (length p.cache) ≡ true = ap is_cache_size many ∙ size_ok (settings x (length main) (length local) w) a in
            let fits : leb (longest (length p.cache)) (length out) ≡ true = ap (λ (k : ℕ). leb (longest k) (length out)) many ∙ le-leb (longest w) (length out) room in
            let whole : written_of n after ≡ written_of (length (record_of p)) (over out (record_of p)) = put ∙ ap (λ (q : Box). writing q out) same ∙ rw (size, fits) refl in
            ap (λ (y : Written). called_of 0 main local y.out) whole

-- A part from the beginning of an array is, after it was written over, what was written.
pub part_again : (l m : List ℕ) (w : ℕ) → length l ≡ w → take (w - 0) (l ++ m) ≡ l
part_again l m w p = let e : w - 0 ≡ length l = omega (arith, p) in ap (λ (k : ℕ). take k (l ++ m)) e ∙ take-append_seam l m

pub part_fits : (l m : List ℕ) (w : ℕ) → length l ≡ w → w ≤ length (l ++ m)
part_fits l m w p = omega (arith, p, length-append l m)
