-- The words of a record: their form, part by part; what is written of a box has it and is read as that box, and what has it is written again
-- as it was.
use Rattle.std.specs.Prelude.{ℕ, ◌+◌, ◌^◌, ◌<◌, ◌≤◌, Bool, true, ◌&&◌, ◌≡◌, refl, eqb, ltb, drop}
use mathlib.Core.List.{List, [], ◌∷◌}
use Rattle.std.proofs.Common.{sym, ◌∙◌, arith, length-append}
use Rattle.std.proofs.Math.Path.{ap, subst}
use borrow.Author.Tests.{eqb-true, leb-true, ltb-true, eq-eqb, le-leb, lt-ltb}
use Rattle.std.proofs.Math.Dec.{leb}
use Rattle.std.proofs.Math.ListN.{length, get_or}
use Rattle.word.specs.BoolLaws.{and_left, and_right}
use Rattle.sections.specs.Words.{AreWords}
use Rattle.sections.specs.Sections.{joined, is_cut, section_at}
use Rattle.sections.specs.SectionLaws.{sections_from, joined_again, joined_cut, joined_at, section_words}
use Rattle.alu_effects.specs.AluEffects.{predicates_word}
use Rattle.products.specs.Products.{products_ok}
use Rattle.core_state.specs.State.{Shaped, state, further, predicates_of}
use Rattle.record_model.specs.Record.{Box, box, specials_in, transfer_section, transfer_in, load_section, load_in, product_section, products_in, count_section, counts_of_words, replay_section, replay_in, is_transfer, is_load, are_products, record_sections, record_words, box_in, fixed_sections, small_words, free_sections, is_record}
use Rattle.record_model.specs.PartLaws.{by_places, predicates_forth, predicates_small, predicates_back, transfer_forth, transfer_is, transfer_back, load_forth, load_is, load_back, products_forth, products_are, products_back, counts_forth, counts_twelve, counts_back, replay_forth, replay_three, replay_small, replay_back}

-- The form of a record, part by part.
pub record Form (w : ℕ) (l : List ℕ) : Type 0 where
  pub cut : is_cut 11 l ≡ true
  pub flow : length (section_at 0 l) ≡ 2
  pub registers : length (section_at 1 l) ≡ 32
  pub predicates : length (section_at 2 l) ≡ 1
  pub specials : length (section_at 3 l) ≡ 8
  pub cache : length (section_at 4 l) ≡ w
  pub counts : length (section_at 8 l) ≡ 12
  pub replay : length (section_at 10 l) ≡ 3
  pub word : get_or (section_at 2 l) 0 0 < 256
  pub active : get_or (section_at 10 l) 0 0 ≤ 1
  pub transfer : is_transfer (section_at 5 l) ≡ true
  pub load : is_load (section_at 6 l) ≡ true
  pub products : are_products (section_at 7 l) ≡ true
  pub held : length (section_at 9 l) ≤ 16

module _ (w : ℕ) (l : List ℕ) where
  abbrev has : ℕ → ℕ → Bool
  has k n = eqb (length (section_at k l)) n

  abbrev word_ok : Bool
  word_ok = ltb (get_or (section_at 2 l) 0 0) 256

  abbrev active_ok : Bool
  active_ok = leb (get_or (section_at 10 l) 0 0) 1

  pub is_form : is_record w l ≡ true → Form w l
  unfolding is_record
  is_form e =
      let rest = and_right (is_cut 11 l) ((fixed_sections w l && small_words l) && free_sections l) e in
      let first = and_left (fixed_sections w l && small_words l) (free_sections l) rest in
      let free = and_right (fixed_sections w l && small_words l) (free_sections l) rest in
      let fixed = and_left (fixed_sections w l) (small_words l) first in
      let small = and_right (fixed_sections w l) (small_words l) first in
      let four = and_left ((has 0 2 && has 1 32) && (has 2 1 && has 3 8)) ((has 4 w && has 8 12) && has 10 3) fixed in
      let three = and_right ((has 0 2 && has 1 32) && (has 2 1 && has 3 8)) ((has 4 w && has 8 12) && has 10 3) fixed in
      let two = and_left (has 4 w && has 8 12) (has 10 3) three in
      let a = and_left (has 0 2 && has 1 32) (has 2 1 && has 3 8) four in
      let b = and_right (has 0 2 && has 1 32) (has 2 1 && has 3 8) four in
      let c = and_left (is_transfer (section_at 5 l) && is_load (section_at 6 l)) (are_products (section_at 7 l) && leb (length (section_at 9 l)) 16) free in
      let d = and_right (is_transfer (section_at 5 l) && is_load (section_at 6 l)) (are_products (section_at 7 l) && leb (length (section_at 9 l)) 16) free in
      record {
        cut = and_left (is_cut 11 l) ((fixed_sections w l && small_words l) && free_sections l) e;
        flow = eqb-true (length (section_at 0 l)) 2 (and_left (has 0 2) (has 1 32) a);
        registers = eqb-true (length (section_at 1 l)) 32 (and_right (has 0 2) (has 1 32) a);
        predicates = eqb-true (length (section_at 2 l)) 1 (and_left (has 2 1) (has 3 8) b);
        specials = eqb-true (length (section_at 3 l)) 8 (and_right (has 2 1) (has 3 8) b);
        cache = eqb-true (length (section_at 4 l)) w (and_left (has 4 w) (has 8 12) two);
        counts = eqb-true (length (section_at 8 l)) 12 (and_right (has 4 w) (has 8 12) two);
        replay = eqb-true (length (section_at 10 l)) 3 (and_right (has 4 w && has 8 12) (has 10 3) three);
        word = ltb-true (get_or (section_at 2 l) 0 0) 256 (and_left word_ok active_ok small);
        active = leb-true (get_or (section_at 10 l) 0 0) 1 (and_right word_ok active_ok small);
        transfer = and_left (is_transfer (section_at 5 l)) (is_load (section_at 6 l)) c;
        load = and_right (is_transfer (section_at 5 l)) (is_load (section_at 6 l)) c;
        products = and_left (are_products (section_at 7 l)) (leb (length (section_at 9 l)) 16) d;
        held = leb-true (length (section_at 9 l)) 16 (and_right (are_products (section_at 7 l)) (leb (length (section_at 9 l)) 16) d);
      }

pub form_is : (w : ℕ) (l : List ℕ) → Form w l → is_record w l ≡ true
unfolding is_record
form_is w l f =
    rw (f.cut, f.flow, f.registers, f.predicates, f.specials, eq-eqb _ _ f.cache, f.counts, f.replay, lt-ltb _ _ f.word, le-leb _ _ f.active, f.transfer, f.load, f.products, le-leb _ _ f.held) refl

-- A box that has the form of its type, and whose products are such as 11 lets pass.
pub record Formed (p : Box) : Type 0 where
  pub shaped : Shaped p.state
  pub products : products_ok p.state.further.products ≡ true
  pub held : length p.state.further.held ≤ 16

-- What is written of it has the form of a record, and is read as it.
module _ (p : Box) (f : Formed p) where
  at : (k : ℕ) → section_at k (record_words p) ≡ get_or (record_sections p) k []
  at k = joined_at (record_sections p) k

  pub read_again : box_in (record_words p) ≡ p
  unfolding box_in record_sections
  read_again =
      let s = p.state in
      let predicates = ap (λ (l : List ℕ). predicates_of 8 (get_or l 0 0)) (at 2) ∙ ap (λ (n : ℕ). predicates_of n (predicates_word s.predicates)) (sym f.shaped.predicates) ∙ predicates_forth s.predicates in
      let transfer = ap transfer_in (at 5) ∙ transfer_forth s.transfer in
      let load = ap load_in (at 6) ∙ load_forth s.load in
      let products = ap products_in (at 7) ∙ products_forth s.further.products f.products in
      let counts = ap counts_of_words (at 8) ∙ counts_forth p.counts in
      let replay = ap replay_in (at 10) ∙ replay_forth s.further.replay in
      λ i. box
      (state (at 1 i) (predicates i) (specials_in (at 3 i)) (get_or (at 0 i) 0 0) (get_or (at 0 i) 1 0) (transfer i) (load i) (further (products i) (at 9 i) (replay i)))
      (at 4 i)
      (counts i)

  pub written_form : Form (length p.cache) (record_words p)
  unfolding record_sections
  written_form =
      let s = p.state in
      let small : predicates_word s.predicates < 256 = subst (λ (n : ℕ). predicates_word s.predicates < 2 ^ n) f.shaped.predicates (predicates_small s.predicates) in
      record {
        cut = joined_cut (record_sections p);
        flow = ap length (at 0);
        registers = ap length (at 1) ∙ f.shaped.registers;
        predicates = ap length (at 2);
        specials = ap length (at 3);
        cache = ap length (at 4);
        counts = ap length (at 8) ∙ counts_twelve p.counts;
        replay = ap length (at 10) ∙ replay_three s.further.replay;
        word = subst (λ (l : List ℕ). get_or l 0 0 < 256) (sym (at 2)) small;
        active = subst (λ (l : List ℕ). get_or l 0 0 ≤ 1) (sym (at 10)) (replay_small s.further.replay);
        transfer = ap is_transfer (at 5) ∙ transfer_is s.transfer;
        load = ap is_load (at 6) ∙ load_is s.load;
        products = ap are_products (at 7) ∙ products_are s.further.products f.products;
        held = subst (λ (l : List ℕ). length l ≤ 16) (sym (at 9)) f.held;
      }

-- What has the form of a record is written again as it was.
pub written_again : (w : ℕ) (l : List ℕ) → AreWords l → Form w l → record_words (box_in l) ≡ l
unfolding box_in record_sections sections_from
written_again w l words f =
    let part : (k : ℕ) → AreWords (section_at k l) = λ k. section_words k l words in
    let flow = sym (by_places 2 (section_at 0 l) f.flow) in
    let predicates = (λ i. predicates_back 8 (get_or (section_at 2 l) 0 0) f.word i ∷ []) ∙ sym (by_places 1 (section_at 2 l) f.predicates) in
    let specials = sym (by_places 8 (section_at 3 l) f.specials) in
    let transfer = transfer_back (section_at 5 l) f.transfer in
    let load = load_back (section_at 6 l) f.load in
    let products = products_back (section_at 7 l) (part 7) f.products in
    let counts = counts_back (section_at 8 l) (part 8) f.counts in
    let replay = replay_back (section_at 10 l) f.replay f.active in
    ap joined (λ i. flow i ∷ section_at 1 l ∷ predicates i ∷ specials i ∷ section_at 4 l ∷ transfer i ∷ load i ∷ products i ∷ counts i ∷ section_at 9 l ∷ replay i ∷ [])
    ∙ joined_again 11 l f.cut

-- How many words there are.
pub words_many : (p : Box) → length p.state.registers ≡ 32
    → length (record_words p) ≡ 69 + length p.cache + length (transfer_section p.state.transfer) + length (load_section p.state.load) + length (product_section p.state.further.products) + length p.state.further.held
unfolding record_sections joined
words_many p registers =
    let s = p.state in
    let behind : ℕ → List ℕ = λ k. joined (drop k (record_sections p)) in
    omega (
      arith,
      registers,
      counts_twelve p.counts,
      replay_three s.further.replay,
      length-append s.registers (behind 2),
      length-append p.cache (behind 5),
      length-append (transfer_section s.transfer) (behind 6),
      length-append (load_section s.load) (behind 7),
      length-append (product_section s.further.products) (behind 8),
      length-append (count_section p.counts) (behind 9),
      length-append s.further.held (behind 10),
      length-append (replay_section s.further.replay) [],
    )
