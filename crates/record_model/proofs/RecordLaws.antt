-- Laws of the record. A well-formed box's record is accepted and read as that box; what is read of an accepted record is written as its bytes,
-- so that different accepted records are different boxes; and how long records are. That equal boxes have equal bytes is that `record_of` is
-- a function of the box.
use Rattle.std.specs.Prelude.{ℕ, ◌+◌, ◌*◌, ◌%◌, ◌≤◌, Bool, true, false, cond, ◌&&◌, List, ◌∷◌, ◌≡◌, refl, eqb, leb, replicate}
use Rattle.std.proofs.Common.{sym, subst, ◌∙◌, add-zero, arith}
use Rattle.std.proofs.Math.Path.{ap}
use borrow.Author.Tests.{eqb-true, leb-true}
use Rattle.std.proofs.Math.ListN.{length, get_or}
use Rattle.word.specs.BoolLaws.{and_left, and_right}
use Rattle.sections.specs.Words.{AreBytes, AreWords, bytes_of, words_in}
use Rattle.sections.specs.Sections.{section_at}
use Rattle.sections.specs.WordLaws.{bytes_length, words_again, bytes_again, are_words}
use Rattle.method_cache.specs.declared.Method.{Method}
use Rattle.method_cache.specs.MethodCache.{capacity_ok, bytes_held, held_good, held_ok}
use Rattle.method_cache.proofs.CacheLaws.{capacity_on}
use Rattle.settings.specs.Setup.{Setup}
use Rattle.products.specs.Products.{product, products_ok}
use Rattle.replay.specs.Replay.{not_begun}
use Rattle.bundle_model.specs.Counts.{no_counts}
use Rattle.effects.specs.declared.Transfer.TheVariants.{Block}
use Rattle.products.specs.declared.Products.TheVariants as products
use Rattle.core_state.specs.declared.WaitingTransfer.TheVariants as transfer
use Rattle.core_state.specs.declared.WaitingLoad.TheVariants as load
use Rattle.core_state.specs.State.{State, Shaped, state, further, specials, predicates_of, fresh, parts_ok, load_ok, wait_ok}
use Rattle.bundle_model.specs.Bundle.{well_formed}
use Rattle.record_model.specs.Record.{Box, box, transfer_section, load_section, product_section, record_words, record_of, box_in, is_record, has_form, read_record, accepts, longest, shortest, InWords}
use Rattle.record_model.specs.PartLaws.{predicates_many, transfer_few, load_few, products_few}
use Rattle.record_model.specs.FormLaws.{Form, Formed, form_is, is_form, read_again, written_form, written_again, words_many}

-- The length of a record, to the byte; so no record is shorter than the shortest or longer than the longest one.
module _ (p : Box) (registers : length p.state.registers ≡ 32) where
  abbrev at_will : ℕ
  at_will =
      length (transfer_section p.state.transfer) + length (load_section p.state.load) + length (product_section p.state.further.products) + length p.state.further.held

  pub record_length_lem : length (record_of p) ≡ shortest (length p.cache) + 4 * at_will
  unfolding record_of
  record_length_lem = omega (arith, words_many p registers, bytes_length (record_words p))

  pub record_short : shortest (length p.cache) ≤ length (record_of p)
  record_short = omega (arith, record_length_lem)

  pub record_long : length p.state.further.held ≤ 16 → length (record_of p) ≤ longest (length p.cache)
  record_long few =
      let s = p.state in
      omega (arith, record_length_lem, few, transfer_few s.transfer, load_few s.load, products_few s.further.products)

-- Both are reached: by a fresh box, and by one that has all that there is room for. (Its blocks are none that 11 would let pass: what is shown is
-- that no shorter output has room for every record that can be written.)
abbrev full_box : List ℕ → Box
full_box cache =
    let p = product 1 0 0 in
    box
    (state (replicate 32 0) (true ∷ predicates_of 7 0) (specials 0 0 0 0 0 0 0 0) 0 0 (transfer.Waits (Block 0 0) 1) (load.Waits 0 0) (further (products.Two p p) (replicate 16 0) not_begun))
    cache
    no_counts

pub shortest_reached : (cache : List ℕ) → length (record_of (box (fresh 0 0 0) cache no_counts)) ≡ shortest (length cache)
unfolding fresh transfer_section load_section product_section
shortest_reached cache = record_length_lem (box (fresh 0 0 0) cache no_counts) refl ∙ add-zero (shortest (length cache))

pub longest_reached : (cache : List ℕ) → length (record_of (full_box cache)) ≡ longest (length cache)
unfolding transfer_section load_section product_section
longest_reached cache = record_length_lem (full_box cache) refl

-- Of a well-formed state no more blocks are held than a record has room for.
held_few : (c : Method) (code held : List ℕ) → capacity_ok c ≡ true → held_ok c code held ≡ true → length held ≤ 16
unfolding held_ok
held_few c code held ok h = go c.on refl h
  where
    go : (t : Bool) → c.on ≡ t → cond t (held_good c code held && (leb (length held) c.blocks && leb (bytes_held code held) c.bytes)) (eqb (length held) 0) ≡ true → length held ≤ 16
    go true e f =
        let fits = and_right (held_good c code held) (leb (length held) c.blocks && leb (bytes_held code held) c.bytes) f in
        omega (arith, leb-true (length held) c.blocks (and_left (leb (length held) c.blocks) (leb (bytes_held code held) c.bytes) fits), capacity_on c ok e)
    go false e f = omega (arith, eqb-true (length held) 0 f)

module _ (x : Setup) (s : State) (capacity : capacity_ok x.method ≡ true) (well : well_formed x s ≡ true) where
  pub well_few : length s.further.held ≤ 16
  unfolding well_formed
  well_few = held_few x.method x.code s.further.held capacity (and_right (parts_ok s) (held_ok x.method x.code s.further.held) well)

  well_products : products_ok s.further.products ≡ true
  unfolding well_formed parts_ok
  well_products =
      let parts = and_left (parts_ok s) (held_ok x.method x.code s.further.held) well in
      let rest = and_right (eqb (get_or s.registers 0 0) 0 && get_or s.predicates 0 false) ((load_ok s.load && wait_ok s.transfer) && products_ok s.further.products) parts in
      and_right (load_ok s.load && wait_ok s.transfer) (products_ok s.further.products) rest

-- A well-formed box, whose numbers are words, is what its record is read as; and the record is accepted.
module _ (x : Setup) (p : Box) (words : InWords p) (shaped : Shaped p.state) (capacity : capacity_ok x.method ≡ true) (well : well_formed x p.state ≡ true) where
  formed : Formed p
  formed = record { shaped = shaped; products = well_products x p.state capacity well; held = well_few x p.state capacity well }

  pub record_read : read_record (record_of p) ≡ p
  unfolding record_of
  record_read = ap box_in (words_again (record_words p) words) ∙ read_again p formed

  pub record_accepted : accepts x (length p.cache) (record_of p) ≡ true
  unfolding accepts has_form record_of
  record_accepted =
      let n : length (bytes_of (record_words p)) % 4 ≡ 0 = omega (arith, bytes_length (record_words p)) in
      let form = ap (is_record (length p.cache)) (words_again (record_words p) words) ∙ form_is (length p.cache) (record_words p) (written_form p formed) in
      rw (n, form) (ap (λ (q : Box). well_formed x q.state) record_read ∙ well)

-- The form of bytes that have one.
pub form_of : (w : ℕ) (bytes : List ℕ) → has_form w bytes ≡ true → Form w (words_in bytes)
unfolding has_form
form_of w bytes e = is_form w (words_in bytes) (and_right (eqb (length bytes % 4) 0) (is_record w (words_in bytes)) e)

-- What an accepted record is read as is written as its bytes.
module _ (x : Setup) (w : ℕ) (bytes : List ℕ) (are : AreBytes bytes) (accepted : accepts x w bytes ≡ true) where
  formed_bytes : has_form w bytes ≡ true
  unfolding accepts
  formed_bytes = and_left (has_form w bytes) (well_formed x (read_record bytes).state) accepted

  pub record_written : record_of (read_record bytes) ≡ bytes
  unfolding record_of has_form
  record_written =
      let form = form_of w bytes formed_bytes in
      let n = eqb-true (length bytes % 4) 0 (and_left (eqb (length bytes % 4) 0) (is_record w (words_in bytes)) formed_bytes) in
      ap bytes_of (written_again w (words_in bytes) (are_words bytes are) form) ∙ bytes_again bytes are n

-- What a record is: the bytes of a well-formed box with W cache words whose numbers are words.
pub record RecordOf (x : Setup) (w : ℕ) (bytes : List ℕ) (p : Box) : Type 0 where
  pub shaped : Shaped p.state
  pub words : InWords p
  pub well : well_formed x p.state ≡ true
  pub cache : length p.cache ≡ w
  pub written : record_of p ≡ bytes

-- Exactly these are accepted, each as its box: what is accepted is the record of what it is read as, and what is the record of a box is accepted
-- and read as that box. So 14 turns away all that is no state's record, and nothing else.
pub accepted_record : (x : Setup) (w : ℕ) (bytes : List ℕ) → AreBytes bytes → accepts x w bytes ≡ true → RecordOf x w bytes (read_record bytes)
unfolding accepts box_in
accepted_record x w bytes are e =
    let formed = and_left (has_form w bytes) (well_formed x (read_record bytes).state) e in
    let form = form_of w bytes formed in
    let l = words_in bytes in
    record {
      shaped = record { registers = form.registers; predicates = predicates_many 8 (get_or (section_at 2 l) 0 0) };
      words = subst AreWords (sym (written_again w l (are_words bytes are) form)) (are_words bytes are);
      well = and_right (has_form w bytes) (well_formed x (read_record bytes).state) e;
      cache = form.cache;
      written = record_written x w bytes are e;
    }

pub record_taken : (x : Setup) (w : ℕ) (bytes : List ℕ) (p : Box) → capacity_ok x.method ≡ true → RecordOf x w bytes p → (accepts x w bytes ≡ true) × (read_record bytes ≡ p)
record_taken x w bytes p capacity r = (
  ap (λ (n : ℕ). accepts x n bytes) (sym r.cache) ∙ ap (accepts x (length p.cache)) (sym r.written) ∙ record_accepted x p r.words r.shaped capacity r.well,
  ap read_record (sym r.written) ∙ record_read x p r.words r.shaped capacity r.well,
)

pub accepted_length : (x : Setup) (w : ℕ) (bytes : List ℕ) → AreBytes bytes → capacity_ok x.method ≡ true → accepts x w bytes ≡ true
    → (shortest w ≤ length bytes) × (length bytes ≤ longest w)
accepted_length x w bytes are capacity e =
    let r = accepted_record x w bytes are e in
    let p = read_record bytes in
    let n = ap length r.written in
    (omega (arith, record_short p r.shaped.registers, n, r.cache), omega (arith, record_long p r.shaped.registers (well_few x p.state capacity r.well), n, r.cache))

-- Two accepted records that are read as the same box are the same, whatever they were accepted for.
pub records_same : (x y : Setup) (w v : ℕ) (l m : List ℕ) → AreBytes l → AreBytes m → accepts x w l ≡ true → accepts y v m ≡ true → read_record l ≡ read_record m → l ≡ m
records_same x y w v l m a b f g e = sym (record_written x w l a f) ∙ ap record_of e ∙ record_written y v m b g
