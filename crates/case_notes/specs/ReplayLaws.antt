-- An interrupt is taken whole or not at all: where there is room for both of its numbers, or for none.
use Rattle.std.specs.Prelude.{ℕ, ◌+◌, ◌≤◌, ◌<◌, ◌≡◌, refl, Ok, Err, Bool, true, false, cond, List, length, set, ltb}
use Rattle.std.proofs.Common.{ap, ◌∙◌, arith, length-set, get_or-set_same, le-leb}
use Rattle.std.proofs.lemmas.Bool.{lt-leb}
use Rattle.case_file.specs.declared.Reason.TheVariants as Reason
use Rattle.case_kept.specs.Indices.{ALL, INTERRUPTS}
use Rattle.case_kept.specs.Kept.{kept_number, put}
use Rattle.case_notes.specs.Description.{noted}
use Rattle.case_notes.specs.Lists.{behind}
use Rattle.case_notes.specs.Replay.{number_behind, interrupt}

pub interrupt_none : (kept : List ℕ) (number vector : ℕ) → 8192 ≤ kept_number kept INTERRUPTS
    → interrupt kept number vector ≡ noted (Err Reason.TooManyInterrupts) kept
unfolding interrupt behind
interrupt_none kept number vector h = rw (le-leb _ _ h)

length_put : (kept : List ℕ) (index n : ℕ) → length (put kept index n) ≡ length kept
length_put kept index n = go (ltb index ALL)
  where
    go : (t : Bool) → length (cond t (set kept index n) kept) ≡ length kept
    go true = length-set kept index n
    go false = refl

-- The list behind which a number was put.
behind_count : (kept : List ℕ) (n : ℕ) → length kept ≡ ALL → kept_number kept INTERRUPTS < 8192
    → ((number_behind n kept).judged ≡ Ok tt) × (length (number_behind n kept).kept ≡ ALL)
    × (kept_number (number_behind n kept).kept INTERRUPTS ≡ kept_number kept INTERRUPTS + 1)
unfolding behind
behind_count kept n e h =
    let c = kept_number kept INTERRUPTS in
    let k = put kept (INTERRUPTS + (c + 1)) n in
    let m = length_put kept (INTERRUPTS + (c + 1)) n ∙ e in
    rw (lt-leb 8192 c h) (refl, length_put k INTERRUPTS (c + 1) ∙ m, get_or-set_same k INTERRUPTS (c + 1) 0 (rw m (omega arith)))

pub interrupt_both : (kept : List ℕ) (number vector : ℕ) → length kept ≡ ALL → kept_number kept INTERRUPTS + 2 ≤ 8192
    → ((interrupt kept number vector).judged ≡ Ok tt) × (kept_number (interrupt kept number vector).kept INTERRUPTS ≡ kept_number kept INTERRUPTS + 2)
unfolding interrupt
interrupt_both kept number vector e h =
    let a = behind_count kept number e (omega arith) in
    let b = behind_count (number_behind number kept).kept vector a.1 (rw a.2 (omega arith)) in
    let m : kept_number kept INTERRUPTS + 1 + 1 ≡ kept_number kept INTERRUPTS + 2 = omega arith in
    rw a.0 (b.0, b.2 ∙ ap (λ (x : ℕ). x + 1) a.2 ∙ m)
