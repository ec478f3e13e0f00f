-- The formats of slot one at a word of control flow: all that stand before are passed over.
use Rattle.std.specs.Prelude.{ℕ, ◌/◌, ◌%◌, ◌<◌, true, false, cond, ◌&&◌, ◌≡◌, eqb, None, Some}
use Rattle.std.proofs.Common.{ne_eqb, div-one, arith}
use Rattle.isa.specs.Format.{reading, row}
use Rattle.isa.specs.Formats.{is_set, first_formats}
use Rattle.isa.specs.Tables.{flow_table, flow_implicit_table, flow_single_table, flow_two_table}

flow_apart : (w k : ℕ) → 2 ≡ w / 33554432 % 4 → k < 16 → eqb (w / 4194304 % 32) k ≡ false
flow_apart w k p q = ne_eqb (w / 4194304 % 32) k (λ e. omega arith)

register_apart : (w k : ℕ) → 12 ≡ w / 8388608 % 16 → k < 16 → eqb (w / 4194304 % 32) k ≡ false
register_apart w k p q = ne_eqb (w / 4194304 % 32) k (λ e. omega arith)

register_upper : (w : ℕ) → 12 ≡ w / 8388608 % 16 → w / 33554432 % 4 ≡ 3
register_upper w p = omega arith

pub flow_first : (w : ℕ) → w / 33554432 % 4 ≡ 2
    → reading first_formats w ≡ row flow_table (w / 4194304 % 8) (λ f. Some (f (w % 4194304)))
unfolding reading
flow_first w p =
    let q : 2 ≡ w / 33554432 % 4 = omega arith in
    rw (
      flow_apart w 8 q (omega arith),
      flow_apart w 9 q (omega arith),
      flow_apart w 10 q (omega arith),
      flow_apart w 11 q (omega arith),
      flow_apart w 12 q (omega arith),
      p,
      div-one,
    )

pub register_first : (w : ℕ) → w / 8388608 % 16 ≡ 12
    → reading first_formats w ≡
    cond (eqb (w / 4 % 4) 0 && true) (row flow_implicit_table (w % 4) (λ f. Some (f (is_set (w / 4194304 % 2)))))
    (cond (eqb (w / 4 % 4) 1 && true) (row flow_single_table (w % 4) (λ f. Some (f (is_set (w / 4194304 % 2)) (w / 4096 % 32))))
    (cond (eqb (w / 4 % 4) 2 && true) (row flow_two_table (w % 4) (λ f. Some (f (is_set (w / 4194304 % 2)) (w / 4096 % 32) (w / 128 % 32))))
    None))
unfolding reading
register_first w p =
    let q : 12 ≡ w / 8388608 % 16 = omega arith in
    rw (
      register_apart w 8 q (omega arith),
      register_apart w 9 q (omega arith),
      register_apart w 10 q (omega arith),
      register_apart w 11 q (omega arith),
      register_apart w 12 q (omega arith),
      register_upper w q,
      p,
      div-one,
    )
