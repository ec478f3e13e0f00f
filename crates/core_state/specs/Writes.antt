-- "Doing a bundle": what a slot of ALU effects writes, and the end of a bundle.
use Rattle.std.specs.Prelude.{ℕ, ◌-◌, Bool, cond, leb}
use Rattle.effects.specs.declared.Transfer.{Transfer}
use Rattle.effects.specs.declared.Transfer.TheVariants.{Br, Call, Block, Xret}
use Rattle.alu_effects.specs.declared.AluEffect.{AluEffect}
use Rattle.alu_effects.specs.declared.AluEffect.TheVariants as alu
use Rattle.core_state.specs.State.{State, with_register, with_predicate, going_on, transferred}
use Rattle.core_state.specs.declared.WaitingTransfer.{WaitingTransfer}
use Rattle.core_state.specs.declared.WaitingTransfer.TheVariants as transfer

-- What a slot's ALU effect writes, onto what came before.
unfoldable pub write_alu : AluEffect → State → State
write_alu alu.Nothing onto = onto
write_alu (alu.Register r v) onto = with_register onto r v
write_alu (alu.Predicate p v) onto = with_predicate onto p v

-- How many bundles come between a transfer and its target: 2 for br, 3 for the others.
unfoldable pub delay_slots : Transfer → ℕ
delay_slots (Br target) = 2
delay_slots (Call target) = 3
delay_slots (Block target base) = 3
delay_slots (Xret target base) = 3

-- A waiting transfer comes one bundle nearer, and is carried out when it falls due.
abbrev pub nearer : WaitingTransfer → ℕ → State → State
nearer transfer.Nothing following onto = going_on onto following transfer.Nothing
nearer (transfer.Waits t n) following onto =
    cond (leb n 1) (transferred onto t following) (going_on onto following (transfer.Waits t (n - 1)))

-- A transfer of this bundle waits for its delay slots; one without delay is carried out at the end of this bundle.
abbrev pub begun : Bool → Transfer → ℕ → State → State
begun delayed t following onto =
    cond delayed (going_on onto following (transfer.Waits t (delay_slots t))) (transferred onto t following)
