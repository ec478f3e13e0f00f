-- A bundle of any code keeps a state well formed: the register of a load is one of 32 by its field alone.
use Rattle.std.specs.Prelude.{ℕ, Bool, cond, ◌≡◌, Option, None, Some, IfSome, Ok, Err}
use Rattle.std.proofs.Math.Bool.{true, false}
use Rattle.std.proofs.Math.Path.{refl}
use Rattle.std.proofs.Common.{sym, subst, arith}
use borrow.Author.Tests.{le-leb}
use Rattle.word.specs.Word.{add}
use Rattle.big_endian.specs.Bytes.{word_at}
use Rattle.isa.specs.declared.PredicateOperand.{PredicateOperand}
use Rattle.isa.specs.declared.AluOperation.{AluOperation}
use Rattle.isa.specs.declared.StackOperation.TheVariants.{Sres, Sens, Sfree, Sspill}
use Rattle.isa.specs.declared.Operation.{Operation}
use Rattle.isa.specs.declared.Operation.TheVariants.{Alu, Multiply, Mts, Mfs, Load, Store, StackControl, Transfer, Trap, Xret}
use Rattle.decoder.specs.Decode.{is_two_words, guard_of, slot_one as first_slot, slot_two as second_slot, one, two, long, decode}
use Rattle.isa.specs.Formats.{long_formats, applied}
use Rattle.isa.specs.Format.{reading}
use Rattle.decoder_laws.specs.Ranges.{OperationInRange}
use Rattle.decoder_laws.specs.RangeLaws.{slot_one_in_range}
use Rattle.method_cache.specs.MethodCache.{capacity_ok}
use Rattle.settings.specs.SettingsLaws.{capacity_ok_lem}
use Rattle.settings.specs.declared.Settings.{Settings}
use Rattle.settings.specs.Setup.{Setup, Buffers, lent}
use Rattle.alu_effects.specs.declared.AluEffect.TheVariants as alu
use Rattle.effects.specs.declared.Effect.TheVariants as effect
use Rattle.effects.specs.Effect.{Start, effect_of, stack_effect, slot_one_effect, slot_one}
use Rattle.alu_effects.specs.AluEffects.{holds}
use Rattle.core_state.specs.State.{State, start_of, with_done, entered, one_place_on, load_ok, parts_ok}
use Rattle.answers.specs.Test.{verdict as verdict_of}
use Rattle.bundle_model.specs.Interrupt.{due, handler_due, entry_tests, taken}
use Rattle.bundle_model.specs.InterruptLaws.{due_taken, none_taken}
use Rattle.bundle_model.specs.Bundle.{Outcome, bundle, attempt, well_formed, step}
use Rattle.step_laws.specs.StepCases.{effect_at, bundle_cases, bundle_done, attempt_cases}
use Rattle.step_laws.proofs.StepCases.{step_cases}
use Rattle.step_laws.proofs.WellFormedLaws.{WellFormed, load_begun, well_parts, well_held, well_formed_again, well_formed_parts, well_formed_whole, written_well_formed}
use Rattle.step_laws.specs.LookupLaws.{held_kept, entry_found, entry_kept}
use Rattle.step_laws.proofs.StackKept.{fine_lookups}

module _ (b : Buffers) (s : Start) where
  operation_ok : (o : Operation) → OperationInRange o → load_ok (load_begun b (effect_of s o)) ≡ true
  unfolding effect_of stack_effect
  operation_ok (Alu o) p = refl
  operation_ok (Multiply f x y) p = refl
  operation_ok (Mts d r) p = refl
  operation_ok (Mfs r d) p = refl
  operation_ok (Load k w rd ra o) p = le-leb rd 31 (omega (arith, p.0))
  operation_ok (Store k w ra rs o) p = refl
  operation_ok (StackControl (Sres n)) p = refl
  operation_ok (StackControl (Sens a)) p = refl
  operation_ok (StackControl (Sfree n)) p = refl
  operation_ok (StackControl (Sspill a)) p = refl
  operation_ok (Transfer d t) p = refl
  operation_ok (Trap n) p = refl
  operation_ok (Xret d) p = refl

  instruction_ok : (g : PredicateOperand) (o : Operation) → OperationInRange o
      → load_ok (load_begun b (slot_one_effect s (record { guard = g; operation = o }))) ≡ true
  unfolding slot_one_effect
  instruction_ok g o p = go (holds s.predicates g)
    where
      go : (t : Bool) → load_ok (load_begun b (cond t (effect_of s o) (effect.Alu alu.Nothing))) ≡ true
      go true = operation_ok o p
      go false = refl

  long_ok : (g : PredicateOperand) (o : AluOperation) → load_ok (load_begun b (slot_one_effect s (record { guard = g; operation = Alu o }))) ≡ true
  unfolding slot_one_effect effect_of
  long_ok g o = go (holds s.predicates g)
    where
      go : (t : Bool) → load_ok (load_begun b (cond t (effect_of s (Alu o)) (effect.Alu alu.Nothing))) ≡ true
      go true = refl
      go false = refl

  decoded_ok : (first second : ℕ) → load_ok (load_begun b (slot_one s (decode first second))) ≡ true
  unfolding decode
  decoded_ok first second = go (is_two_words first) (applied (reading long_formats first) second) (first_slot first) (second_slot second) (slot_one_in_range first)
    where
      go : (t : Bool) (l : Option AluOperation) (o : Option Operation) (a : Option AluOperation) → IfSome o OperationInRange
          → load_ok (load_begun b (slot_one s (cond t (long (guard_of first) l (two (guard_of first) o (guard_of second) a)) (one (guard_of first) o)))) ≡ true
      go true (Some l) o a p = long_ok (guard_of first) l
      go true None (Some o) (Some a) p = instruction_ok (guard_of first) o p
      go true None (Some o) None p = refl
      go true None None a p = refl
      go false l (Some o) a p = instruction_ok (guard_of first) o p
      go false l None a p = refl

-- A bundle, whatever it answers, keeps a state well formed: its parts by what is written, the blocks held since 13 describes no lookup.
pub bundle_well_formed : (g : Settings) (x : Setup) (s : State) (b : Buffers) → capacity_ok x.method ≡ true → well_formed x s ≡ true → well_formed x (bundle g x s b).state ≡ true
bundle_well_formed g x s b ok h =
    let parts = well_formed_parts s (well_parts x s h) in
    bundle_cases g x s b (λ o. well_formed x o.state ≡ true) (λ n j. h) (λ j.
    well_formed_again x _ _ (well_formed_whole _ (written_well_formed g b s (effect_at x s) _ _ (decoded_ok b (start_of x.table s) (word_at x.code s.fetch) (word_at x.code (add s.fetch 4))) parts))
    (held_kept x s (effect_at x s) ok (fine_lookups g x s j) (well_held x s h)))

-- So does a bundle as it is tried: the record taken, the bundle, and one bundle more of the replay.
pub taken_well_formed : (x : Setup) (s : State) → capacity_ok x.method ≡ true → verdict_of (entry_tests x s) ≡ Ok tt → well_formed x s ≡ true → well_formed x (taken x s) ≡ true
unfolding entered
taken_well_formed x s ok f h = go (due x s) refl
  where
    entering : (t : State) → parts_ok s ≡ true → t ≡ one_place_on (entered s (handler_due x s) s.fetch) → parts_ok t ≡ true
    entering t p e =
        let w = well_formed_parts s p in
        well_formed_whole t (subst WellFormed (sym e) (record { zero_register = w.zero_register; true_predicate = w.true_predicate; load = w.load; transfer = refl; products = w.products }))

    go : (t : Bool) → due x s ≡ t → well_formed x (taken x s) ≡ true
    go true e =
        subst (λ (y : State). well_formed x y ≡ true) (sym (due_taken x s e))
        (well_formed_again x _ _ (entering _ (well_parts x s h) refl) (entry_kept x s ok (entry_found x s f) (well_held x s h)))
    go false e = subst (λ (y : State). well_formed x y ≡ true) (sym (none_taken x s e)) h

done_well_formed : (x : Setup) (s : State) → well_formed x s ≡ true → well_formed x (with_done s) ≡ true
unfolding well_formed parts_ok
done_well_formed x s h = h

pub attempt_well_formed : (g : Settings) (x : Setup) (s : State) (b : Buffers) → capacity_ok x.method ≡ true → well_formed x s ≡ true → well_formed x (attempt g x s b).state ≡ true
attempt_well_formed g x s b ok h =
    attempt_cases g x s b (λ o. well_formed x o.state ≡ true) (λ n j. h) (λ j.
    done_well_formed x _ (subst (λ (o : Outcome). well_formed x o.state ≡ true) (bundle_done g x (taken x s) b j.slots)
    (bundle_well_formed g x (taken x s) b ok (taken_well_formed x s ok j.entry h))))

-- So does a step.
pub step_well_formed : (x : Setup) (s : State) (b : Buffers) → well_formed x s ≡ true → well_formed x (step x s b).state ≡ true
step_well_formed x s b h =
    step_cases x s b (λ o. well_formed x o.state ≡ true) (λ a p. h) (λ p j.
    let ok = capacity_ok_lem (lent x b) p.admitted in
    done_well_formed x _ (subst (λ (o : Outcome). well_formed x o.state ≡ true) (bundle_done (lent x b) x (taken x s) b j.slots)
    (bundle_well_formed (lent x b) x (taken x s) b ok (taken_well_formed x s ok j.entry h))))
