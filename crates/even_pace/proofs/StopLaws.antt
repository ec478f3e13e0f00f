-- A bundle with a load or store under a private guard, at a walked address of accepted code, is refused for its access alone.
use Rattle.std.specs.Prelude.{ℕ, ◌%◌, ◌^◌, Bool, not, cond, ◌≡◌, refl, eqb, get_or, Ok, Err}
use Rattle.std.proofs.Math.Bool.{true, false}
use Rattle.std.proofs.lemmas.Bool.{false≢true}
use Rattle.std.proofs.Common.{sym, ap, subst, ◌∙◌}
use Rattle.answers.specs.declared.Refusal.{Refusal}
use Rattle.answers.specs.Refusal.{number}
use Rattle.isa.specs.declared.AccessKind.{AccessKind}
use Rattle.isa.specs.declared.Operation.{Operation}
use Rattle.isa.specs.declared.Operation.TheVariants.{Alu, Multiply, Mts, Mfs, Load, Store, StackControl, Transfer, Trap, Xret}
use Rattle.isa.specs.declared.Instruction.{Instruction}
use Rattle.isa.specs.declared.Bundle.{Bundle}
use Rattle.isa.specs.declared.Bundle.TheVariants.{Undecodable, One, Two, Long}
use Rattle.word.specs.BoolLaws.{and_right}
use Rattle.settings.specs.declared.Settings.{Settings}
use Rattle.answers.specs.declared.Refusal.TheVariants as refusal
use Rattle.answers.specs.Answer.{Returned, accepted, done, ended, spent, refused}
use Rattle.memory.specs.Access.{load_scale, store_scale, bad_access, main_readable, main_writable, access_open, access_tests}
use Rattle.alu_effects.specs.declared.AluEffect.TheVariants as alu
use Rattle.effects.specs.declared.Effect.TheVariants as effect
use Rattle.alu_effects.specs.AluEffects.{holds}
use Rattle.effects.specs.Effect.{address, effect_of, slot_one_effect, slot_one}
use Rattle.core_state.specs.State.{State, start_of}
use Rattle.bundle_model.specs.Lookup.{lookup_tests}
use Rattle.bundle_model.specs.Refusal.{slot_tests}
use Rattle.bundle_model.proofs.ExecuteLaws.{slot_plain}
use Rattle.bundle_model.specs.Bundle.{Outcome, refused_or, bundle}
use Rattle.marking.specs.declared.Marking.{Marking}
use Rattle.marking_rules.specs.declared.Asked.{Asked}
use Rattle.marking.specs.Marking.{private_guard}
use Rattle.marking_rules.specs.Rules.{asked}
use Rattle.marking_rules.specs.RuleLaws.{alu_row_lem, stack_row, transfer_row}
use Rattle.single_path.specs.CheckLaws.{Fine}
use Rattle.even_pace.specs.Terms.{of_access, private_access, has_private_access}
use Rattle.even_pace.proofs.BundleLaws.{done_of, bundle_outcome}
use Rattle.settings.specs.Setup.{Buffers, Setup}
use Rattle.answers.specs.Test.{Verdict, verdict as verdict_of}
use Rattle.fetch.specs.Fetch.{bundle_at, following_at}

abbrev number_of : ℕ → Verdict → ℕ
number_of n (Ok u) = n
number_of n (Err r) = number r

abbrev is_refusal : Verdict → Bool
is_refusal (Ok u) = false
is_refusal (Err r) = true

module _ (g : Settings) (x : Setup) (s : State) (r : Refusal) where
  -- The three tests of an access.
  three : (u y z : Bool) → ◌≡◌ {A = Verdict} (cond u (Err refusal.Misaligned) (cond y (Err refusal.Window) (cond z (Err refusal.AccessOutside) (Ok tt)))) (Err r) → of_access (number r) ≡ true
  three true y z e = subst (λ (k : ℕ). of_access k ≡ true) (ap (number_of (number r)) e) refl
  three false true z e = subst (λ (k : ℕ). of_access k ≡ true) (ap (number_of (number r)) e) refl
  three false false true e = subst (λ (k : ℕ). of_access k ≡ true) (ap (number_of (number r)) e) refl
  three false false false e = absurd (false≢true (ap is_refusal e))

  tests_number : (main : Bool) (k : AccessKind) (a u : ℕ) → verdict_of (access_tests main g s.specials.st s.specials.ss k a u) ≡ Err r
      → of_access (number r) ≡ true
  unfolding verdict_of
  tests_number main k a u = three (not (eqb (a % u) 0)) (bad_access g s.specials.st s.specials.ss k) (not (access_open main g s.specials.st s.specials.ss k a u))

  access_number : (m : Marking) (o : Operation) → (asked m o).access ≡ true
      → verdict_of (slot_tests g x s (effect_of (start_of x.table s) o)) ≡ Err r → of_access (number r) ≡ true
  unfolding asked effect_of verdict_of
  access_number m (Alu o) h e = absurd (false≢true (sym (ap (λ (u : Asked). u.access) (alu_row_lem m o)) ∙ h))
  access_number m (Multiply f u y) h e = absurd (false≢true h)
  access_number m (Mts d r) h e = absurd (false≢true h)
  access_number m (Mfs r d) h e = absurd (false≢true h)
  access_number m (Load k w rd ra o) h e =
      let a = address s.registers s.specials.st k (load_scale w) ra o in
      tests_number (main_readable g x a (2 ^ load_scale w)) k a (2 ^ load_scale w) (sym (ap verdict_of (slot_plain g x s (effect.Load k w rd a) refl)) ∙ e)
  access_number m (Store k w ra rs o) h e =
      let a = address s.registers s.specials.st k (store_scale w) ra o in
      tests_number (main_writable g x a (2 ^ store_scale w)) k a (2 ^ store_scale w) (sym (ap verdict_of (slot_plain g x s (effect.Store k w a (get_or s.registers rs 0)) refl)) ∙ e)
  access_number m (StackControl o) h e = absurd (false≢true (sym (ap (λ (u : Asked). u.access) (stack_row m o)) ∙ h))
  access_number m (Transfer d t) h e = absurd (false≢true (sym (ap (λ (u : Asked). u.access) (transfer_row m d t)) ∙ h))
  access_number m (Trap k) h e = absurd (false≢true h)
  access_number m (Xret d) h e = absurd (false≢true h)

  slot_number : (m : Marking) (i : Instruction) → private_access m i ≡ true → verdict_of (slot_tests g x s (slot_one_effect (start_of x.table s) i)) ≡ Err r
      → of_access (number r) ≡ true
  unfolding slot_one_effect verdict_of slot_tests lookup_tests
  slot_number m i h = go (holds s.predicates i.guard)
    where
      go : (t : Bool) → verdict_of (slot_tests g x s (cond t (effect_of (start_of x.table s) i.operation) (effect.Alu alu.Nothing))) ≡ Err r → of_access (number r) ≡ true
      go true e = access_number m i.operation (and_right (private_guard m i.guard) _ h) e
      go false e = absurd (false≢true (ap is_refusal e))

  bundle_number : (m : Marking) (i : Bundle) → has_private_access m i ≡ true → verdict_of (slot_tests g x s (slot_one (start_of x.table s) i)) ≡ Err r
      → of_access (number r) ≡ true
  unfolding has_private_access
  bundle_number m Undecodable h e = absurd (false≢true h)
  bundle_number m (One i) h e = slot_number m i h e
  bundle_number m (Two i j) h e = slot_number m i h e
  bundle_number m (Long i) h e = slot_number m i h e

abbrev pub answer_number : Returned → ℕ
answer_number accepted = 0
answer_number done = 0
answer_number ended = 0
answer_number spent = 0
answer_number (refused k) = k

abbrev pub is_refused : Returned → Bool
is_refused accepted = false
is_refused done = false
is_refused ended = false
is_refused spent = false
is_refused (refused n) = true

-- At an address whose bundle can be read, a refusal of a bundle with a load or store under a private guard is the access's.
pub refused_for_access : {m : Marking} (g : Settings) (x : Setup) (s : State) (b : Buffers) (n : ℕ) → Fine m x.code s.fetch
    → has_private_access m (bundle_at x.code s.fetch) ≡ true
    → (bundle g x s b).answer ≡ refused n → of_access n ≡ true
refused_for_access {m} g x s b n f h e =
    go (verdict_of (slot_tests g x s (slot_one (start_of x.table s) i))) refl (sym (ap (λ (o : Outcome). o.answer) (bundle_outcome g x s b f)) ∙ e)
  where
    i : Bundle
    i = bundle_at x.code s.fetch

    go : (v : Verdict) → verdict_of (slot_tests g x s (slot_one (start_of x.table s) i)) ≡ v
        → (refused_or v s b (done_of g x i (following_at x.code s.fetch) s b)).answer ≡ refused n → of_access n ≡ true
    go (Ok u) p q = absurd (false≢true (ap is_refused q))
    go (Err r) p q = subst (λ (k : ℕ). of_access k ≡ true) (ap answer_number q) (bundle_number g x s r m i h p)
