-- The counts of a bundle: 4 cycles, 512 words moved each way, one miss and 4,096 words fetched, at most.
use Rattle.std.specs.Prelude.{ℕ, zero, suc, ◌-◌, ◌*◌, ◌/◌, ◌≤◌, min, Bool, true, false, cond, List, [], ◌∷◌, ◌≡◌, refl, ltb, length, Ok, Err, Result}
use Rattle.std.proofs.Common.{sym, ap, subst, ◌∙◌, arith, le_trans, ltb-false}
use Rattle.answers.specs.declared.Refusal.{Refusal}
use Rattle.word.specs.Word.{add, sub}
use Rattle.stack_cache.specs.declared.StackControl.{StackControl}
use Rattle.stack_cache.specs.declared.StackControl.TheVariants.{Sres, Sens, Sfree, Sspill}
use Rattle.stack_cache.specs.Stack.{bad_window, bad_amount, spill_while, fill_while, spills, fills}
use Rattle.stack_cache.specs.Count.{Accepted}
use Rattle.stack_cache.specs.StackLaws.{length_below}
use Rattle.word.specs.BoolLaws.{or_right}
use Rattle.stack_control.specs.PlanLaws.{accepted_window}
use Rattle.method_cache.specs.MethodCache.{capacity_ok}
use Rattle.settings.specs.declared.Settings.{Settings}
use Rattle.settings.specs.Settings.{admits}
use Rattle.settings.specs.SettingsLaws.{words_small, capacity_ok_lem}
use Rattle.effects.specs.declared.Transfer.{Transfer}
use Rattle.effects.specs.declared.Transfer.TheVariants.{Br, Call, Block, Xret}
use Rattle.effects.specs.declared.Effect.{Effect}
use Rattle.effects.specs.declared.Effect.TheVariants as effect
use Rattle.core_state.specs.State.{State, with_held}
use Rattle.method_cache.specs.Words.{held_in}
use Rattle.bundle_model.specs.declared.Carried.{Carried}
use Rattle.bundle_model.specs.Execute.{carried_as, carried_out, one_cycle, Tallied, carrying}
use Rattle.bundle_model.proofs.ExecuteLaws.{done_fine, counted_one}
use Rattle.alu_effects.specs.declared.AluEffect.TheVariants.{Nothing}
use Rattle.bundle_model.proofs.HandedLaws.{told_done}
use Rattle.answers.specs.Test.{verdict as verdict_of}
use Rattle.answers.specs.TestLaws.{fine_both}
use Rattle.bundle_model.specs.Lookup.{lookups, lookup_tests}
use Rattle.bundle_model.specs.Refusal.{effect_tests, slot_tests}
use Rattle.bundle_model.specs.Bundle.{undelayed_cycles, cycles_of, spilled_by, filled_by, counts_of, bundle, attempt}
use Rattle.bundle_model.specs.Interrupt.{taken}
use Rattle.step_laws.specs.StepCases.{Passes, attempt_done, effect_at, bundle_cases, attempt_cases}
use Rattle.step_laws.proofs.StackKept.{Passed, fine_effect, fine_lookups, stack_accepted}
use Rattle.step_laws.specs.LookupLaws.{Found, misses_small, fetched_small, entry_found, entry_misses, entry_fetched}
use Rattle.settings.specs.Setup.{Setup, Buffers}
use Rattle.bundle_model.specs.Counts.{Few, Fit, plus, counts_in, few_none, few_plus, few_fit}

-- Each loop moves no more words than it may.
spill_while_few : (most w st ss : ℕ) → length (spill_while most w st ss) ≤ most
unfolding spill_while
spill_while_few zero w st ss = omega arith
spill_while_few (suc most) w st ss = go (ltb (4 * w) (ss - st)) (spill_while_few most w st (sub ss 4))
  where
    go : (t : Bool) → length (spill_while most w st (sub ss 4)) ≤ most → length (cond t (sub ss 4 ∷ spill_while most w st (sub ss 4)) []) ≤ suc most
    go true h = omega (arith, h)
    go false h = omega arith

fill_while_few : (most n st ss : ℕ) → length (fill_while most n st ss) ≤ most
unfolding fill_while
fill_while_few zero n st ss = omega arith
fill_while_few (suc most) n st ss = go (ltb (ss - st) (4 * n)) (fill_while_few most n st (add ss 4))
  where
    go : (t : Bool) → length (fill_while most n st (add ss 4)) ≤ most → length (cond t (ss ∷ fill_while most n st (add ss 4)) []) ≤ suc most
    go true h = omega (arith, h)
    go false h = omega arith

-- A stack instruction moves W words at most.
pub spills_few : (c : StackControl) (w st ss n : ℕ) → Accepted c w st ss n → length (spills c w st ss n) ≤ w
unfolding spills
spills_few Sres w st ss n a = spill_while_few w w (st - 4 * n) ss
spills_few Sens w st ss n a = omega arith
spills_few Sfree w st ss n a = omega arith
spills_few Sspill w st ss n a = rw (length_below (min n ((ss - st) / 4)) ss) (omega (arith, (accepted_window Sspill w st ss n a).fits))

pub fills_few : (c : StackControl) (w st ss n : ℕ) → Accepted c w st ss n → length (fills c st ss n) ≤ w
unfolding fills bad_amount
fills_few Sres w st ss n a = omega arith
fills_few Sens w st ss n a = le_trans (fill_while_few n n st ss) (ltb-false w n (or_right (bad_window w st ss) (ltb w n) a))
fills_few Sfree w st ss n a = omega arith
fills_few Sspill w st ss n a = omega arith

undelayed_small : (t : Transfer) → undelayed_cycles t ≤ 4
undelayed_small (Br target) = omega arith
undelayed_small (Call target) = omega arith
undelayed_small (Block target base) = omega arith
undelayed_small (Xret target base) = omega arith

-- What slot one has a bundle count, by the two figures of its lookups.
module _ (g : Settings) (x : Setup) (s : State) (h : g.words ≤ 512) where
  cycles_few : (e : Effect) → cycles_of e ≤ 4
  cycles_few (effect.Alu a) = omega arith
  cycles_few (effect.Special d v) = omega arith
  cycles_few (effect.Product l k) = omega arith
  cycles_few (effect.Load k w r a) = omega arith
  cycles_few (effect.Store k w a v) = omega arith
  cycles_few (effect.Stack c n m) = omega arith
  cycles_few (effect.Transfer d t) = go d
    where
      go : (y : Bool) → cond y 1 (undelayed_cycles t) ≤ 4
      go true = omega arith
      go false = undelayed_small t
  cycles_few (effect.Trap vector handler) = omega arith

  moved_few : (e : Effect) → Passed g x s e → (spilled_by g s e ≤ 512) × (filled_by s e ≤ 512)
  moved_few (effect.Alu a) p = (omega arith, omega arith)
  moved_few (effect.Special d v) p = (omega arith, omega arith)
  moved_few (effect.Product l k) p = (omega arith, omega arith)
  moved_few (effect.Load k w r a) p = (omega arith, omega arith)
  moved_few (effect.Store k w a v) p = (omega arith, omega arith)
  moved_few (effect.Stack c n m) p =
      (le_trans (spills_few c g.words s.specials.st s.specials.ss n (stack_accepted g x s c n m p)) h, le_trans (fills_few c g.words s.specials.st s.specials.ss n (stack_accepted g x s c n m p)) h)
  moved_few (effect.Transfer d t) p = (omega arith, omega arith)
  moved_few (effect.Trap vector handler) p = (omega arith, omega arith)

  effect_few : (e : Effect) → capacity_ok x.method ≡ true → Passed g x s e → Found x e → Few 1 (counts_of g x s e)
  effect_few e ok p f =
      record {
        bundles = omega arith;
        cycles = omega (arith, cycles_few e);
        spilled = omega (arith, (moved_few e p).0);
        filled = omega (arith, (moved_few e p).1);
        misses = omega (arith, misses_small x s e ok f);
        fetched = omega (arith, fetched_small x s e ok f);
      }

-- The counts of a bundle are those of one bundle, whatever it answers.
pub bundle_few : (g : Settings) (x : Setup) (s : State) (b : Buffers) → admits g ≡ true → g.method ≡ x.method → Few 1 (bundle g x s b).counts
bundle_few g x s b h m =
    bundle_cases g x s b (λ o. Few 1 o.counts) (λ n j. few_none 1)
    (λ j. effect_few g x s (words_small g h) (effect_at x s) (sym (ap capacity_ok m) ∙ capacity_ok_lem g h) (fine_effect g x s j (effect_at x s) refl) (fine_lookups g x s j))

-- So are those of a bundle as it is tried: the record's lookup and slot one's miss twice at most.
pub attempt_few : (g : Settings) (x : Setup) (s : State) (b : Buffers) → admits g ≡ true → g.method ≡ x.method → Few 1 (attempt g x s b).counts
attempt_few g x s b h m = attempt_cases g x s b (λ o. Few 1 o.counts) (λ n j. few_none 1) both
  where
    ok : capacity_ok x.method ≡ true
    ok = sym (ap capacity_ok m) ∙ capacity_ok_lem g h

    both : Passes g x s → Few 1 (attempt_done g x s b).counts
    both j =
        let t = taken x s in
        let e = effect_at x t in
        let p = fine_effect g x t j.slots e refl in
        let f = fine_lookups g x t j.slots in
        let l = entry_found x s j.entry in
        record {
          bundles = omega arith;
          cycles = omega (arith, cycles_few g x t (words_small g h) e);
          spilled = omega (arith, (moved_few g x t (words_small g h) e p).0);
          filled = omega (arith, (moved_few g x t (words_small g h) e p).1);
          misses = omega (arith, misses_small x t e ok f, entry_misses x s ok l);
          fetched = omega (arith, fetched_small x t e ok f, entry_fetched x s ok l);
        }

-- So are those of a slot one that no test refuses.
slot_few : (g : Settings) (x : Setup) (s : State) (e : Effect) → admits g ≡ true → g.method ≡ x.method → verdict_of (slot_tests g x s e) ≡ Ok tt → Few 1 (counts_of g x s e)
unfolding slot_tests
slot_few g x s e h m f =
    let both = fine_both (effect_tests g x s e) (lookup_tests x.method x.code (lookups x e)) f in
    effect_few g x s (words_small g h) e (sym (ap capacity_ok m) ∙ capacity_ok_lem g h) both.0 both.1

-- What is counted so far and what slot one adds leave room for the one cycle of its bundle.
pub one_more_fits : (g : Settings) (x : Setup) (t : State) (one : Effect) (b b' : Buffers) {r : Result Carried Refusal} (l st ss : ℕ) (w v c m : List ℕ) → admits g ≡ true → g.method ≡ x.method
    → r ≡ Ok (carrying l st ss) → carried_as r b' ≡ carried_out g x (with_held t (held_in w)) one b → Tallied r g x (with_held t (held_in w)) one w v c m → Few 4294967294 (counts_in c)
    → Fit (plus (counts_in m) one_cycle)
one_more_fits g x t one b b' l st ss w v c m h e p q k f =
    let s = with_held t (held_in w) in
    let fine = done_fine g x t (held_in w) one Nothing 0 b b' l st ss (ap (λ (y : Result Carried Refusal). carried_as y b') (sym p) ∙ q) in
    subst Fit (sym (counted_one g x s one (counts_in c) (counts_in m) (told_done l st ss p k).1))
    (few_fit 4294967295 _ (omega arith) (few_plus 4294967294 1 (counts_in c) (counts_of g x s one) f (slot_few g x s one h e fine)))
