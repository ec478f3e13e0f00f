-- The lookup of a transfer, for the contracts of the functions that do it.
use Rattle.std.specs.Prelude.{ℕ, ◌/◌, Bool, true, false, ◌≡◌, length, Ok, Err}
use Rattle.std.proofs.Math.Bool.{not, cond}
use Rattle.std.proofs.lemmas.Bool.{false≢true}
use mathlib.Core.List.{List, [], ◌∷◌}
use Rattle.std.proofs.Math.Path.{sym, ap, subst}
use Rattle.std.proofs.Common.{◌∙◌, add-zero}
use Rattle.answers.specs.declared.Refusal.TheVariants as refusal
use Rattle.answers.specs.Test.{Verdict, Test, test, verdict}
use Rattle.method_cache.specs.declared.Looked.{Looked}
use Rattle.method_cache.specs.MethodCache.{capacity_ok, bad_block, is_held, size_at, held_after, misses, words_fetched}
use Rattle.method_cache.specs.Words.{held_in, FixedHeld, looked_words, words_after, looked_count}
use Rattle.settings.specs.declared.Settings.{Settings}
use Rattle.settings.specs.Setup.{setup_of}
use Rattle.effects.specs.declared.Transfer.{Transfer}
use Rattle.effects.specs.declared.Transfer.TheVariants.{Br, Call, Block, Xret}
use Rattle.core_state.specs.declared.WaitingTransfer.{WaitingTransfer}
use Rattle.core_state.specs.State.{none_waits}
use Rattle.bundle_model.specs.Lookup.{bases_of, lookup_tests}
use Rattle.bundle_model.specs.LookupLaws.{words_say, words_keep}

-- The base that a transfer brings, and 0 for br.
abbrev pub new_base : Transfer → ℕ
new_base (Br target) = 0
new_base (Call target) = target
new_base (Block target base) = base
new_base (Xret target base) = base

-- The words of the blocks held, w before and v after, and what was counted. Under a capacity that 1 lets pass the words say what is held.
pub record LookedUp (g : Settings) (code : List ℕ) (t : Transfer) (w v : List ℕ) (r : Looked) : Type 0 where
  pub words : v ≡ words_after g.method code w (bases_of (setup_of code g) t)
  pub misses : r.misses ≡ misses g.method code (held_in w) (bases_of (setup_of code g) t)
  pub fetched : r.fetched ≡ words_fetched g.method code (held_in w) (bases_of (setup_of code g) t)
  pub said : capacity_ok g.method ≡ true → held_in v ≡ held_after g.method code (held_in w) (bases_of (setup_of code g) t)
  pub fixed : capacity_ok g.method ≡ true → FixedHeld w → FixedHeld v

module _ (g : Settings) (code : List ℕ) (t : Transfer) (w : List ℕ) where
  -- Nothing is looked up.
  pub looked_none : [] ≡ bases_of (setup_of code g) t → LookedUp g code t w w (record { misses = 0; fetched = 0 })
  unfolding words_after held_after misses words_fetched
  looked_none e =
      record {
        words = ap (words_after g.method code w) e;
        misses = ap (misses g.method code (held_in w)) e;
        fetched = ap (words_fetched g.method code (held_in w)) e;
        said = λ ok. ap (held_after g.method code (held_in w)) e;
        fixed = λ ok f. f;
      }

  -- One block is looked up.
  pub looked_one : (v : List ℕ) (r : Looked) (base : ℕ) → base ≡ new_base t → new_base t ∷ [] ≡ bases_of (setup_of code g) t → length w ≡ 17
      → v ≡ looked_words g.method code w base → r ≡ looked_count code (held_in w) base → LookedUp g code t w v r
  unfolding words_after held_after misses words_fetched looked_count
  looked_one v r base b e long p q =
      let one : base ∷ [] ≡ bases_of (setup_of code g) t = ap (λ (a : ℕ). a ∷ []) b ∙ e in
      let after : v ≡ words_after g.method code w (bases_of (setup_of code g) t) = p ∙ ap (words_after g.method code w) one in
      record {
        words = after;
        misses = ap (λ (y : Looked). y.misses) q ∙ sym (add-zero (cond (is_held base (held_in w)) 0 1)) ∙ ap (misses g.method code (held_in w)) one;
        fetched = ap (λ (y : Looked). y.fetched) q ∙ sym (add-zero (cond (is_held base (held_in w)) 0 (size_at code base / 4))) ∙ ap (words_fetched g.method code (held_in w)) one;
        said = λ ok. ap held_in after ∙ words_say (setup_of code g) w ok long t;
        fixed = λ ok f. subst FixedHeld (sym after) (words_keep (setup_of code g) w ok long t f);
      }

-- What is looked up, and 13 of it, by whether the transfer looks something up.
module _ (g : Settings) (code : List ℕ) (t : Transfer) where
  pub bases_none : (looks : Bool) → not looks ≡ true → cond looks (new_base t ∷ []) [] ≡ bases_of (setup_of code g) t → [] ≡ bases_of (setup_of code g) t
  bases_none true n e = absurd (false≢true n)
  bases_none false n e = e

  pub bases_one : (looks : Bool) → not looks ≡ false → cond looks (new_base t ∷ []) [] ≡ bases_of (setup_of code g) t → new_base t ∷ [] ≡ bases_of (setup_of code g) t
  bases_one true n e = e
  bases_one false n e = absurd (false≢true (sym n))

  pub judged_none : [] ≡ bases_of (setup_of code g) t → (Ok tt) ≡ verdict (lookup_tests g.method code (bases_of (setup_of code g) t))
  unfolding verdict lookup_tests
  judged_none e = ap (λ (l : List ℕ). verdict (lookup_tests g.method code l)) e

  pub judged_one : (base : ℕ) (bad : Bool) → base ≡ new_base t → new_base t ∷ [] ≡ bases_of (setup_of code g) t → bad ≡ bad_block g.method code base
      → cond bad (Err refusal.NoBlock) (Ok tt) ≡ verdict (lookup_tests g.method code (bases_of (setup_of code g) t))
  unfolding verdict lookup_tests
  judged_one base bad b e p =
      ap (λ (u : Bool). cond u (Err refusal.NoBlock) (Ok tt)) (p ∙ ap (bad_block g.method code) b) ∙ ap (λ (l : List ℕ). verdict (lookup_tests g.method code l)) e

-- A transfer judged: 4 while one waits, and else 13.
module _ (w : WaitingTransfer) (ts : List Test) (none : Bool) (p : none ≡ none_waits w) where
  pub transfer_waits : not none ≡ true → Err refusal.TransferWaits ≡ verdict (test refusal.TransferWaits (not (none_waits w)) ∷ ts)
  unfolding verdict
  transfer_waits e = ap (λ (u : Bool). cond u (Err refusal.TransferWaits) (verdict ts)) (sym e ∙ ap not p)

  pub transfer_judged : (v : Verdict) → not none ≡ false → v ≡ verdict ts → v ≡ verdict (test refusal.TransferWaits (not (none_waits w)) ∷ ts)
  unfolding verdict
  transfer_judged v e q = q ∙ ap (λ (u : Bool). cond u (Err refusal.TransferWaits) (verdict ts)) (sym e ∙ ap not p)
