-- The theorem at work, in a case without a stopping event: a program with a branch, a store under a private guard into private memory, and
-- a stack frame that spills. One run stores, the other does not; their memories and r1 differ; and they keep even pace to the end.
use Prim.Native.Nat.{ℕ, zero, suc}
use Rattle.std.proofs.Math.Bool.{true, false, false≢true}
use Rattle.std.specs.Prelude.{List, [], ◌∷◌, ◌≡◌}
use Rattle.std.proofs.Math.Option.{some}
use Rattle.std.proofs.Math.Path.{refl}
use Rattle.std.proofs.Common.{sym, ap, ◌∙◌, arith}
use Rattle.std.proofs.Math.ListN.{get_or, get_elem?, replicate}
use Rattle.answers.specs.Answer.{done, ended}
use Rattle.settings.specs.Setup.{Buffers, buffers, is_stack_byte}
use Rattle.core_state.specs.State.{State}
use Rattle.core_state.specs.declared.WaitingLoad.TheVariants as load
use Rattle.bundle_model.specs.Counts.{no_counts}
use Rattle.run_model.specs.Run.{run, Tried, tries}
use Rattle.marking.specs.declared.Marking.{Marking}
use Rattle.single_path.specs.Check.{Walked, first, later, accepted, checked}
use Rattle.even_pace.specs.Terms.{private_byte, Agree, Stops, not_walked, refused_access, SameFetch, SameTried, Throughout}
use Rattle.even_pace.specs.StateLaws.{state_refl, with_registers_lem, with_predicates_lem}
use Rattle.even_pace.proofs.StopLaws.{is_refused}
use Rattle.even_pace.proofs.ListLaws.{All, all_at, throughout}
use Rattle.even_pace.specs.SameLaws.{same_refl}
use Rattle.even_pace.proofs.Theorem.{even_pace}
use Rattle.even_pace.specs.Examples.{bytes_of, within, lent, begin, check, tried, answered, begin_shaped, begin_well}

-- sres 4; (p1) swm [r0] = r1; sres 1, which spills; br 4; add r1 = r1, r1; add r2 = r2 + 1; the same, which the branch leaves out; the same.
abbrev pub frame : List ℕ
frame = bytes_of (0x03000004 ∷ 0x0AC60080 ∷ 0x03000001 ∷ 0x04C00004 ∷ 0x02021080 ∷ 0x00042001 ∷ 0x00042001 ∷ 0x00042001 ∷ [])

-- r1, p1 and main memory are private, and nothing else is.
abbrev pub marking : Marking
marking =
    record {
      registers = false ∷ true ∷ replicate 30 false;
      predicates = false ∷ true ∷ replicate 6 false;
      sl = false;
      sh = false;
      main = true;
      local = false;
      stack = false;
    }

-- The second run finds another byte in main memory.
abbrev pub other : Buffers
other = buffers (9 ∷ replicate 31 0) (replicate 4 0) (replicate 4 0)

pub frame_accepted : checked (within frame) 32 4 4 marking ≡ accepted
unfolding check
frame_accepted = refl

module _ (v₁ v₂ : ℕ) where
  abbrev s₁ : State
  s₁ = begin v₁ true load.Nothing

  abbrev s₂ : State
  s₂ = begin v₂ false load.Nothing

  abbrev T₁ : List Tried
  T₁ = tries (within frame) 8 s₁ lent no_counts

  abbrev T₂ : List Tried
  T₂ = tries (within frame) 8 s₂ other no_counts

  frame_agree : Agree marking (within frame) s₁ lent s₂ other
  unfolding is_stack_byte
  frame_agree =
      record {
        state = with_predicates_lem (with_registers_lem (state_refl s₁) (0 ∷ v₁ ∷ replicate 30 0) (0 ∷ v₂ ∷ replicate 30 0) (record { lengths = refl; places = registers }))
            (true ∷ true ∷ replicate 6 false) (true ∷ false ∷ replicate 6 false) (record { lengths = refl; places = predicates });
        buffers = record { main = record { lengths = refl; places = bytes }; local = same_refl (replicate 4 0); cache = same_refl (replicate 4 0) };
      }
    where
      registers : (i : ℕ) → get_or marking.registers i false ≡ false → get_or (0 ∷ v₁ ∷ replicate 30 0) i 0 ≡ get_or (0 ∷ v₂ ∷ replicate 30 0) i 0
      registers zero e = refl
      registers (suc zero) e = absurd (false≢true (sym e))
      registers (suc (suc i)) e = refl

      predicates : (i : ℕ) → get_or marking.predicates i false ≡ false
          → get_or (true ∷ true ∷ replicate 6 false) i false ≡ get_or (true ∷ false ∷ replicate 6 false) i false
      predicates zero e = refl
      predicates (suc zero) e = absurd (false≢true (sym e))
      predicates (suc (suc i)) e = refl

      bytes : (i : ℕ) → private_byte marking (within frame) i ≡ false → get_or lent.main i 0 ≡ get_or other.main i 0
      bytes zero e = absurd (false≢true (sym e))
      bytes (suc i) e = refl

  -- A bundle at a walked address that is done is no stopping event.
  Goes : Tried → Type 0
  Goes t = Walked frame t.fetch × (t.answer ≡ done)

  goes : (t : Tried) → Goes t → ¬ Stops marking frame t
  unfolding Goes
  goes t g (not_walked n) = n g.0
  goes t g (refused_access n p o q) = false≢true (ap is_refused (sym g.1 ∙ p))

  all_go : (l : List Tried) → All Goes l → (k : ℕ) (t : Tried) → get_elem? l k ≡ some t → ¬ Stops marking frame t
  all_go l a k t e = goes t (all_at Goes l a k t e)

  -- The addresses from 0 on, one after the other; the branch leaves out 24.
  path : Walked frame 0 × Walked frame 4 × Walked frame 8 × Walked frame 12 × Walked frame 16 × Walked frame 20 × Walked frame 28
  unfolding tried
  path =
      let w0 : Walked frame 0 = first (omega arith) in
      let w4 : Walked frame 4 = later w0 refl (omega arith) in
      let w8 : Walked frame 8 = later w4 refl (omega arith) in
      let w12 : Walked frame 12 = later w8 refl (omega arith) in
      let w16 : Walked frame 16 = later w12 refl (omega arith) in
      let w20 : Walked frame 20 = later w16 refl (omega arith) in
      let w24 : Walked frame 24 = later w20 refl (omega arith) in
      (w0, w4, w8, w12, w16, w20, later w24 refl (omega arith))

  go₁ : All Goes T₁
  unfolding tried All Goes
  go₁ = ((path.0, refl), ((path.1, refl), ((path.2, refl), ((path.3, refl), ((path.4, refl), ((path.5, refl), ((path.6, refl), tt)))))))

  go₂ : All Goes T₂
  unfolding tried All Goes
  go₂ = ((path.0, refl), ((path.1, refl), ((path.2, refl), ((path.3, refl), ((path.4, refl), ((path.5, refl), ((path.6, refl), tt)))))))

  -- Seven bundles are done in both runs, one word is spilled, and both end.
  pub frame_ends : ((run (within frame) 8 s₁ lent).answer ≡ ended) × ((run (within frame) 8 s₂ other).answer ≡ ended)
  unfolding answered
  frame_ends = (refl, refl)

  pub frame_spills : ((run (within frame) 8 s₁ lent).counts.spilled ≡ 1) × ((run (within frame) 8 s₂ other).counts.spilled ≡ 1)
  unfolding answered
  frame_spills = (refl, refl)

  -- It is the case without a stopping event.
  pub frame_even : Throughout (Stops marking frame) SameFetch (SameTried marking (within frame)) T₁ T₂ (run (within frame) 8 s₁ lent).answer (run (within frame) 8 s₂ other).answer
  frame_even =
      throughout (Stops marking frame) SameFetch (SameTried marking (within frame)) T₁ T₂ _ _
      (even_pace (within frame) 8 marking s₁ s₂ lent other frame_accepted (begin_shaped v₁ true load.Nothing) (begin_shaped v₂ false load.Nothing)
      (begin_well frame v₁ true) (begin_well frame v₂ false) frame_agree) (all_go T₁ go₁) (all_go T₂ go₂)
