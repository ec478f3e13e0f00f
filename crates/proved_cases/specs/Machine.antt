-- The cases on the machine that are marked P, and the two on the greatest amount of sres. Each is a run; a new one is a new entry
-- of a list, and needs no proof.
use Rattle.std.specs.Prelude.{ℕ, ◌+◌, ◌/◌, List, [], ◌∷◌, map, refl}
use Rattle.effects.specs.declared.Transfer.TheVariants.{Br}
use Rattle.core_state.specs.declared.WaitingTransfer.TheVariants.{Nothing, Waits}
use Rattle.answers.specs.Answer.{done, refused}
use Rattle.bundle_model.specs.declared.Counts.{Counts}
use Rattle.proved_cases.specs.Case.{Case, AllHold}
use Rattle.proved_cases.specs.Run.{Given, opened, seen, Trace, traced, Flow, Tried, Run, case, runs_hold}
use Rattle.bundle_model.specs.Counts.{no_counts}

-- A cache of 16 words: twelve, and the four at the places of the addresses 1008 to 1020. The bytes of `full` are 0 to 63, in order.
abbrev pub cache_with : ℕ → ℕ → ℕ → ℕ → List ℕ
cache_with a b c d =
    0x00010203 ∷ 0x04050607 ∷ 0x08090A0B ∷ 0x0C0D0E0F ∷ 0x10111213 ∷ 0x14151617 ∷
    0x18191A1B ∷ 0x1C1D1E1F ∷ 0x20212223 ∷ 0x24252627 ∷ 0x28292A2B ∷ 0x2C2D2E2F ∷ a ∷ b ∷ c ∷ d ∷ []

abbrev pub full : List ℕ
full = cache_with 0x30313233 0x34353637 0x38393A3B 0x3C3D3E3F

-- Its last four words as they lie in main memory, big-endian.
abbrev pub four_words : List ℕ
four_words = 48 ∷ 49 ∷ 50 ∷ 51 ∷ 52 ∷ 53 ∷ 54 ∷ 55 ∷ 56 ∷ 57 ∷ 58 ∷ 59 ∷ 60 ∷ 61 ∷ 62 ∷ 63 ∷ []

abbrev pub nop : ℕ
nop = 0x00400000

-- The counts of a bundle of one cycle.
abbrev pub counting : ℕ → ℕ → Counts
counting spilled filled = record { bundles = 1; cycles = 1; spilled = spilled; filled = filled; misses = 0; fetched = 0 }

-- No transfer waits, and every bundle so far was one word, from 0 on.
abbrev pub on_at : ℕ → Flow
on_at fetch = record { fetch = fetch; transfer = Nothing; done = fetch / 4 }

-- After sres 12 st is 976, and nothing is spilled; after sres 8 st is 944 and ss 1008, and 4 words are spilled, the first to 1020.
abbrev pub reserving : List Tried → List Tried
reserving rest =
    record {  -- sres 12
      word = 0x0300000C;
      answer = done;
      counts = counting 0 0;
      stack = record { st = 976; ss = 1024; spilled = []; filled = [] };
      flow = on_at 4;
      lent = record { last = []; cache = full };
    } ∷
    record {  -- sres 8
      word = 0x03000008;
      answer = done;
      counts = counting 4 0;
      stack = record { st = 944; ss = 1008; spilled = 1020 ∷ 1016 ∷ 1012 ∷ 1008 ∷ []; filled = [] };
      flow = on_at 8;
      lent = record { last = four_words; cache = full };
    } ∷
    rest

-- After sfree 8 st is 976 again, and sens 12 fills 4 words up to ss 1024. Both from an address on, and with what the cache holds before; after
-- the fill it holds the four words that were spilled.
abbrev pub freeing : ℕ → List ℕ → List Tried
freeing address cache =
    record {  -- sfree 8
      word = 0x03200008;
      answer = done;
      counts = counting 0 0;
      stack = record { st = 976; ss = 1008; spilled = []; filled = [] };
      flow = on_at (address + 4);
      lent = record { last = four_words; cache = cache };
    } ∷
    record {  -- sens 12
      word = 0x0310000C;
      answer = done;
      counts = counting 0 4;
      stack = record { st = 976; ss = 1024; spilled = []; filled = 1008 ∷ 1012 ∷ 1016 ∷ 1020 ∷ [] };
      flow = on_at (address + 8);
      lent = record { last = four_words; cache = full };
    } ∷
    []

-- sws of r0 to a word of the new frame, which has the cache place of a word that was spilled.
abbrev pub clearing : ℕ → ℕ → List ℕ → Tried
clearing word fetch cache =
    record {
      word = word;
      answer = done;
      counts = counting 0 0;
      stack = record { st = 944; ss = 1008; spilled = []; filled = [] };
      flow = on_at fetch;
      lent = record { last = four_words; cache = cache };
    }

abbrev pub machine_runs : List Run
machine_runs =
    record {  -- the four stack instructions, one after the other
      before = [];
      cache = full;
      tried = reserving (freeing 8 full);
    } ∷
    record {  -- the same, with the new frame written in between: the fill brings back what was spilled
      before = [];
      cache = full;
      tried =
          reserving (
          clearing 0x02C00000 12 (cache_with 0 0x34353637 0x38393A3B 0x3C3D3E3F) ∷
          clearing 0x02C00001 16 (cache_with 0 0 0x38393A3B 0x3C3D3E3F) ∷
          clearing 0x02C00002 20 (cache_with 0 0 0 0x3C3D3E3F) ∷
          clearing 0x02C00003 24 (cache_with 0 0 0 0) ∷
          freeing 24 (cache_with 0 0 0 0));
    } ∷
    record {  -- br -1 at 16: "its target is 12"
      before = nop ∷ nop ∷ nop ∷ nop ∷ [];
      cache = full;
      tried =
          record {
            word = 0x04FFFFFF;
            answer = done;
            counts = counting 0 0;
            stack = record { st = 1024; ss = 1024; spilled = []; filled = [] };
            flow = record { fetch = 20; transfer = Waits (Br 12) 2; done = 1 };
            lent = record { last = []; cache = full };
          } ∷
          record {
            word = nop;
            answer = done;
            counts = counting 0 0;
            stack = record { st = 1024; ss = 1024; spilled = []; filled = [] };
            flow = record { fetch = 24; transfer = Waits (Br 12) 1; done = 2 };
            lent = record { last = []; cache = full };
          } ∷
          record {
            word = nop;
            answer = done;
            counts = counting 0 0;
            stack = record { st = 1024; ss = 1024; spilled = []; filled = [] };
            flow = record { fetch = 12; transfer = Nothing; done = 3 };
            lent = record { last = []; cache = full };
          } ∷
          [];
    } ∷
    record {  -- sres 4 under not p0: "its slot does nothing"
      before = [];
      cache = full;
      tried =
          record {
            word = 0x43000004;
            answer = done;
            counts = counting 0 0;
            stack = record { st = 1024; ss = 1024; spilled = []; filled = [] };
            flow = on_at 4;
            lent = record { last = []; cache = full };
          } ∷
          [];
    } ∷
    []

-- With 16 words sres 16 is done from an empty window, and sres 17 is refused with 7.
abbrev pub limit_runs : List Run
limit_runs =
    record {
      before = [];
      cache = full;
      tried =
          record {
            word = 0x03000010;
            answer = done;
            counts = counting 0 0;
            stack = record { st = 960; ss = 1024; spilled = []; filled = [] };
            flow = on_at 4;
            lent = record { last = []; cache = full };
          } ∷
          [];
    } ∷
    record {
      before = [];
      cache = full;
      tried =
          record {
            word = 0x03000011;
            answer = refused 7;
            counts = no_counts;
            stack = record { st = 1024; ss = 1024; spilled = []; filled = [] };
            flow = on_at 0;
            lent = record { last = []; cache = full };
          } ∷
          [];
    } ∷
    []

abbrev pub machine_cases : List (Case Given Trace)
machine_cases = map case machine_runs

pub machine_runs_lem : AllHold traced machine_cases
unfolding opened seen
machine_runs_lem = runs_hold machine_runs refl

abbrev pub limit_cases : List (Case Given Trace)
limit_cases = map case limit_runs

pub limits_run : AllHold traced limit_cases
unfolding opened seen
limits_run = runs_hold limit_runs refl
