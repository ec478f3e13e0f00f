-- The counts: none, their sum, and how large they get. A count more is a field more in each of these, and in what a bundle counts.
use Rattle.std.specs.Prelude.{ℕ, ◌+◌, ◌*◌, ◌^◌, ◌<◌, ◌≤◌, ◌≡◌, List, get_or}
use Rattle.std.proofs.Common.{arith, add-zero, zero-add, add_assoc}
use Rattle.bundle_model.specs.declared.Counts.{Counts}

abbrev pub no_counts : Counts
no_counts = record { bundles = 0; cycles = 0; spilled = 0; filled = 0; misses = 0; fetched = 0 }

-- Inside a run the counts are six numbers that are lent.
abbrev pub counts_in : List ℕ → Counts
counts_in l =
    record { bundles = get_or l 0 0; cycles = get_or l 1 0; spilled = get_or l 2 0; filled = get_or l 3 0; misses = get_or l 4 0; fetched = get_or l 5 0 }

-- Counts are summed bundle by bundle.
abbrev pub plus : Counts → Counts → Counts
plus c d =
    record {
      bundles = c.bundles + d.bundles;
      cycles = c.cycles + d.cycles;
      spilled = c.spilled + d.spilled;
      filled = c.filled + d.filled;
      misses = c.misses + d.misses;
      fetched = c.fetched + d.fetched;
    }

pub plus_none : (c : Counts) → plus c no_counts ≡ c
plus_none c = λ i. record { bundles = add-zero c.bundles i; cycles = add-zero c.cycles i; spilled = add-zero c.spilled i; filled = add-zero c.filled i; misses = add-zero c.misses i; fetched = add-zero c.fetched i }

pub none_plus : (c : Counts) → plus no_counts c ≡ c
none_plus c = λ i. record { bundles = zero-add c.bundles i; cycles = zero-add c.cycles i; spilled = zero-add c.spilled i; filled = zero-add c.filled i; misses = zero-add c.misses i; fetched = zero-add c.fetched i }

pub plus_plus : (c d e : Counts) → plus (plus c d) e ≡ plus c (plus d e)
plus_plus c d e =
    λ i. record {
      bundles = add_assoc c.bundles d.bundles e.bundles i;
      cycles = add_assoc c.cycles d.cycles e.cycles i;
      spilled = add_assoc c.spilled d.spilled e.spilled i;
      filled = add_assoc c.filled d.filled e.filled i;
      misses = add_assoc c.misses d.misses e.misses i;
      fetched = add_assoc c.fetched d.fetched e.fetched i;
    }

-- Counts of at most n bundles: a bundle has 4 cycles, moves 512 words each way, and misses twice, for an interrupt and for slot one, and
-- fetches 8,192 words at most.
pub record Few (n : ℕ) (c : Counts) : Type 0 where
  pub bundles : c.bundles ≤ n
  pub cycles : c.cycles ≤ 4 * n
  pub spilled : c.spilled ≤ 512 * n
  pub filled : c.filled ≤ 512 * n
  pub misses : c.misses ≤ 2 * n
  pub fetched : c.fetched ≤ 8192 * n

pub few_none : (n : ℕ) → Few n no_counts
few_none n = record { bundles = omega arith; cycles = omega arith; spilled = omega arith; filled = omega arith; misses = omega arith; fetched = omega arith }

pub few_more : (m n : ℕ) (c : Counts) → m ≤ n → Few m c → Few n c
few_more m n c p q =
    record { bundles = omega (arith, q.bundles); cycles = omega (arith, q.cycles); spilled = omega (arith, q.spilled); filled = omega (arith, q.filled); misses = omega (arith, q.misses); fetched = omega (arith, q.fetched) }

pub few_plus : (m n : ℕ) (c d : Counts) → Few m c → Few n d → Few (m + n) (plus c d)
few_plus m n c d p q =
    record {
      bundles = omega (arith, p.bundles, q.bundles);
      cycles = omega (arith, p.cycles, q.cycles);
      spilled = omega (arith, p.spilled, q.spilled);
      filled = omega (arith, p.filled, q.filled);
      misses = omega (arith, p.misses, q.misses);
      fetched = omega (arith, p.fetched, q.fetched);
    }

-- Counts that fit 64 bits, as those of any budget do.
pub record Fit (c : Counts) : Type 0 where
  pub bundles : c.bundles < 2 ^ 64
  pub cycles : c.cycles < 2 ^ 64
  pub spilled : c.spilled < 2 ^ 64
  pub filled : c.filled < 2 ^ 64
  pub misses : c.misses < 2 ^ 64
  pub fetched : c.fetched < 2 ^ 64

pub few_fit : (n : ℕ) (c : Counts) → n ≤ 2 ^ 32 → Few n c → Fit c
few_fit n c p q =
    record { bundles = omega (arith, q.bundles); cycles = omega (arith, q.cycles); spilled = omega (arith, q.spilled); filled = omega (arith, q.filled); misses = omega (arith, q.misses); fetched = omega (arith, q.fetched) }

-- So do they with what a bundle adds to them, each number of it a word.
pub few_words : (c m : Counts) → Few 4294967294 c → m.bundles < 2 ^ 32 → m.cycles < 2 ^ 32 → m.spilled < 2 ^ 32 → m.filled < 2 ^ 32 → m.misses < 2 ^ 32 → m.fetched < 2 ^ 32
    → Fit (plus c m)
few_words c m f b y s l i w =
    record {
      bundles = omega (arith, f.bundles, b);
      cycles = omega (arith, f.cycles, y);
      spilled = omega (arith, f.spilled, s);
      filled = omega (arith, f.filled, l);
      misses = omega (arith, f.misses, i);
      fetched = omega (arith, f.fetched, w);
    }
