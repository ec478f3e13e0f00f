-- What a verdict tells of its tests.
use Rattle.std.specs.Prelude.{ℕ, Bool, true, false, cond, List, [], ◌∷◌, ◌++◌, ◌≡◌, refl, eqb, Ok, Err}
use Rattle.answers.specs.Refusal.{number}
use Rattle.answers.specs.Test.{Test, Verdict, verdict}

-- A verdict, and where it lets pass another.
abbrev pub and_then : Verdict → Verdict → Verdict
and_then (Ok u) other = other
and_then (Err r) other = Err r

-- Tests that are joined are judged one list after the other.
pub verdict_append : (ts us : List Test) → verdict (ts ++ us) ≡ and_then (verdict ts) (verdict us)
unfolding verdict
verdict_append [] us = refl
verdict_append (t ∷ ts) us = go t.applies (verdict_append ts us)
  where
    go : (a : Bool) → verdict (ts ++ us) ≡ and_then (verdict ts) (verdict us)
        → cond a (Err t.refusal) (verdict (ts ++ us)) ≡ and_then (cond a (Err t.refusal) (verdict ts)) (verdict us)
    go true e = refl
    go false e = e

-- Whether the test with a number applies; the first one, where several have it.
abbrev pub applies_in : ℕ → List Test → Bool
applies_in n [] = false
applies_in n (t ∷ ts) = cond (eqb n (number t.refusal)) t.applies (applies_in n ts)

-- Of tests that refuse nothing none applies, whatever its number.
pub fine_applies : (n : ℕ) (ts : List Test) → verdict ts ≡ Ok tt → applies_in n ts ≡ false
unfolding verdict
fine_applies n [] e = refl
fine_applies n (t ∷ ts) e = go t.applies (eqb n (number t.refusal)) e (fine_applies n ts)
  where
    go : (a b : Bool) → cond a (Err t.refusal) (verdict ts) ≡ Ok tt → (verdict ts ≡ Ok tt → applies_in n ts ≡ false) → cond b a (applies_in n ts) ≡ false
    go true b f h = cc
    go false true f h = refl
    go false false f h = h f

-- Of joined tests that refuse nothing neither list refuses.
pub fine_both : (ts us : List Test) → verdict (ts ++ us) ≡ Ok tt → (verdict ts ≡ Ok tt) × (verdict us ≡ Ok tt)
fine_both ts us e = go (verdict ts) (rw (verdict_append ts us) at e)
  where
    go : (v : Verdict) → and_then v (verdict us) ≡ Ok tt → (v ≡ Ok tt) × (verdict us ≡ Ok tt)
    go (Ok u) f = (refl, f)
    go (Err r) f = (cc, cc)
