-- The bundle at an address: whether it lies in the code (2) and decodes (3), and the address that follows it.
use Rattle.std.specs.Prelude.{ℕ, ◌+◌, ◌*◌, Bool, true, false, not, ◌||◌, List, [], ◌∷◌, ltb, length, Result, Ok, Err}
use Rattle.answers.specs.declared.Refusal.{Refusal}
use Rattle.answers.specs.declared.Refusal.TheVariants as refusal
use Rattle.answers.specs.Test.{Verdict, Test, test, verdict}
use Rattle.word.specs.Word.{add, is_multiple_of4}
use Rattle.big_endian.specs.Bytes.{word_at}
use Rattle.isa.specs.declared.Bundle.{Bundle}
use Rattle.isa.specs.declared.Bundle.TheVariants.{Undecodable, One, Two, Long}
use Rattle.decoder.specs.Decode.{bundle_words, decode}
use Rattle.fetch.specs.declared.Fetched.{Fetched}

-- The bundle at an address, and the address after it.
abbrev pub bundle_at : List ℕ → ℕ → Bundle
bundle_at code a = decode (word_at code a) (word_at code (add a 4))

abbrev pub following_at : List ℕ → ℕ → ℕ
following_at code a = a + 4 * bundle_words (word_at code a)

-- 2: the fetch address is no multiple of 4, or the bundle does not lie in the code with all its words.
unfoldable pub outside_code : List ℕ → ℕ → Bool
outside_code code fetch = not (is_multiple_of4 fetch) || ltb (length code) (following_at code fetch)

-- 3: undecodable.
abbrev pub is_undecodable : Bundle → Bool
is_undecodable Undecodable = true
is_undecodable (One i) = false
is_undecodable (Two i j) = false
is_undecodable (Long i) = false

abbrev pub fetch_tests : List ℕ → ℕ → List Test
fetch_tests code a = test refusal.OutsideCode (outside_code code a) ∷ test refusal.Undecodable (is_undecodable (bundle_at code a)) ∷ []

-- The bundle with the address that follows it, unless it is refused.
abbrev pub fetching : Bundle → ℕ → Fetched
fetching b following = record { bundle = b; following = following }

abbrev pub fetched_unless : Verdict → Bundle → ℕ → Result Fetched Refusal
fetched_unless (Ok u) b following = Ok (fetching b following)
fetched_unless (Err r) b following = Err r

unfoldable pub fetched : List ℕ → ℕ → Result Fetched Refusal
fetched code a = fetched_unless (verdict (fetch_tests code a)) (bundle_at code a) (following_at code a)
