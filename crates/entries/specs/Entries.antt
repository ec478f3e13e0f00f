-- What the entries for C take and give: the method cache as three numbers, and a number for each answer.
use Rattle.std.specs.Prelude.{ℕ, ◌≤◌, Bool, true, false, not, cond, List, ◌≡◌, refl, eqb}
use Rattle.std.proofs.Common.{arith}
use Rattle.answers.specs.Answer.{Returned, accepted, done, ended, spent, refused}
use Rattle.settings.specs.declared.Config.{Config}
use Rattle.stack_cache.specs.Stack.{is_cache_size}
use Rattle.record_model.specs.Record.{longest}
use Rattle.record.specs.Written.{longest_of}
use Rattle.record.specs.RoomLaws.{size_small}
use Rattle.resume_model.specs.Resume.{Resumed}

-- The stack area and the method cache, which is on if its first number is not 0.
abbrev pub config_of : ℕ → ℕ → ℕ → ℕ → ℕ → Config
config_of lo hi on blocks bytes = record { lo = lo; hi = hi; method = record { on = not (eqb on 0); blocks = blocks; bytes = bytes } }

-- The number of an answer: a refusal's own, which is one of the documents' (1 to 20), and for the others 0, 256 and 257.
unfoldable pub answer_number : Returned → ℕ
answer_number accepted = 0
answer_number done = 0
answer_number ended = 256
answer_number spent = 257
answer_number (refused n) = n

-- What an entry that goes on from a record gives: the number of its answer, and what it leaves in each buffer.
pub record Called : Type 0 where
  pub answer : ℕ
  pub main : List ℕ
  pub local : List ℕ
  pub out : List ℕ

abbrev pub called_of : ℕ → List ℕ → List ℕ → List ℕ → Called
called_of answer main local out = record { answer = answer; main = main; local = local; out = out }

abbrev pub called : Resumed → Called
called r = called_of (answer_number r.answer) r.main r.local r.out

-- The longest record is far below 8,192 bytes.
pub longest_small : (w : ℕ) → longest_of w ≤ 8192
unfolding longest_of
longest_small w = go (is_cache_size w) refl
  where
    go : (t : Bool) → is_cache_size w ≡ t → cond t (longest w) 0 ≤ 8192
    go true e = omega (arith, size_small w e)
    go false e = omega arith
