-- What is read of bytes.
use Rattle.std.specs.Prelude.{ℕ, Bool, true, false, cond, List, length}
use Rattle.core_state.specs.State.{blank}
use Rattle.bundle_model.specs.Counts.{no_counts}
use Rattle.state.specs.Whole.{state_of}
use Rattle.record_model.specs.Record.{Box, box, has_form, read_record}
use Rattle.record.specs.declared.Read.{Read}

-- Whether they have the form of a record, and the box.
pub record Reading : Type 0 where
  pub formed : Bool
  pub box : Box

abbrev pub reading_of : Bool → Box → Reading
reading_of formed box = record { formed = formed; box = box }

-- What the function gives with the cache words that it leaves.
abbrev pub read_with : Read → List ℕ → Reading
read_with r cache = reading_of r.formed (box (state_of r.state) cache r.counts)

-- W is the number of cache words lent. Of bytes without the form nothing is read: the cache words stay, and the state is one that no run
-- takes.
unfoldable pub reading : List ℕ → List ℕ → Reading
reading bytes cache = cond (has_form (length cache) bytes) (reading_of true (read_record bytes)) (reading_of false (box blank cache no_counts))
