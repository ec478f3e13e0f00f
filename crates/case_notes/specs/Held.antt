-- The bases of a held line: the blocks that the method cache holds, in the order of the file, which is the oldest first.
use Rattle.std.specs.Prelude.{ℕ, List}
use Rattle.case_kept.specs.Indices.{HOLDS}
use Rattle.case_kept.specs.Kept.{put}
use Rattle.case_notes.specs.declared.Listed.TheVariants as Listed
use Rattle.case_notes.specs.Description.{Noted}
use Rattle.case_notes.specs.Lists.{taken}

-- That a line gives some is kept beside them.
abbrev pub hold_bases : List ℕ → ℕ → List ℕ → Noted
hold_bases line list kept = taken Listed.Held line list (put kept HOLDS 1)
