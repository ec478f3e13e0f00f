-- What bundles are written as, and the listing of code, as texts of a report (docs/CASES.md, "The report").
use Rattle.std.specs.Prelude.{ℕ, zero, suc, ◌+◌, Bool, true, cond, ◌&&◌, List, [], ◌++◌, leb, eqb, length, Result, Ok, Err}
use Rattle.answers.specs.declared.Refusal.TheVariants as refusal
use Rattle.answers.specs.declared.Refusal.{Refusal}
use Rattle.answers.specs.Refusal.{number}
use Rattle.text.specs.Number.{decimal_text, word_text}
use Rattle.case_words.specs.Names.{bytes}
use Rattle.word.specs.Word.{add}
use Rattle.big_endian.specs.Bytes.{word_at}
use Rattle.decoder.specs.Decode.{bundle_words}
use Rattle.fetch.specs.Fetch.{following_at, fetched}
use Rattle.fetch.specs.declared.Fetched.{Fetched}
use Rattle.encoder.specs.Encode.{written, Written}
use Rattle.encoder.specs.declared.CodeWords.{CodeWords}
use Rattle.encoder.specs.declared.CodeWords.TheVariants.{One, Two}
use Rattle.disassembler.specs.Text.{bundle_text}

-- A word, and a refusal, with a space in front.
unfoldable pub spaced : ℕ → List ℕ
spaced w = bytes " " ++ word_text w

unfoldable pub refused_text : ℕ → List ℕ
refused_text n = bytes " refused " ++ decimal_text n

-- What is written: its words, or the number of the refusal.
unfoldable pub written_text : Result CodeWords ℕ → List ℕ
written_text (Ok (One w)) = spaced w
written_text (Ok (Two w v)) = spaced w ++ spaced v
written_text (Err n) = refused_text n

-- What is written, with its refusal by its number.
abbrev pub told : Written → Result CodeWords ℕ
told (Ok w) = Ok w
told (Err r) = Err (number r)

-- The fixed form is shown where it differs from the words that stand in the code. What was decoded is never refused (encoder_laws), so for
-- a refusal nothing is shown.
abbrev pub is_fixed : Written → ℕ → ℕ → Bool
is_fixed (Ok (One w)) first second = eqb w first
is_fixed (Ok (Two w v)) first second = eqb w first && eqb v second
is_fixed (Err n) first second = true

unfoldable pub fixed_text : ℕ → ℕ → Written → List ℕ
fixed_text first second w = cond (is_fixed w first second) [] (bytes " fixed" ++ written_text (told w))

-- What is found at an address: the bundle's text behind its fixed form, or why there is no bundle.
abbrev pub found_text : ℕ → ℕ → Result Fetched Refusal → List ℕ
found_text first second (Err r) = refused_text (number r)
found_text first second (Ok f) = fixed_text first second (written f.bundle) ++ (bytes " " ++ bundle_text f.bundle)

-- The words at an address: the second is shown of a bundle of two, if the code has it.
unfoldable pub has_second : List ℕ → ℕ → Bool
has_second code a = eqb (bundle_words (word_at code a)) 2 && leb (a + 8) (length code)

unfoldable pub words_text : Bool → ℕ → ℕ → List ℕ
words_text two first second = spaced first ++ cond two (spaced second) []

-- The line of an address: the address, the words there, and what is found.
unfoldable pub line_text : List ℕ → ℕ → List ℕ
line_text code a =
    (bytes "at " ++ decimal_text a)
    ++ (words_text (has_second code a) (word_at code a) (word_at code (add a 4))
    ++ (found_text (word_at code a) (word_at code (add a 4)) (fetched code a) ++ bytes "\n"))

-- A line for each bundle from an address to the code's end, at most n. Bit 31 of a first word says where the next bundle begins, also
-- where the bundle cannot be read.
unfoldable pub lines_text : ℕ → List ℕ → ℕ → List ℕ
lines_text zero code a = []
lines_text (suc n) code a = cond (leb (length code) a) [] (line_text code a ++ lines_text n code (following_at code a))

-- The listing. The code of a case has at most 65,536 bytes, and each line stands for 4 of them or more, so that no line is left out
-- (`lines_enough`). Of longer code the first 16,384 bundles are listed.
unfoldable pub list_text : List ℕ → List ℕ
list_text code = bytes "list\n" ++ lines_text 16384 code 0
