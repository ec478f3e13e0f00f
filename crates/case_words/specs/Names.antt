-- The words that a case file can hold, each with its meaning, and the items of a marking.
use Rattle.std.specs.Prelude.{ℕ, ◌+◌, Option, Some, None, Bool, true, false, cond, List, [], ◌∷◌, leb, eqb}
use Prim.Native.Char.{code}
use Prim.Native.String as Text
use Rattle.text.specs.Field.{same_bytes}
use Rattle.text.specs.Number.{decimal_of}
use Rattle.text.specs.Table.{is_row}
use Rattle.case_words.specs.declared.Keyword.{Keyword}
use Rattle.case_words.specs.declared.OneNumber.TheVariants as OneNumber
use Rattle.case_words.specs.declared.NumberAndWord.TheVariants as NumberAndWord
use Rattle.case_words.specs.declared.TransferKind.{TransferKind}
use Rattle.case_words.specs.declared.SpecialName.{SpecialName}
use Rattle.case_words.specs.declared.Item.{Item}

-- The bytes of a word: the codes of its characters, which are ASCII.
abbrev pub bytes : Text.String → List ℕ
bytes Text.[] = []
bytes (Text.◌∷◌ c w) = code c ∷ bytes w

-- What a field means by a table of words: nothing where it is none of them.
unfoldable pub look_up : {A : Type 0} → List (Text.String × A) → List ℕ → Option A
look_up [] s = None
look_up ((w, a) ∷ rows) s = cond (same_bytes s (bytes w)) (Some a) (look_up rows s)

-- The same by a number: the words of the rows as a table, and the meaning in the row of a number, where the first row has the number n.
unfoldable pub words : {A : Type 0} → List (Text.String × A) → List (List ℕ)
words [] = []
words ((w, a) ∷ rows) = bytes w ∷ words rows

unfoldable pub are_rows : {A : Type 0} → List (Text.String × A) → Bool
are_rows [] = true
are_rows ((w, a) ∷ rows) = cond (is_row (bytes w)) (are_rows rows) false

unfoldable pub meaning_from : {A : Type 0} → ℕ → List (Text.String × A) → ℕ → Option A
meaning_from n [] row = None
meaning_from n ((w, a) ∷ rows) row = cond (eqb row n) (Some a) (meaning_from (n + 1) rows row)

abbrev pub meaning_at : {A : Type 0} → List (Text.String × A) → ℕ → Option A
meaning_at rows row = meaning_from 0 rows row

-- The first words of the lines.
unfoldable pub keywords : List (Text.String × Keyword)
keywords =
    ("case", Keyword.Case)
    ∷ ("code", Keyword.Code)
    ∷ ("main", Keyword.OneNumber OneNumber.Main)
    ∷ ("local", Keyword.OneNumber OneNumber.Local)
    ∷ ("stack", Keyword.Stack)
    ∷ ("private", Keyword.Private)
    ∷ ("entry", Keyword.OneNumber OneNumber.Entry)
    ∷ ("fetch", Keyword.OneNumber OneNumber.Fetch)
    ∷ ("base", Keyword.OneNumber OneNumber.Base)
    ∷ ("reg", Keyword.NumberAndWord NumberAndWord.Reg)
    ∷ ("pred", Keyword.Pred)
    ∷ ("special", Keyword.Special)
    ∷ ("transfer", Keyword.Transfer)
    ∷ ("load", Keyword.NumberAndWord NumberAndWord.Load)
    ∷ ("mainword", Keyword.NumberAndWord NumberAndWord.MainWord)
    ∷ ("localword", Keyword.NumberAndWord NumberAndWord.LocalWord)
    ∷ ("cacheword", Keyword.NumberAndWord NumberAndWord.CacheWord)
    ∷ ("run", Keyword.OneNumber OneNumber.Run)
    ∷ ("step", Keyword.Step)
    ∷ ("check", Keyword.Check)
    ∷ ("write", Keyword.Write)
    ∷ ("list", Keyword.Listing)
    ∷ ("product", Keyword.Product)
    ∷ ("method", Keyword.Method)
    ∷ ("held", Keyword.Held)
    ∷ ("record", Keyword.Record)
    ∷ ("recordbytes", Keyword.OneNumber OneNumber.RecordBytes)
    ∷ ("save", Keyword.Save)
    ∷ ("resume", Keyword.Resume)
    ∷ ("restep", Keyword.Restep)
    ∷ ("interrupt", Keyword.Interrupt)
    ∷ ("handler", Keyword.Handler)
    ∷ ("listbytes", Keyword.OneNumber OneNumber.ListBytes)
    ∷ ("tablebytes", Keyword.OneNumber OneNumber.TableBytes)
    ∷ ("active", Keyword.Active)
    ∷ ("place", Keyword.OneNumber OneNumber.Place)
    ∷ ("replayed", Keyword.OneNumber OneNumber.Replayed)
    ∷ []

abbrev pub keyword_of : List ℕ → Option Keyword
keyword_of = look_up keywords

unfoldable pub transfer_kinds : List (Text.String × TransferKind)
transfer_kinds = ("br", TransferKind.Br) ∷ ("call", TransferKind.Call) ∷ ("block", TransferKind.Block) ∷ ("xret", TransferKind.Xret) ∷ []

abbrev pub transfer_kind_of : List ℕ → Option TransferKind
transfer_kind_of = look_up transfer_kinds

unfoldable pub special_names : List (Text.String × SpecialName)
special_names =
    ("sl", SpecialName.Sl)
    ∷ ("sh", SpecialName.Sh)
    ∷ ("ss", SpecialName.Ss)
    ∷ ("st", SpecialName.St)
    ∷ ("srb", SpecialName.Srb)
    ∷ ("sro", SpecialName.Sro)
    ∷ ("sxb", SpecialName.Sxb)
    ∷ ("sxo", SpecialName.Sxo)
    ∷ []

abbrev pub special_name_of : List ℕ → Option SpecialName
special_name_of = look_up special_names

-- The items of a marking that are no register and no predicate.
unfoldable pub other_items : List (Text.String × Item)
other_items =
    ("sl", Item.Sl)
    ∷ ("sh", Item.Sh)
    ∷ ("main", Item.Main)
    ∷ ("local", Item.Local)
    ∷ ("stack", Item.Stack)
    ∷ []

abbrev pub at_most : ℕ → Option ℕ → Option ℕ
at_most greatest (Some n) = cond (leb n greatest) (Some n) None
at_most greatest None = None

-- The number in a field that is a letter and a decimal number up to greatest, as `r31`.
unfoldable pub numbered : ℕ → ℕ → List ℕ → Option ℕ
numbered letter greatest [] = None
numbered letter greatest (c ∷ cs) = cond (eqb c letter) (at_most greatest (decimal_of cs)) None

abbrev pub or_else : Option ℕ → (ℕ → Item) → Option Item → Option Item
or_else (Some n) item other = Some (item n)
or_else None item other = other

-- An item of a marking: `r0` to `r31`, `p0` to `p7`, or one by name.
unfoldable pub item_of : List ℕ → Option Item
item_of s =
    or_else (numbered (code "r") 31 s) Item.Register
    (or_else (numbered (code "p") 7 s) Item.Predicate
    (look_up other_items s))
