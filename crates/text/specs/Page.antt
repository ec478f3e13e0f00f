-- A lent buffer of which the bytes at its front are used, and texts put behind them.
use Rattle.std.specs.Prelude.{ℕ, ◌+◌, ◌≡◌, cond, List, [], ◌∷◌, length, set, ltb}
use Rattle.text.specs.declared.page.Page.{Page as Lent}

-- How many bytes are used, and the whole buffer.
pub record Page : Type 0 where
  pub used : ℕ
  pub bytes : List ℕ

abbrev pub page : ℕ → List ℕ → Page
page used bytes = record { used = used; bytes = bytes }

-- One byte more. Where the buffer is full nothing changes.
abbrev pub with_byte : Page → ℕ → Page
with_byte p b = cond (ltb p.used (length p.bytes)) (page (p.used + 1) (set p.bytes p.used b)) p

-- A text, one byte after the other: as much of it as there is room for.
unfoldable pub with_text : Page → List ℕ → Page
with_text p [] = p
with_text p (b ∷ s) = with_text (with_byte p b) s

-- The page that a lent buffer holds.
abbrev pub shown : Lent → Page
shown p = page p.used p.out.now

-- A text is put, and the buffer is still the same one.
pub record Puts (before after : Lent) (text : List ℕ) : Type 0 where
  pub same : after.out.ghost_name ≡ before.out.ghost_name
  pub put : shown after ≡ with_text (shown before) text
