-- The bytes around a place, as text.
use Rattle.std.specs.Prelude.{ℕ, ◌+◌, ◌-◌, cond, ◌++◌, ltb, length}
use Rattle.text.specs.Text.{Bytes, ascii, hex}
use Rattle.text_pieces.specs.Pieces.{between, spaced, labelled}

-- how many bytes are shown before a place, and after it
abbrev pub shown : ℕ
shown = 8

-- the place where the bytes begin that are shown, and those before p
unfoldable pub before_text : Bytes → ℕ → Bytes
before_text s p = labelled (ascii "  ") (p - shown) ++ ascii ":" ++ spaced (between s (p - shown) p)

-- bytes before the place and after it; the byte at the place in brackets
unfoldable pub around_text : Bytes → ℕ → Bytes
around_text s p =
    cond (ltb p (length s))
    (before_text s p ++ ascii " [" ++ hex (between s p (p + 1)) ++ ascii "]" ++ spaced (between s (p + 1) (p + (1 + shown))) ++ ascii "\n")
    (before_text s (length s) ++ ascii " [end]\n")
