-- A name as it is shown: control bytes and the backslash are escaped.
use Rattle.std.specs.Prelude.{ℕ, cond, [], ◌∷◌, ◌++◌, eqb, ltb}
use Rattle.text.specs.Text.{Bytes, hex}

-- '\' and 'x', and two digits
abbrev pub escape : ℕ → Bytes
escape b = (92 ∷ 120 ∷ []) ++ hex (b ∷ [])

unfoldable pub escaped_byte : ℕ → Bytes
escaped_byte b =
    cond (ltb b 32) (escape b)
    (cond (eqb b 92) (92 ∷ 92 ∷ [])
    (cond (eqb b 127) (escape b) (b ∷ [])))

unfoldable pub escaped : Bytes → Bytes
escaped [] = []
escaped (b ∷ s) = escaped_byte b ++ escaped s
