-- Numbers in a template, where each % is the next number in decimal; a refusal; and bytes.
use Rattle.std.specs.Prelude.{ℕ, zero, suc, ◌+◌, [], ◌∷◌, ◌++◌, cond, eqb, length, get_or}
use Rattle.text.specs.Text.{Bytes, ascii, newline, decimal, hex}

abbrev pub percent : ℕ
percent = 37

-- how many of the first i bytes are %
unfoldable pub used : Bytes → ℕ → ℕ
used t zero = 0
used t (suc i) = used t i + cond (eqb (get_or t i 0) percent) 1 0

abbrev pub piece : ℕ → ℕ → Bytes
piece c n = cond (eqb c percent) (decimal n) (c ∷ [])

-- what the first i bytes of a template become
unfoldable pub formatted : Bytes → Bytes → ℕ → Bytes
formatted t numbers zero = []
formatted t numbers (suc i) = formatted t numbers i ++ piece (get_or t i 0) (get_or numbers (used t i) 0)

unfoldable pub format : Bytes → Bytes → Bytes
format t numbers = formatted t numbers (length t)

unfoldable pub refused_text : ℕ → ℕ → Bytes
refused_text number place = format (ascii "refused % %" ++ newline) (number ∷ place ∷ [])

-- bytes in hexadecimal, '-' for none
unfoldable pub bytes_text : Bytes → Bytes
bytes_text b = cond (eqb (length b) 0) (ascii "-") (hex b)
