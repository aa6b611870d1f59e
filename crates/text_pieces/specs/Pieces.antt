-- What lines of text are made of.
use Rattle.std.specs.Prelude.{ℕ, zero, suc, ◌-◌, cond, [], ◌∷◌, ◌++◌, eqb, take, drop}
use Rattle.text.specs.Text.{Bytes, ascii, decimal, hex}

-- the bytes from one place to before another, as many of them as there are
unfoldable pub between : Bytes → ℕ → ℕ → Bytes
between s from to = take (to - from) (drop from s)

-- each byte behind a space
unfoldable pub spaced : Bytes → Bytes
spaced [] = []
spaced (b ∷ s) = (32 ∷ hex (b ∷ [])) ++ spaced s

-- a number behind a label
unfoldable pub labelled : Bytes → ℕ → Bytes
labelled label n = label ++ decimal n

-- how many there are of a thing, behind a label
unfoldable pub counted : Bytes → ℕ → Bytes → Bytes
counted label n thing = labelled label n ++ thing ++ cond (eqb n 1) [] (ascii "s")

-- a code or key, behind its name
unfoldable pub coded : ℕ → Bytes
coded n = labelled (ascii " (") n ++ ascii ")"

-- the texts of the numbers below n, one after the other
unfoldable pub lines : (ℕ → Bytes) → ℕ → Bytes
lines f zero = []
lines f (suc n) = lines f n ++ f n
