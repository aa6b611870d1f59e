-- Text in a lent room: what is written at a place, cut where the room ends.
use Rattle.std.specs.Prelude.{ℕ, zero, suc, ◌+◌, ◌-◌, ◌/◌, ◌%◌, ◌≡◌, cond, [], ◌∷◌, ◌++◌, map, eqb, ltb, length, replicate}
use Prim.Native.Char.{code}
use Prim.Native.String.{String, [] as []ᵗ, ◌∷◌ as ◌∷ᵗ◌}
use Rattle.std.proofs.lemmas.List.Edits.{sets}
use Rattle.rules.specs.Lent.{Lent, was, left}
pub use Rattle.rules.specs.Bytes.{Bytes}

-- a text in ASCII
abbrev pub ascii : String → Bytes
ascii []ᵗ = []
ascii (c ∷ᵗ s) = code c ∷ ascii s

abbrev pub least : ℕ → ℕ → ℕ
least a b = a - (a - b)

abbrev pub newline : Bytes
newline = 10 ∷ []

-- the first place of a number, or the length where it does not stand
unfoldable pub position : ℕ → Bytes → ℕ
position n [] = 0
position n (b ∷ s) = cond (eqb b n) 0 (suc (position n s))

-- the bytes b were written over those of the room from `at` on, as many as it has space for; r is the place after them
pub record Wrote (b : Bytes) (at : ℕ) (room : Bytes) (r : ℕ) (room' : Bytes) : Type 0 where
  pub filled : room' ≡ sets room at b
  pub next : r ≡ at + least (length b) (length room - at)

-- the same of a lent room
abbrev pub Writes : Bytes → ℕ → Lent → ℕ → Type 0
Writes b at room r = Wrote b at (was room) r (left room)

-- the digit of a number below 16
abbrev pub digit : ℕ → ℕ
digit d = cond (ltb d 10) (48 + d) (87 + d)

-- a number in decimal, in at most k digits
unfoldable pub digits : ℕ → ℕ → Bytes
digits zero n = []
digits (suc k) n = cond (ltb n 10) (digit n ∷ []) (digits k (n / 10) ++ (digit (n % 10) ∷ []))

-- a number of 64 bits has at most 20 digits
abbrev pub decimal : ℕ → Bytes
decimal n = digits 20 n

-- the same, behind spaces up to a width
abbrev pub padded : ℕ → ℕ → Bytes
padded width n = replicate (width - length (decimal n)) 32 ++ decimal n

-- bytes in hexadecimal
unfoldable pub hex : Bytes → Bytes
hex [] = []
hex (b ∷ bs) = digit (b / 16) ∷ digit (b % 16) ∷ hex bs

-- ASCII that prints as it is, and a point for any other byte
abbrev pub printable : ℕ → ℕ
printable b = cond (ltb b 32) 46 (cond (ltb 126 b) 46 b)

-- a text in quotes
unfoldable pub quoted : Bytes → Bytes
quoted b = (34 ∷ []) ++ map printable b ++ (34 ∷ [])
