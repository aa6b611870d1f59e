-- Lists of bytes: parts, big-endian numbers, equality, membership.
use Rattle.std.specs.Prelude.{◌≤◌, ◌<◌, ◌+◌, ◌-◌, ◌*◌, ◌/◌, ◌%◌, ◌∷◌, ◌++◌, ◌&&◌, ◌||◌}
use Rattle.rules.specs.Base.{ℕ, suc, List, [], Bool, true, false, eqb, take, drop, get_or, sets}

abbrev pub Bytes : Type 0
Bytes = List ℕ

-- the n bytes from `at`
abbrev pub part : Bytes → ℕ → ℕ → Bytes
part s at n = take n (drop at s)

-- a place in bytes: its first byte, and the one after its last
pub record Span : Type 0 where
  pub from : ℕ
  pub to : ℕ

abbrev pub span : ℕ → ℕ → Span
span a b = record { from = a; to = b }

-- the bytes at a place
abbrev pub bytes_at : Bytes → Span → Bytes
bytes_at s p = part s p.from (p.to - p.from)

-- places in an array of numbers: the first byte of number k at 2k, and the byte after it at 2k + 1
abbrev pub span_at : List ℕ → ℕ → Span
span_at a k = span (get_or a (2 * k) 0) (get_or a (2 * k + 1) 0)

-- the first n places of the array lie in that many bytes
abbrev pub InBytes : List ℕ → ℕ → ℕ → Type 0
InBytes a n size = (k : ℕ) → k < n → ((span_at a k).from ≤ (span_at a k).to) × ((span_at a k).to ≤ size)

-- the bytes b over those of s from `at` on; s keeps its length
abbrev pub put : Bytes → ℕ → Bytes → Bytes
put s at b = sets s at b

-- 01, How a run goes: 'Multi-byte numbers here are big-endian'. A number, after the digits read so far
abbrev pub num_from : ℕ → Bytes → ℕ
num_from n [] = n
num_from n (b ∷ bs) = num_from (n * 256 + b) bs

abbrev pub num : Bytes → ℕ
num bs = num_from 0 bs

-- the numbers of two and of four bytes at a place
abbrev pub two_at : Bytes → ℕ → ℕ
two_at s at = get_or s at 0 * 256 + get_or s (at + 1) 0

abbrev pub four_at : Bytes → ℕ → ℕ
four_at s at = (two_at s at * 256 + get_or s (at + 2) 0) * 256 + get_or s (at + 3) 0

-- a number as two and as four bytes
abbrev pub be2 : ℕ → Bytes
be2 n = n / 256 % 256 ∷ n % 256 ∷ []

abbrev pub be4 : ℕ → Bytes
be4 n = n / 16777216 % 256 ∷ n / 65536 % 256 ∷ be2 n

-- equal bytes
abbrev pub same : Bytes → Bytes → Bool
same [] [] = true
same [] (y ∷ ys) = false
same (x ∷ xs) [] = false
same (x ∷ xs) (y ∷ ys) = eqb x y && same xs ys

-- x is one of the list
abbrev pub member : Bytes → List Bytes → Bool
member x [] = false
member x (y ∷ ys) = same x y || member x ys

-- where x first stands in the list; the list's length, if it does not
abbrev pub index_of : Bytes → List Bytes → ℕ
index_of x [] = 0
index_of x (y ∷ ys) = elim (same x y) [ true ↦ 0 | false ↦ suc (index_of x ys) ]

-- some bytes stand in the list twice
abbrev pub repeats : List Bytes → Bool
repeats [] = false
repeats (x ∷ xs) = member x xs || repeats xs

-- each of the first list is one of the second
abbrev pub all_in : List Bytes → List Bytes → Bool
all_in [] ys = true
all_in (x ∷ xs) ys = member x ys && all_in xs ys

-- one after the other
abbrev pub flat : List Bytes → Bytes
flat [] = []
flat (b ∷ bs) = b ++ flat bs
