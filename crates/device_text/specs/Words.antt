-- Lines, words, and what a word gives: a number, or bytes.
use Rattle.std.specs.Prelude.{ℕ, zero, suc, ◌+◌, ◌-◌, ◌*◌, ◌/◌, ◌%◌, Bool, true, false, cond, Option, Some, None, List, [], ◌∷◌, ◌++◌, eqb, ltb, leb, length, take, drop, get_or}
use Rattle.rules.specs.Bytes.{Bytes}
use Rattle.rules.specs.Limits.{limits}
use Rattle.text.specs.Text.{position}

-- the bytes before the first b, and those after it
abbrev pub before : ℕ → Bytes → Bytes
before b s = take (position b s) s

abbrev pub after : ℕ → Bytes → Bytes
after b s = drop (suc (position b s)) s

-- a line ends at a line feed, or where the text ends
abbrev pub line_feed : ℕ
line_feed = 10

-- a byte in front of the first line
abbrev pub ahead : ℕ → List Bytes → List Bytes
ahead x [] = (x ∷ []) ∷ []
ahead x (l ∷ ls) = (x ∷ l) ∷ ls

unfoldable pub lines : Bytes → List Bytes
lines [] = []
lines (x ∷ s) = cond (eqb x line_feed) ([] ∷ lines s) (ahead x (lines s))

-- what stands behind the first n lines
unfoldable pub behind_lines : ℕ → Bytes → Bytes
behind_lines zero s = s
behind_lines (suc n) s = after line_feed (behind_lines n s)

-- spaces, tabs and carriage returns
abbrev pub blank : ℕ → Bool
blank x = cond (eqb x 32) true (cond (eqb x 9) true (eqb x 13))

-- the place of the first one, or the length where there is none
unfoldable pub first_blank : Bytes → ℕ
first_blank [] = 0
first_blank (x ∷ s) = cond (blank x) 0 (suc (first_blank s))

-- without those at the start, and without those at the end
unfoldable pub skip : Bytes → Bytes
skip [] = []
skip (x ∷ s) = cond (blank x) (skip s) (x ∷ s)

abbrev pub kept : ℕ → Bytes → Bytes
kept x [] = cond (blank x) [] (x ∷ [])
kept x (y ∷ s) = x ∷ y ∷ s

unfoldable pub trim : Bytes → Bytes
trim [] = []
trim (x ∷ s) = kept x (trim s)

-- a comment starts with '#'
abbrev pub comment : ℕ
comment = 35

-- what a line says: it has no comment, and no blanks at its start and its end
unfoldable pub content : Bytes → Bytes
content l = skip (trim (before comment l))

-- what the line of number n says, counted from 1
unfoldable pub line_of : ℕ → Bytes → Bytes
line_of n s = content (before line_feed (behind_lines (n - 1) s))

-- words are parted by blanks: the first one, and what stands behind it
unfoldable pub word : Bytes → Bytes
word s = take (first_blank s) s

unfoldable pub rest : Bytes → Bytes
rest s = skip (drop (first_blank s) s)

-- no number: it is above the largest
abbrev pub no_number : ℕ
no_number = limits.largest + 1

-- one digit more of a number in decimal
unfoldable pub one_more : ℕ → ℕ → ℕ
one_more n b =
    cond (ltb b 48) no_number
    (cond (ltb 57 b) no_number
    (cond (leb no_number n) no_number
    (cond (leb no_number (n * 10 + (b - 48))) no_number
    (n * 10 + (b - 48)))))

unfoldable pub number_from : ℕ → Bytes → ℕ
number_from n [] = n
number_from n (b ∷ s) = number_from (one_more n b) s

-- the number that a word writes in decimal, or none
unfoldable pub number : Bytes → ℕ
number w = cond (eqb (length w) 0) no_number (number_from 0 w)

abbrev pub is_number : Bytes → Bool
is_number w = ltb (number w) no_number

-- the same as the code has it
abbrev pub decimal : Bytes → Option ℕ
decimal w = cond (is_number w) (Some (number w)) None

-- the value of a digit in hexadecimal; 16 is none
unfoldable pub digit : ℕ → ℕ
digit b =
    cond (ltb b 48) 16
    (cond (leb b 57) (b - 48)
    (cond (ltb b 65) 16
    (cond (leb b 70) (b - 55)
    (cond (ltb b 97) 16
    (cond (leb b 102) (b - 87)
    16)))))

-- the same as the code has it
abbrev pub value : ℕ → Option ℕ
value b = cond (ltb (digit b) 16) (Some (digit b)) None

unfoldable pub all_digits : Bytes → Bool
all_digits [] = true
all_digits (b ∷ s) = cond (ltb (digit b) 16) (all_digits s) false

-- the byte of two digits
abbrev pub pair : ℕ → ℕ → ℕ
pair a b = digit a % 16 * 16 + digit b % 16

-- the first n bytes that s writes in hexadecimal, and all of them
unfoldable pub unhex : ℕ → Bytes → Bytes
unhex zero s = []
unhex (suc n) s = unhex n s ++ (pair (get_or s (n * 2) 0) (get_or s (n * 2 + 1) 0) ∷ [])

unfoldable pub bytes : Bytes → Bytes
bytes w = unhex (length w / 2) w

-- a word is n bytes in hexadecimal; or 1 to n
unfoldable pub is_bytes : ℕ → Bytes → Bool
is_bytes n w = cond (eqb (length w / 2) n) (cond (eqb (length w % 2) 0) (all_digits w) false) false

unfoldable pub up_to_bytes : ℕ → Bytes → Bool
up_to_bytes n w =
    cond (eqb (length w % 2) 0)
    (cond (ltb (length w) 2) false
    (cond (ltb n (length w / 2)) false
    (all_digits w)))
    false
