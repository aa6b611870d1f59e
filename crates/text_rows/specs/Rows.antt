-- A table of words by number, and its two lists as the code has them: the numbers, and the words with a bar after each.
use Rattle.std.specs.Prelude.{ℕ, zero, suc, ◌-◌, Bool, true, false, cond, List, [], ◌∷◌, ◌++◌, eqb, length, replicate}
use Prim.Native.String.{String}
use Rattle.text.specs.Text.{Bytes, ascii}

pub record Row : Type 0 where
  pub number : ℕ
  pub word : Bytes

infixl 70 ◌means◌
abbrev pub ◌means◌ : ℕ → String → Row
n means w = record { number = n; word = ascii w }

-- the words of numbers, each in its place
abbrev pub named : List ℕ → List String → List Row
named [] ws = []
named (n ∷ ns) [] = []
named (n ∷ ns) (w ∷ ws) = n means w ∷ named ns ws

-- the word of a number
unfoldable pub word_of : ℕ → List Row → Bytes
word_of n [] = ascii "unknown"
word_of n (r ∷ rs) = cond (eqb r.number n) r.word (word_of n rs)

unfoldable pub numbers : List Row → Bytes
numbers [] = []
numbers (r ∷ rs) = r.number ∷ numbers rs

unfoldable pub words : List Row → Bytes
words [] = ascii "unknown"
words (r ∷ rs) = r.word ++ (124 ∷ words rs)

-- what stands before the first bar, and after it
unfoldable pub before : Bytes → Bytes
before [] = []
before (b ∷ s) = cond (eqb b 124) [] (b ∷ before s)

unfoldable pub after : ℕ → Bytes → Bytes
after zero s = s
after (suc k) [] = []
after (suc k) (b ∷ s) = cond (eqb b 124) (after k s) (after (suc k) s)

-- no word has a bar
unfoldable pub barless : Bytes → Bool
barless [] = true
barless (b ∷ s) = cond (eqb b 124) false (barless s)

unfoldable pub plain : List Row → Bool
plain [] = true
plain (r ∷ rs) = cond (barless r.word) (plain rs) false

-- a word, and spaces up to a width
unfoldable pub wide : ℕ → Bytes → Bytes
wide width w = w ++ replicate (width - length w) 32
