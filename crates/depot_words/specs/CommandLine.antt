-- The words of a command line, one after the other, each ended by a zero byte.
use Rattle.std.specs.Prelude.{ℕ, zero, suc, cond, [], ◌∷◌, ◌++◌, map, eqb, take, drop, count_by}
use Rattle.text.specs.Text.{Bytes, position}

-- word k, the first of which is word 0; empty where there are fewer
unfoldable pub word_at : ℕ → Bytes → Bytes
word_at zero s = take (position 0 s) s
word_at (suc k) s = word_at k (drop (suc (position 0 s)) s)

-- how many there are: each ends once
abbrev pub word_count : Bytes → ℕ
word_count s = count_by (λ b. eqb b 0) s

-- the words from word 1 on
unfoldable pub later_words : Bytes → Bytes
later_words s = drop (suc (position 0 s)) s

-- a line as words: a space ends one, and so does the line
abbrev pub parted : ℕ → ℕ
parted b = cond (eqb b 32) 0 b

unfoldable pub words_of : Bytes → Bytes
words_of l = map parted l ++ (0 ∷ [])
