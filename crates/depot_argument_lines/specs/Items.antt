-- Items one after the other at the start of bytes.
use Rattle.std.specs.Prelude.{ℕ, zero, suc, ◌+◌, cond, [], ◌++◌, Option, Some, None, eqb, ltb, length, drop}
use Rattle.text.specs.Text.{Bytes}

-- the size of an item of `head` bytes and `more` after them, 0 if s is shorter
unfoldable pub size_in : Bytes → ℕ → ℕ → ℕ
size_in s head more = cond (ltb (length s) head) 0 (cond (ltb (length s) (head + more)) 0 (head + more))

-- a size as an answer, where 0 is none
unfoldable pub sized : ℕ → Option ℕ
sized zero = None
sized (suc k) = Some (suc k)

-- the texts of k items, of which the first has number n; `missing` where an item should stand and its size is 0
unfoldable pub items_text : (Bytes → ℕ) → (ℕ → Bytes → Bytes) → (Bytes → Bytes) → ℕ → ℕ → Bytes → Bytes
items_text size text missing zero n s = []
items_text size text missing (suc k) n s =
    cond (eqb (size s) 0) (missing s) (text n s ++ items_text size text missing k (n + 1) (drop (size s) s))
