use Prim.Native.Nat.{ℕ, ◌+◌}
use mathlib.Core.Path.{◌≡◌}
use Rattle.depot_words.specs.CommandLine.{word_at}
use Rattle.depot_words.proofs.word_at.Given as goal

-- the words of the rest stand that many words later
abbrev pub invariant-loop : goal.invariant-loop
invariant-loop l = (j : ℕ) → word_at (j + l.counter) l.words ≡ word_at j l.rest
