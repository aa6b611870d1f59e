-- Where the sequences of a plan stand in an accepted envelope.
use Rattle.std.specs.Prelude.{ℕ, ◌+◌, ◌≤◌, ◌<◌, ◌≡◌, List, [], ◌∷◌, length, get_or}
use Rattle.rules.specs.Bytes.{Bytes}
use Rattle.rules.specs.Got.{got}
use Rattle.rules.specs.Limits.{limits, plan_sequences}
use Rattle.rules.specs.Manifest.{Seq, count, counts}
use Rattle.rules.specs.Check.{sequence_at}

-- a sequence that starts at `from`, as check reads it after any commands that leave it room, where each of its own weighs 1
pub record Stand (s : Bytes) (n from : ℕ) (a : Seq) : Type 0 where
  pub section : ℕ
  pub to : ℕ
  pub fits : to ≤ length s
  pub reads : (m : ℕ) → m + count a ≤ limits.commands → sequence_at s n section 1 limits.depth m to from ≡ got (a, to)

-- each sequence starts at the place of the same number
abbrev pub Stands : Bytes → ℕ → List ℕ → List Seq → Type 0
Stands s n [] [] = Unit {0}
Stands s n (p ∷ ps) (a ∷ xs) = Stand s n p a × Stands s n ps xs
Stands s n [] (a ∷ xs) = ⊥
Stands s n (p ∷ ps) [] = ⊥

-- what is left of a plan from number k on, of `total` starts in the array, after so many commands
pub record Left (s : Bytes) (n : ℕ) (starts : List ℕ) (total k commands : ℕ) (rest : List Seq) : Type 0 where
  pub places : List ℕ
  pub stands : Stands s n places rest
  pub array : (i : ℕ) → i < length places → get_or starts (k + i) 0 ≡ get_or places i 0
  pub size : k + length places ≡ total
  pub inside : total ≤ plan_sequences
  pub few : commands + counts rest ≤ limits.commands
