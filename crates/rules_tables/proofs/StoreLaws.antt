-- Stores at the places of rows. What holds of a whole table is one computed test.
use Prim.Native.Nat.{ℕ}
use mathlib.Core.List.{List, [], ◌∷◌}
use mathlib.Core.Bool.{Bool}
use lib.Dec.{ltb}
use lib.ListN.{set}
use Rattle.rules.proofs.TableLaws.{all}

module _ {A : Type 0} where
  -- each row's place is below n
  abbrev pub within : (A → ℕ) → ℕ → List A → Bool
  within place n = all (λ x. ltb (place x) n)

  -- the numbers t after a store for each row
  abbrev pub stored : (A → ℕ) → (A → ℕ) → List A → List ℕ → List ℕ
  stored place value [] t = t
  stored place value (x ∷ xs) t = stored place value xs (set t (place x) (value x))
