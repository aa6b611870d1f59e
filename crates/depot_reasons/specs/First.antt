-- The first number that meets a test.
use Rattle.std.specs.Prelude.{ℕ, zero, suc, Bool, cond, Option, None, Some}

-- of n numbers from k on
unfoldable pub first : (ℕ → Bool) → ℕ → ℕ → Option ℕ
first test zero k = None
first test (suc n) k = cond (test k) (Some k) (first test n (suc k))
