-- What a job gives: a value, or a refusal with its place. In a `do` block the first test that fails decides, so the order of the tests
-- is the order of 01, Refusal numbers: 'the first fault met counts .. on one item the lowest number'.
use Rattle.rules.specs.Base.{ℕ, Bool, true, false, Option, some, none, Refusal}

pub data Got (A : Type 0) : Type 0 where
  refused : Refusal → ℕ → Got A
  got : A → Got A

-- whether it is a value
abbrev pub accepted : {A : Type 0} → Got A → Bool
accepted (refused r p) = false
accepted (got a) = true

-- a refusal is handed up as it is
infixl 10 ◌>>=◌
abbrev pub ◌>>=◌ : {A B : Type 0} → Got A → (A → Got B) → Got B
◌>>=◌ (refused r p) f = refused r p
◌>>=◌ (got a) f = f a

-- the test holds, or refusal r at p
abbrev pub need : Bool → Refusal → ℕ → Got (Unit {0})
need true r p = got tt
need false r p = refused r p

-- the value that is there, or refusal r at p
abbrev pub found : {A : Type 0} → Option A → Refusal → ℕ → Got A
found none r p = refused r p
found (some a) r p = got a
