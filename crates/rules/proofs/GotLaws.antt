-- Taking a `do` block that gave a value apart.
use Prim.Native.Nat.{ℕ}
use mathlib.Core.Path.{◌≡◌, refl, sym, ap, ◌∙◌}
use mathlib.Core.Bool.{Bool, true, false, ◌&&◌, ◌||◌, not}
use mathlib.Core.List.{List, [], ◌∷◌, ◌++◌, append_assoc}
use mathlib.Core.Option.{Option, some, none}
use native.Mathlib.Omega.{arith}
use borrow.Author.Tests.{not-true, not-false}
use Rattle.rules.specs.Base.{Refusal}
use Rattle.rules.specs.Got.{Got, refused, got, ◌>>=◌, need, found}

module _ {A B : Type 0} where
  pub bound : (x : Got A) (f : A → Got B) (b : B) → (x >>= f) ≡ got b → (a : A) × (x ≡ got a) × (f a ≡ got b)
  bound (refused r p) f b e = let z : ◌≡◌ {A = ℕ} 0 1 = cc in absurd (omega arith)
  bound (got a) f b e = (a, refl, e)

pub and-true : (a b : Bool) → (a && b) ≡ true → (a ≡ true) × (b ≡ true)
and-true true b e = (refl, e)
and-true false b e = let z : ◌≡◌ {A = ℕ} 0 1 = cc in absurd (omega arith)

pub or-false : (a b : Bool) → (a || b) ≡ false → (a ≡ false) × (b ≡ false)
or-false true b e = let z : ◌≡◌ {A = ℕ} 0 1 = cc in absurd (omega arith)
or-false false b e = (refl, e)

-- a test `!r`, where r is t
pub fails : (r t : Bool) → r ≡ t → not r ≡ true → t ≡ false
fails r t e n = sym e ∙ not-true r n

pub holds : (r t : Bool) → r ≡ t → not r ≡ false → t ≡ true
holds r t e n = sym e ∙ not-false r n

-- the step that most proofs take: a test that passed, and the rest
pub passed : {B : Type 0} (t : Bool) (r : Refusal) (p : ℕ) (f : Unit {0} → Got B) (b : B) → (need t r p >>= f) ≡ got b → (t ≡ true) × (f tt ≡ got b)
passed true r p f b e = (refl, e)
passed false r p f b e = let z : ◌≡◌ {A = ℕ} 0 1 = cc in absurd (omega arith)

-- the same with the value as a variable: what follows is a function of it
pub split : {A B : Type 0} (C : Type 0) (x : Got A) (f : A → Got B) (b : B) → (x >>= f) ≡ got b → ((a : A) → x ≡ got a → f a ≡ got b → C) → C
split C (refused r p) f b e k = let z : ◌≡◌ {A = ℕ} 0 1 = cc in absurd (omega arith)
split C (got a) f b e k = k a refl e

-- the same with a pair
pub split₂ : {A P B : Type 0} (C : Type 0) (x : Got (A × P)) (f : A × P → Got B) (b : B) → (x >>= f) ≡ got b →
    ((a : A) (p : P) → x ≡ got (a, p) → f (a, p) ≡ got b → C) → C
split₂ C (refused r p) f b e k = let z : ◌≡◌ {A = ℕ} 0 1 = cc in absurd (omega arith)
split₂ C (got a) f b e k = k a.0 a.1 refl e

-- of two equal answers the parts are equal
pub both : {A P : Type 0} {a b : A} {p q : P} → ◌≡◌ {A = Got (A × P)} (got (a, p)) (got (b, q)) → (a ≡ b) × (p ≡ q)
both {A} {P} {a} {b} {p} {q} e = let f : ◌≡◌ {A = A × P} (a, p) (b, q) = cc in (ap (λ (x : A × P). x.0) f, ap (λ (x : A × P). x.1) f)

-- what was found
pub found-is : {A : Type 0} (o : Option A) (r : Refusal) (p : ℕ) (a : A) → found o r p ≡ got a → o ≡ some a
found-is none r p a e = let z : ◌≡◌ {A = ℕ} 0 1 = cc in absurd (omega arith)
found-is (some b) r p a e = let f : b ≡ a = cc in ap some f

-- a list of which the first items are known
module _ {A B : Type 0} where
  abbrev pub after : List A → Got (List A × B) → Got (List A × B)
  after xs g = g >>= λ a. got (xs ++ a.0, a.1)

  pub after_more : (xs : List A) (x : A) (g : Got (List A × B)) → after xs (g >>= λ a. got (x ∷ a.0, a.1)) ≡ after (xs ++ (x ∷ [])) g
  after_more xs x (refused r p) = refl
  after_more xs x (got a) = rw append_assoc

  pub after_none : (g : Got (List A × B)) → after [] g ≡ g
  after_none (refused r p) = refl
  after_none (got a) = refl
