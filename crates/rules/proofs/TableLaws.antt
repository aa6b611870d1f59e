-- What holds of each row of the table of commands, by one computed test, and what a row's set of sections says of each section.
use Prim.Native.Nat.{ℕ, ◌/◌, ◌%◌}
use mathlib.Core.Path.{◌≡◌, refl, sym, subst}
use mathlib.Core.List.{List, [], ◌∷◌}
use mathlib.Core.Bool.{Bool, true, false, not, ◌&&◌, ◌||◌}
use mathlib.Core.Option.{Option, some, none}
use native.Mathlib.Omega.{arith}
use borrow.Author.Tests.{eqb-true}
use lib.Dec.{eqb}
use Rattle.rules.specs.declared.tables.Command.{Command}
use Rattle.std.specs.Prelude.{Some, None}
use Rattle.rules.specs.Commands.{all_sections, Row, commands, row_of, among, is_allowed}
use Rattle.rules.specs.Tables.{weight_of, set_of, as_command, listed}
use Rattle.rules.proofs.GotLaws.{and-true}

module _ {A : Type 0} where
  abbrev pub all : (A → Bool) → List A → Bool
  all p [] = true
  all p (x ∷ xs) = p x && all p xs

  pub both : (p : A → Bool) (x : A) (xs : List A) → all p (x ∷ xs) ≡ true → (p x ≡ true) × (all p xs ≡ true)
  both p x xs t = and-true (p x) (all p xs) t

-- a test that each row passes, at the row of a code; and one that each number passes, at one among them
row_of_lem : (p : Row → Bool) (rs : List Row) (c : ℕ) (r : Row) → all p rs ≡ true → row_of c rs ≡ some r → p r ≡ true
row_of_lem p [] c r t e = let z : ◌≡◌ {A = ℕ} 0 1 = cc in absurd (omega arith)
row_of_lem p (x ∷ xs) c r t e = let (h, hs) = both p x xs t in go (eqb c x.number) h (row_of_lem p xs c r hs) e
  where
    go : (b : Bool) → p x ≡ true → (row_of c xs ≡ some r → p r ≡ true) → elim b [ true ↦ some x | false ↦ row_of c xs ] ≡ some r → p r ≡ true
    go true h next q = let s : x ≡ r = cc in rw (← s) h
    go false h next q = next q

pub one_of : (p : ℕ → Bool) (ks : List ℕ) (k : ℕ) → all p ks ≡ true → among k ks ≡ true → p k ≡ true
one_of p [] k t e = let z : ◌≡◌ {A = ℕ} 0 1 = cc in absurd (omega arith)
one_of p (x ∷ xs) k t e = let (h, hs) = both p x xs t in go (eqb k x) refl h (one_of p xs k hs) e
  where
    go : (b : Bool) → eqb k x ≡ b → p x ≡ true → (among k xs ≡ true → p k ≡ true) → (b || among k xs) ≡ true → p k ≡ true
    go true s h next q = rw (eqb-true k x s) h
    go false s h next q = next q

abbrev same : Bool → Bool → Bool
same true b = b
same false b = not b

same_true : (a b : Bool) → same a b ≡ true → a ≡ b
same_true true b e = sym e
same_true false true e = e
same_true false false e = refl

-- two tests that agree on each row
pub rows_agree : (f g : Row → Bool) (c : ℕ) (r : Row) → all (λ x. same (f x) (g x)) commands ≡ true → row_of c commands ≡ some r → f r ≡ g r
rows_agree f g c r t e = same_true (f r) (g r) (row_of_lem (λ x. same (f x) (g x)) commands c r t e)

-- what holds of each row and its number holds of the row of a code
abbrev pub Each : (ℕ → Row → Type 0) → List Row → Type 0
Each P [] = Unit {0}
Each P (r ∷ rs) = P r.number r × Each P rs

pub each_row : (P : ℕ → Row → Type 0) (rs : List Row) (c : ℕ) (r : Row) → Each P rs → row_of c rs ≡ some r → P c r
each_row P [] c r t e = let z : ◌≡◌ {A = ℕ} 0 1 = cc in absurd (omega arith)
each_row P (x ∷ xs) c r t e = go (eqb c x.number) refl (each_row P xs c r t.1) e
  where
    go : (b : Bool) → eqb c x.number ≡ b → (row_of c xs ≡ some r → P c r) → elim b [ true ↦ some x | false ↦ row_of c xs ] ≡ some r → P c r
    go true h next q =
        let s : x ≡ r = cc in
        subst (λ (y : Row). P c y) s (subst (λ (k : ℕ). P k x) (sym (eqb-true c x.number h)) t.0)
    go false h next q = next q

-- one proof for each row, in the order of the table
infixr 5 ◌&◌
pub ◌&◌ : {A B : Type 0} → A → B → A × B
a & b = (a, b)

-- what a look-up answered
pub listed-some : (o : Option Row) (c : Command) → listed o ≡ Some c → (r : Row) × (o ≡ some r) × (as_command r ≡ c)
listed-some none c e = let z : ◌≡◌ {A = ℕ} 0 1 = cc in absurd (omega arith)
listed-some (some r) c e = let f : as_command r ≡ c = cc in (r, refl, f)

pub listed-none : (o : Option Row) → listed o ≡ None → o ≡ none
listed-none none e = refl
listed-none (some r) e = let z : ◌≡◌ {A = ℕ} 0 1 = cc in absurd (omega arith)

-- a row's set of sections as a number has the bit of each section that the row allows
pub allowed_bit : (c k : ℕ) (r : Row) → row_of c commands ≡ some r → among k all_sections ≡ true →
    is_allowed k r.allowed ≡ eqb (set_of r.allowed / weight_of k % 2) 1
allowed_bit c k r e h =
    let bit : Row → ℕ → Bool = λ x n. same (is_allowed n x.allowed) (eqb (set_of x.allowed / weight_of n % 2) 1) in
    same_true _ _ (one_of (bit r) all_sections k (row_of_lem (λ x. all (bit x) all_sections) commands c r refl e) h)
