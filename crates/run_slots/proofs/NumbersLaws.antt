-- The numbers from one on, and lists that are made of them.
use Prim.Native.Nat.{ℕ, zero, suc, ◌+◌, ◌-◌, ◌≤◌, ◌<◌}
use mathlib.Core.Path.{◌≡◌, refl, sym, ap, ◌∙◌}
use mathlib.Core.List.{[], ◌∷◌, map}
use native.Mathlib.Omega.{arith}
use native.Mathlib.Numerals.{add-one}
use native.Mathlib.Nat.{add-zero}
use lib.ListN.{length, get_or, set}
use Rattle.rules.specs.Slots.{numbers}

-- the numbers from k on, before n
pub numbers-turn : (k n : ℕ) → k < n → numbers (n - k) k ≡ k ∷ numbers (n - (k + 1)) (k + 1)
numbers-turn k n l = let e : n - k ≡ suc (n - (k + 1)) = omega arith in rw (e, add-one k)

pub numbers-end : (k n : ℕ) → n ≤ k → numbers (n - k) k ≡ []
numbers-end k n l = let e : n - k ≡ 0 = omega arith in rw e

pub numbers-length : (n k : ℕ) → length (numbers n k) ≡ n
numbers-length zero k = refl
numbers-length (suc n) k = ap suc (numbers-length n (suc k))

pub numbers-at : (n k i : ℕ) → i < n → get_or (numbers n k) i 0 ≡ k + i
numbers-at zero k i l = absurd (omega arith)
numbers-at (suc n) k zero l = sym (add-zero k)
numbers-at (suc n) k (suc i) l = numbers-at n (suc k) i (omega arith) ∙ omega arith

module _ {A : Type 0} where
  pub get_or-numbers : (f : ℕ → A) (d : A) (n k i : ℕ) → i < n → get_or (map f (numbers n k)) i d ≡ f (k + i)
  get_or-numbers f d zero k i h = absurd (omega arith)
  get_or-numbers f d (suc n) k zero h = rw add-zero
  get_or-numbers f d (suc n) k (suc i) h = let e : k + suc i ≡ suc k + i = omega arith in rw e (get_or-numbers f d n (suc k) i (omega arith))

  map-numbers : (f g : ℕ → A) (n k : ℕ) → ((j : ℕ) → k ≤ j → g j ≡ f j) → map g (numbers n k) ≡ map f (numbers n k)
  map-numbers f g zero k h = refl
  map-numbers f g (suc n) k h = rw (h k (omega arith), map-numbers f g n (suc k) (λ j l. h j (omega arith)))

  pub set-numbers : (f g : ℕ → A) (n k i : ℕ) → i < n → ((j : ℕ) → (j ≡ k + i → ⊥) → g j ≡ f j) →
      map g (numbers n k) ≡ set (map f (numbers n k)) i (g (k + i))
  set-numbers f g zero k i l h = absurd (omega arith)
  set-numbers f g (suc n) k zero l h = rw (add-zero k, map-numbers f g n (suc k) (λ j m. h j (λ e. omega arith)))
  set-numbers f g (suc n) k (suc i) l h =
      let e : k + suc i ≡ suc k + i = omega arith in
      rw (h k (λ q. omega arith), e, set-numbers f g n (suc k) i (omega arith) (λ j m. h j (λ q. m (omega arith))))
