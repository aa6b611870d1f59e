-- Bytes that are the same, and parts of bytes that are compared one by one.
use Prim.Native.Nat.{ℕ, suc, ◌+◌, ◌-◌, ◌≤◌, ◌<◌}
use mathlib.Core.Path.{◌≡◌, refl, sym, ap, ◌∙◌}
use mathlib.Core.List.{[], ◌∷◌}
use mathlib.Core.Bool.{Bool, true, false, ◌&&◌, and-false}
use native.Mathlib.Omega.{arith}
use native.Mathlib.Nat.{add-zero}
use lib.Dec.{eqb}
use lib.ListN.{length, get_or}
use borrow.Author.Tests.{eqb-true, eqb-false, ne_eqb, eq-eqb}
use Rattle.rules.specs.Bytes.{Bytes, part, same}
use Rattle.rules.proofs.BytesLaws.{part-cons}

eqb_sym : (x y : ℕ) → eqb x y ≡ false → eqb y x ≡ false
eqb_sym x y e = ne_eqb y x (λ q. eqb-false x y e (sym q))

pub same_sym : (x y : Bytes) → same x y ≡ same y x
same_sym [] [] = refl
same_sym [] (y ∷ ys) = refl
same_sym (x ∷ xs) [] = refl
same_sym (x ∷ xs) (y ∷ ys) = go (eqb x y) refl (same_sym xs ys)
  where
    go : (b : Bool) → eqb x y ≡ b → same xs ys ≡ same ys xs → (eqb x y && same xs ys) ≡ (eqb y x && same ys xs)
    go true e ih = rw (e, eq-eqb y x (sym (eqb-true x y e))) ih
    go false e ih = rw (e, eqb_sym x y e)

pub same_lengths : (x y : Bytes) → (length x ≡ length y → ⊥) → same x y ≡ false
same_lengths [] [] d = absurd (d refl)
same_lengths [] (y ∷ ys) d = refl
same_lengths (x ∷ xs) [] d = refl
same_lengths (x ∷ xs) (y ∷ ys) d = rw (same_lengths xs ys (λ q. d (ap suc q))) (and-false (eqb x y))

module _ (a : Bytes) (i : ℕ) (b : Bytes) (j n : ℕ) where
  -- what is left of both after k bytes is the same
  unfoldable pub same_from : ℕ → Bool
  same_from k = same (part a (i + k) (n - k)) (part b (j + k) (n - k))

  pub same_start : same (part a i n) (part b j n) ≡ same_from 0
  unfolding same_from
  same_start = let u : n - 0 ≡ n = omega arith in rw (u, add-zero i, add-zero j)

  pub same_end : (k : ℕ) → n ≤ k → same_from k ≡ true
  unfolding same_from
  same_end k l = let z : n - k ≡ 0 = omega arith in rw z

  module _ (k : ℕ) (l : k < n) (f : (i + n ≤ length a) × (j + n ≤ length b)) where
    same_turn : same_from k ≡ (eqb (get_or a (i + k) 0) (get_or b (j + k) 0) && same_from (k + 1))
    unfolding same_from
    same_turn =
        let u : i + (k + 1) ≡ i + k + 1 = omega arith in
        let v : j + (k + 1) ≡ j + k + 1 = omega arith in
        let w : n - (k + 1) ≡ n - k - 1 = omega arith in
        rw (u, v, w, part-cons a (i + k) (n - k) (omega arith) (omega arith), part-cons b (j + k) (n - k) (omega arith) (omega arith))

    pub same_stop : (get_or a (i + k) 0 ≡ get_or b (j + k) 0 → ⊥) → same_from k ≡ false
    same_stop d = same_turn ∙ rw (ne_eqb _ _ d)

    pub same_next : get_or a (i + k) 0 ≡ get_or b (j + k) 0 → same_from k ≡ same_from (k + 1)
    same_next q = same_turn ∙ rw (eq-eqb _ _ q)
